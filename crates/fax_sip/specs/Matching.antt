-- Which transaction a message belongs to (RFC 3261, 17.1.3 and 17.2.3).
use Rattle.std.specs.Prelude.{ℕ, Bool, ◌&&◌, ◌||◌, nat_le, List, length, slice_range, codes, Option, option_map}
use Rattle.std.specs.Option.{option_and_then}
use Rattle.std.specs.Str.{bytes_eq}
use Rattle.fax_sip.specs.declared.matching.Key.{Key}
use Rattle.fax_sip.specs.declared.name.Name.TheVariants as name
use Rattle.fax_sip.specs.Fields.{first_of}
use Rattle.fax_sip.specs.Lists.{elements_of}
use Rattle.fax_sip.specs.Messages.{MessageText}
use Rattle.fax_sip.specs.Parameters.{parameter_of, via_of}
use Rattle.fax_sip.specs.Texts.{is_word}

-- what a transaction is known by, apart from where its texts lie
pub record KeyText : Type 0 where
  pub branch : List ℕ
  pub sent_by : List ℕ
  pub method : List ℕ

abbrev pub key_text : Key → KeyText
key_text key =
    record { branch = key.branch.now; sent_by = key.sent_by.now; method = key.method.now }

-- the branch and the sender of the first hop, and the method of `CSeq`
abbrev pub key_of : MessageText → Option KeyText
key_of message = option_and_then (λ hop. option_and_then (λ branch. option_map (λ via. record {
  branch = branch;
  sent_by = via.sent_by;
  method = message.sequence.method;
}) (via_of hop))
    (parameter_of (codes "branch") hop)) (first_of (elements_of name.Via message.lines))

-- an answer to a request: tokens are the same in either case of their letters (7.3.1), methods are not (7.1)
abbrev pub is_answer_to : KeyText → KeyText → Bool
is_answer_to request answer =
    is_word answer.branch request.branch && bytes_eq answer.method request.method

-- a branch of RFC 3261
abbrev pub has_cookie : List ℕ → Bool
has_cookie branch = nat_le 7 (length branch) && is_word (slice_range branch 0 7) (codes "z9hG4bK")

-- the request that began a transaction comes again, or the ACK of an INVITE comes
abbrev pub is_for : KeyText → KeyText → Bool
is_for first request = has_cookie request.branch && (is_word request.branch first.branch
    && (is_word request.sent_by first.sent_by && (bytes_eq request.method first.method
    || (bytes_eq request.method (codes "ACK") && bytes_eq first.method (codes "INVITE")))))
