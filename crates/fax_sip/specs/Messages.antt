-- What octets say as a message (RFC 3261, 7, 18.3 and 25.1).
use Rattle.std.specs.Prelude.{ℕ, ◌^◌, Bool, true, ◌&&◌, nat_lt, if◌then◌else◌, List, [], ◌∷◌, length, take, Option, None, Some, Result, Ok, Err}
use Rattle.std.specs.List.{list_all}
use Rattle.std.specs.Option.{option_and_then}
use Rattle.std.specs.Str.{bytes_eq}
use Rattle.fax_sip.specs.declared.fault.SipFault.{SipFault}
use Rattle.fax_sip.specs.declared.fault.SipFault.TheVariants.{TooLong, NoEnd, BadStart, BadField, BadSequence, BadLength, ShortBody}
use Rattle.fax_sip.specs.declared.mark.Mark.TheVariants.{Blank, HeadEnd}
use Rattle.fax_sip.specs.declared.message.Message.{Message}
use Rattle.fax_sip.specs.declared.message.Sequence.{Sequence}
use Rattle.fax_sip.specs.declared.name.Name.TheVariants as name
use Rattle.fax_sip.specs.Fields.{at_least_one, at_most_one, is_field, is_token, single}
use Rattle.fax_sip.specs.Starts.{StartText, Request, Answer, start_of, start_text}
use Rattle.fax_sip.specs.Texts.{cut, lines_of, number, trimmed}

-- the number and the method of `CSeq`, apart from where they lie
pub record SequenceText : Type 0 where
  pub number : ℕ
  pub method : List ℕ

-- a message, apart from where its texts lie
pub record MessageText : Type 0 where
  pub start : StartText
  pub lines : List (List ℕ)
  pub from : List ℕ
  pub to : List ℕ
  pub call_id : List ℕ
  pub sequence : SequenceText
  pub body : List ℕ

abbrev pub sequence_text : Sequence → SequenceText
sequence_text sequence = record { number = sequence.number; method = sequence.method.now }

abbrev pub message_text : Message → MessageText
message_text message = record {
  start = start_text message.start;
  lines = lines_of message.lines.now;
  from = message.from.now;
  to = message.to.now;
  call_id = message.call_id.now;
  sequence = sequence_text message.sequence;
  body = message.body.now;
}

-- and on, where there was no fault
infixl 10 ◌>>=◌
abbrev pub ◌>>=◌ : {A B : Type 0} → Result A SipFault → (A → Result B SipFault) → Result B SipFault
(Ok x) >>= f = f x
(Err fault) >>= f = Err fault

-- the value of `CSeq`: a number below 2 ^ 31, white space, and a method
abbrev pub sequence_of : List ℕ → Option SequenceText
sequence_of value = option_and_then (λ parts. option_and_then (λ n. let method = trimmed parts.1
    in if nat_lt n (2 ^ 31) && is_token method then Some (record { number = n; method = method })
    else None) (number parts.0)) (cut Blank value)

-- a request has the method of its `CSeq`; an answer may have any
abbrev pub agrees : StartText → List ℕ → Bool
agrees (Request word uri) method = bytes_eq word method
agrees (Answer status) method = true

abbrev pub agreed : StartText → Option SequenceText → Result SequenceText SipFault
agreed start None = Err BadSequence
agreed start (Some sequence) = if agrees start sequence.method then Ok sequence else Err BadSequence

abbrev pub sequence_for : StartText → List ℕ → Result SequenceText SipFault
sequence_for start value = agreed start (sequence_of value)

-- a body of the length that is told: what follows it counts for nothing, and none may lack
abbrev pub bounded : Option ℕ → List ℕ → Result (List ℕ) SipFault
bounded None body = Err BadLength
bounded (Some n) body = if nat_lt (length body) n then Err ShortBody else Ok (take n body)

-- where no length is told, all that follows
abbrev pub body_of : Option (List ℕ) → List ℕ → Result (List ℕ) SipFault
body_of None body = Ok body
body_of (Some digits) body = bounded (number digits) body

-- what header lines say: the first fault of these, in this order
unfoldable pub fielded : StartText → List (List ℕ) → List ℕ → Result MessageText SipFault
fielded start lines after = do
  via ← at_least_one name.Via lines
  from ← single name.From lines
  to ← single name.To lines
  call_id ← single name.CallId lines
  value ← single name.CSeq lines
  sequence ← sequence_for start value
  digits ← at_most_one name.ContentLength lines
  body ← body_of digits after
  Ok (record { start = start; lines = lines; from = from; to = to; call_id = call_id; sequence = sequence; body = body })

-- each line after the first is a header line
abbrev pub checked : StartText → List (List ℕ) → List ℕ → Result MessageText SipFault
checked start lines after =
    if list_all is_field lines then fielded start lines after else Err BadField

abbrev pub started : List (List ℕ) → List ℕ → Option StartText → Result MessageText SipFault
started lines after None = Err BadStart
started lines after (Some start) = checked start lines after

-- the lines before the empty one: the first, and the header lines
abbrev pub begun : List (List ℕ) → List ℕ → Result MessageText SipFault
begun [] after = Err BadStart
begun (line ∷ lines) after = started lines after (start_of line)

abbrev pub headed : Option (List ℕ × List ℕ) → Result MessageText SipFault
headed None = Err NoEnd
headed (Some parts) = begun (lines_of parts.0) parts.1

-- The message that octets are, or why they are none.
abbrev pub message_of : List ℕ → Result MessageText SipFault
message_of octets =
    if nat_lt 65535 (length octets) then Err TooLong else headed (cut HeadEnd octets)
