-- The first line of a message (RFC 3261, 7.1 and 7.2).
use Rattle.std.specs.Prelude.{ℕ, ◌&&◌, ◌==◌, nat_le, nat_lt, if◌then◌else◌, List, length, codes, Option, None, Some, option_map}
use Rattle.std.specs.Option.{option_and_then}
use Rattle.std.specs.Str.{bytes_eq}
use Rattle.fax_sip.specs.declared.mark.Mark.TheVariants.{Octet}
use Rattle.fax_sip.specs.declared.start.Method.{Method}
use Rattle.fax_sip.specs.declared.start.Method.TheVariants as method
use Rattle.fax_sip.specs.declared.start.Start.{Start}
use Rattle.fax_sip.specs.declared.start.Start.TheVariants as start
use Rattle.fax_sip.specs.Fields.{is_token}
use Rattle.fax_sip.specs.Texts.{cut, is_word, number}

-- a first line, apart from where its texts lie
pub data StartText : Type 0 where
  Request : (word uri : List ℕ) → StartText
  Answer : ℕ → StartText

abbrev pub start_text : Start → StartText
start_text (start.Request word uri) = Request word.now uri.now
start_text (start.Answer status) = Answer status

-- a status: three digits, 100 to 699
abbrev pub status_of : List ℕ → Option ℕ
status_of digits = if length digits == 3 then option_and_then (λ status.
    if nat_le 100 status && nat_lt status 700 then Some status else None) (number digits) else None

-- an answer: a status, a space and a reason
abbrev pub answer_of : List ℕ → Option StartText
answer_of rest =
    option_and_then (λ parts. option_map Answer (status_of parts.0)) (cut (Octet 32) rest)

-- a request: its method is a token, and after its Request-URI stands the version
abbrev pub request_of : List ℕ → List ℕ → Option StartText
request_of word rest = option_and_then
    (λ parts. if is_token word && nat_lt 0 (length parts.0) && is_word parts.1 (codes "SIP/2.0")
    then Some (Request word parts.0) else None) (cut (Octet 32) rest)

-- What a first line says: an answer begins with the version, and a request ends with it.
abbrev pub start_of : List ℕ → Option StartText
start_of line = option_and_then (λ parts. if is_word parts.0 (codes "SIP/2.0")
    then answer_of parts.1 else request_of parts.0 parts.1) (cut (Octet 32) line)

-- the method of a word
abbrev pub method_of : List ℕ → Method
method_of word =
    if bytes_eq word (codes "INVITE") then method.Invite else
    if bytes_eq word (codes "ACK") then method.Ack else
    if bytes_eq word (codes "BYE") then method.Bye else
    if bytes_eq word (codes "CANCEL") then method.Cancel else
    if bytes_eq word (codes "OPTIONS") then method.Options else
    if bytes_eq word (codes "REGISTER") then method.Register else method.Other
