-- The octets of an answer (RFC 3261, 8.2.6 and 12.1.1).
use Rattle.std.specs.Prelude.{ℕ, ◌++◌, ◌||◌, not, nat_lt, is_some, if◌then◌else◌, List, [], length, codes, decimal, Option, Some}
use Rattle.std.specs.List.{flat_map}
use Rattle.fax_sip.specs.declared.answering.Reply.{Reply}
use Rattle.fax_sip.specs.declared.name.Name.{Name}
use Rattle.fax_sip.specs.declared.name.Name.TheVariants as name
use Rattle.fax_sip.specs.declared.write_fault.WriteFault.{WriteFault}
use Rattle.fax_sip.specs.declared.write_fault.WriteFault.TheVariants.{BadStatus, BadReason, BadTag}
use Rattle.fax_sip.specs.Fields.{is_token, values_of}
use Rattle.fax_sip.specs.Messages.{MessageText}
use Rattle.fax_sip.specs.Parameters.{parameter_of}
use Rattle.fax_sip.specs.Permitted.{fields_fault, is_text}
use Rattle.fax_sip.specs.Written.{field_octets, header, length_line}

-- each header line of a name, as it came
abbrev pub copied : Name → List (List ℕ) → List ℕ
copied name lines = flat_map (header name) (values_of name lines)

-- `To`, with our tag where it has none
abbrev pub to_header : List ℕ → List ℕ → List ℕ
to_header to tag = if is_some (parameter_of (codes "tag") to)
    then header name.To to else codes "To: " ++ (to ++ (codes ";tag=" ++ (tag ++ codes "\r\n")))

-- what each answer has of its request
abbrev pub kept_fields : MessageText → List ℕ → List ℕ
kept_fields request tag =
    copied name.Via request.lines ++ (header name.From request.from ++ (to_header request.to tag
    ++ (header name.CallId request.call_id ++ copied name.CSeq request.lines)))

-- `Record-Route`, as it came, where an answer may begin a dialog
abbrev pub routes : ℕ → List (List ℕ) → List ℕ
routes status lines = if nat_lt status 300 then copied name.RecordRoute lines else []

-- the first line: the version, the status and its reason
abbrev pub status_line : ℕ → List ℕ → List ℕ
status_line status reason =
    codes "SIP/2.0 " ++ (decimal status ++ (codes " " ++ (reason ++ codes "\r\n")))

-- An answer: its first line, what it has of the request, further header lines, the length of its body, an empty line, and the body.
abbrev pub answer_octets : MessageText → Reply → List ℕ
answer_octets request reply =
    status_line reply.status reply.reason.now
    ++ (kept_fields request reply.tag.now
    ++ (routes reply.status request.lines
    ++ (flat_map field_octets reply.fields.now
    ++ (length_line (length reply.body.now)
    ++ reply.body.now))))

-- Why a reply is not written: the first fault of these, in this order.
abbrev pub reply_fault : Reply → Option WriteFault
reply_fault reply =
    if nat_lt reply.status 100 || nat_lt 699 reply.status then Some BadStatus else
    if not (is_text reply.reason.now) then Some BadReason else
    if not (is_token reply.tag.now) then Some BadTag else fields_fault reply.fields.now
