-- The requests that hang on an INVITE of ours (RFC 3261, 9.1 and 17.1.1.3).
use Rattle.std.specs.Prelude.{◌≡◌, ◌⊎◌, ℕ, List, [], codes, map, Option, None, Some, option_map, unwrap_or}
use Rattle.fax_dialogs.specs.Within.{field_text}
use Rattle.fax_sip.specs.declared.name.Name.{Name}
use Rattle.fax_sip.specs.declared.name.Name.TheVariants.{Route}
use Rattle.fax_sip.specs.declared.requesting.Request.{Request}
use Rattle.fax_sip.specs.declared.write_fault.WriteFault.{WriteFault}
use Rattle.fax_sip.specs.declared.write_fault.WriteFault.TheVariants.{NoMemory}
use Rattle.fax_sip.specs.Fields.{values_of}
use Rattle.fax_sip.specs.Matching.{KeyText, key_of}
use Rattle.fax_sip.specs.Messages.{MessageText}
use Rattle.fax_sip.specs.Parameters.{parameter_of, uri_of}
use Rattle.fax_sip.specs.Requests.{request_fault, request_octets}
use Rattle.fax_sip.specs.Starts.{StartText, Request as Asking, Answer}

-- the Request-URI; none of an answer
abbrev pub uri_asked : StartText → List ℕ
uri_asked (Asking word uri) = uri
uri_asked (Answer status) = []

-- the first hop
abbrev pub hop_of : MessageText → KeyText
hop_of invite = unwrap_or (key_of invite) (record { branch = []; sent_by = []; method = [] })

-- the lines of `Route`, as they are
abbrev pub route_lines : MessageText → List (Name × List ℕ)
route_lines invite = map (λ value. (Route, value)) (values_of Route invite.lines)

-- A request of this method hangs on an INVITE, with this `To` and these header lines: it has the INVITE's Request-URI, first hop, `From`, Call-ID and number, and no body.
pub record HangsWith (invite : MessageText)
    (method to : List ℕ) (fields : List (Name × List ℕ)) (request : Request) : Type 0 where
  pub method_is : request.method.now ≡ method
  pub uri_is : request.uri.now ≡ uri_asked invite.start
  pub branch_is : request.branch.now ≡ (hop_of invite).branch
  pub sender_is : request.sent_by.now ≡ (hop_of invite).sent_by
  pub from_uri : request.from.uri.now ≡ uri_of invite.from
  pub from_tag :
      option_map (λ tag. tag.now) request.from.tag ≡ parameter_of (codes "tag") invite.from
  pub to_uri : request.to.uri.now ≡ uri_of to
  pub to_tag : option_map (λ tag. tag.now) request.to.tag ≡ parameter_of (codes "tag") to
  pub call_is : request.call_id.now ≡ invite.call_id
  pub number_is : request.number ≡ invite.sequence.number
  pub fields_are : map field_text request.fields.now ≡ fields
  pub body_is : request.body.now ≡ []

abbrev pub HangsOn : MessageText → List ℕ → List ℕ → Request → Type 0
HangsOn invite method to request = HangsWith invite method to (route_lines invite) request

-- the octets of such a request, which has no fault
abbrev pub IsHanging : MessageText → List ℕ → List ℕ → List ℕ → Type 0
IsHanging invite method to octets = (request : Request) × HangsOn invite method to request
    × (request_fault request ≡ None) × (octets ≡ request_octets request)

-- why it is not written
abbrev pub HasFault : MessageText → List ℕ → List ℕ → WriteFault → Type 0
HasFault invite method to fault = (fault ≡ NoMemory) ⊎ ((request : Request)
    × HangsOn invite method to request × (request_fault request ≡ Some fault))
