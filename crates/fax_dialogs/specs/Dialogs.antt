-- Dialogs: what one is made of, which messages are of it, and what changes it (RFC 3261, 12).
use Rattle.std.specs.Prelude.{◌≡◌, ℕ, ◌+◌, ◌-◌, ◌^◌, ◌++◌, ◌&&◌, ◌==◌, not, nat_le, nat_lt, Bool, false, is_some, if◌then◌else◌, List, [], ◌∷◌, length, reverse, codes, Option, None, Some, Result, Ok, Err, unwrap_or}
use Rattle.std.specs.Str.{bytes_eq}
use Rattle.fax_dialogs.specs.DialogValues.{DialogValue}
use Rattle.fax_dialogs.specs.declared.dialog_fault.DialogFault.{DialogFault}
use Rattle.fax_dialogs.specs.declared.dialog_fault.DialogFault.TheVariants.{OtherCall, NoInvite, HasTag, NoContact, LongText, ManyRoutes, LowNumber, NumbersSpent}
use Rattle.fax_dialogs.specs.declared.ends.Ends.{Ends}
use Rattle.fax_dialogs.specs.declared.role.Role.{Role}
use Rattle.fax_dialogs.specs.declared.role.Role.TheVariants.{Caller, Answerer}
use Rattle.fax_sip.specs.declared.name.Name.TheVariants as name
use Rattle.fax_sip.specs.Fields.{first_of}
use Rattle.fax_sip.specs.Lists.{elements_of}
use Rattle.fax_sip.specs.Messages.{MessageText}
use Rattle.fax_sip.specs.Parameters.{parameter_of, uri_of}
use Rattle.fax_sip.specs.Starts.{StartText, Request, Answer}

-- and on, where there was no fault
infixl 10 ◌>>=◌
abbrev pub ◌>>=◌ : {A B : Type 0}
    → Result A DialogFault → (A → Result B DialogFault) → Result B DialogFault
(Ok x) >>= f = f x
(Err fault) >>= f = Err fault

-- a text of at most 256 octets is kept (this project's profile)
unfoldable pub kept : List ℕ → Result (List ℕ) DialogFault
kept text = if nat_lt 256 (length text) then Err LongText else Ok text

-- the tag of `From` or `To`; empty where there is none, as of RFC 2543 (12.1.1, 12.1.2)
abbrev pub tag_of : List ℕ → List ℕ
tag_of value = unwrap_or (parameter_of (codes "tag") value) []

-- the address of the first `Contact`, where there is one
abbrev pub contact_in : Option (List ℕ) → Result (List ℕ) DialogFault
contact_in None = Err NoContact
contact_in (Some value) = kept (uri_of value)

abbrev pub contact_of : MessageText → Result (List ℕ) DialogFault
contact_of message = contact_in (first_of (elements_of name.Contact message.lines))

-- the addresses of `Record-Route`, in their order after those before, each kept, and at most 8 (this project's profile)
abbrev pub routes_after : List (List ℕ) → List (List ℕ) → Result (List (List ℕ)) DialogFault
routes_after routes [] = Ok routes
routes_after routes (element ∷ elements) =
    kept (uri_of element) >>= (λ route. if nat_lt (length routes) 8
    then routes_after (routes ++ route ∷ []) elements else Err ManyRoutes)

abbrev pub routes_of : MessageText → Result (List (List ℕ)) DialogFault
routes_of message = routes_after [] (elements_of name.RecordRoute message.lines)

-- the Call-ID, and the tag and the address of each end, are kept: the first fault of these, in this order
unfoldable pub kept_ends : Ends → Result Ends DialogFault
kept_ends ends = do
  call_id ← kept ends.call_id
  local_tag ← kept ends.local_tag
  remote_tag ← kept ends.remote_tag
  local_uri ← kept ends.local_uri
  remote_uri ← kept ends.remote_uri
  Ok (record { call_id = call_id; local_tag = local_tag; remote_tag = remote_tag; local_uri = local_uri; remote_uri = remote_uri })

-- what a call answered, seen so, is this
abbrev pub Gives : {X Y : Type 0} → (X → Y) → Result X DialogFault → Result Y DialogFault → Type 0
Gives view (Ok x) told = told ≡ Ok (view x)
Gives view (Err fault) told = told ≡ Err fault

-- ---- how it begins

-- an INVITE
abbrev pub is_invite : StartText → Bool
is_invite (Request word uri) = bytes_eq word (codes "INVITE")
is_invite (Answer status) = false

-- a 2xx
abbrev pub is_success : StartText → Bool
is_success (Request word uri) = false
is_success (Answer status) = nat_le 200 status && nat_lt status 300

-- a 2xx to this request: the same Call-ID, our tag, the same number and method
abbrev pub accepts : MessageText → MessageText → Bool
accepts request answer = is_success answer.start && (bytes_eq answer.call_id request.call_id
    && (bytes_eq (tag_of answer.from) (tag_of request.from) && (answer.sequence.number
    == request.sequence.number && bytes_eq answer.sequence.method request.sequence.method)))

-- 12.1.2: from our INVITE the Call-ID, our tag, both addresses and our number; from its 2xx their tag, the target, and the route in reverse
abbrev pub caller_ends : MessageText → MessageText → Ends
caller_ends request answer = record {
  call_id = request.call_id;
  local_tag = tag_of request.from;
  remote_tag = tag_of answer.to;
  local_uri = uri_of request.from;
  remote_uri = uri_of request.to;
}

abbrev pub dialog_with : Role → Ends → ℕ → Option ℕ → List ℕ → List (List ℕ) → DialogValue
dialog_with role ends local_number remote_number target routes = record {
  role = role;
  call_id = ends.call_id;
  local_tag = ends.local_tag;
  remote_tag = ends.remote_tag;
  local_uri = ends.local_uri;
  remote_uri = ends.remote_uri;
  local_number = local_number;
  remote_number = remote_number;
  target = target;
  routes = routes;
}

unfoldable pub begun_by_caller : MessageText → MessageText → Result DialogValue DialogFault
begun_by_caller request answer = do
  target ← contact_of answer
  routes ← routes_of answer
  ends ← kept_ends (caller_ends request answer)
  Ok (dialog_with Caller ends request.sequence.number None target (reverse routes))

abbrev pub dialog_of_caller : MessageText → MessageText → Result DialogValue DialogFault
dialog_of_caller request answer = if not (is_invite request.start) then Err NoInvite
    else if not (accepts request answer) then Err OtherCall else begun_by_caller request answer

-- 12.1.1: from their INVITE the Call-ID, their tag, both addresses, their number, the target and the route; our tag is that of our 2xx
abbrev pub answerer_ends : MessageText → List ℕ → Ends
answerer_ends request tag = record {
  call_id = request.call_id;
  local_tag = tag;
  remote_tag = tag_of request.from;
  local_uri = uri_of request.to;
  remote_uri = uri_of request.from;
}

unfoldable pub begun_by_answerer : MessageText → List ℕ → Result DialogValue DialogFault
begun_by_answerer request tag = do
  target ← contact_of request
  routes ← routes_of request
  ends ← kept_ends (answerer_ends request tag)
  Ok (dialog_with Answerer ends 0 (Some request.sequence.number) target routes)

-- an INVITE whose `To` has a tag is one within a dialog
abbrev pub dialog_of_answerer : MessageText → List ℕ → Result DialogValue DialogFault
dialog_of_answerer request tag = if not (is_invite request.start)
    then Err NoInvite else if is_some (parameter_of (codes "tag") request.to)
    then Err HasTag else begun_by_answerer request tag

-- ---- which messages are of it

-- a request of the other end within the dialog: that Call-ID, our tag in `To` and theirs in `From`, octet for octet (12)
abbrev pub is_of : DialogValue → MessageText → Bool
is_of dialog request =
    bytes_eq request.call_id dialog.call_id && (bytes_eq (tag_of request.to) dialog.local_tag
    && bytes_eq (tag_of request.from) dialog.remote_tag)

-- an answer to a request of ours within it: our tag in `From`, theirs in `To`
abbrev pub is_answer_of : DialogValue → MessageText → Bool
is_answer_of dialog answer =
    bytes_eq answer.call_id dialog.call_id && (bytes_eq (tag_of answer.from) dialog.local_tag
    && bytes_eq (tag_of answer.to) dialog.remote_tag)

-- ---- what changes it

-- the number of a request that came is below that of one before it (12.2.2)
abbrev pub is_low : Option ℕ → ℕ → Bool
is_low None number = false
is_low (Some last) number = nat_lt number last

-- 12.2.2: a number that is not below the last one takes its place
abbrev pub heard : DialogValue → ℕ → DialogValue
heard dialog number = if is_low dialog.remote_number number
    then dialog else record dialog { remote_number = Some number }

-- 12.2.1.1: the number of the next request of ours is one more than the last, and below 2 ^ 31 (8.1.1.5)
abbrev pub number_after : ℕ → Result ℕ DialogFault
number_after last = if nat_lt last (2 ^ 31 - 1) then Ok (last + 1) else Err NumbersSpent

abbrev pub numbered : DialogValue → DialogValue
numbered dialog = if nat_lt dialog.local_number (2 ^ 31 - 1)
    then record dialog { local_number = dialog.local_number + 1 } else dialog

-- 12.2.1.2, 12.2.2: a re-INVITE or its 2xx has a new target, where it has a `Contact`
abbrev pub target_after : List ℕ → Option (List ℕ) → Result (List ℕ) DialogFault
target_after target None = Ok target
target_after target (Some value) = kept (uri_of value)

abbrev pub target_by : DialogValue → MessageText → Result (List ℕ) DialogFault
target_by dialog message =
    target_after dialog.target (first_of (elements_of name.Contact message.lines))
