-- Requests of ours within a dialog (RFC 3261, 12.2.1.1).
use Rattle.std.specs.Prelude.{◌≡◌, ◌⊎◌, ℕ, ◌++◌, is_some, if◌then◌else◌, List, [], ◌∷◌, map, codes, Option, None, Some, option_map}
use Rattle.std.specs.List.{flat_map}
use Rattle.fax_dialogs.specs.DialogValues.{DialogValue}
use Rattle.fax_dialogs.specs.declared.within.Within.{Within}
use Rattle.fax_sip.specs.declared.name.Name.{Name}
use Rattle.fax_sip.specs.declared.name.Name.TheVariants as name
use Rattle.fax_sip.specs.declared.requesting.Request.{Request}
use Rattle.fax_sip.specs.declared.write_fault.WriteFault.{WriteFault}
use Rattle.fax_sip.specs.declared.write_fault.WriteFault.TheVariants.{NoMemory}
use Rattle.fax_sip.specs.declared.writing.Field.{Field}
use Rattle.fax_sip.specs.Parameters.{parameter_of}
use Rattle.fax_sip.specs.Requests.{request_fault, request_octets}

-- ---- the route

-- The Request-URI is the target where there is no route, or where the route's first address has `lr` (a loose router); else it is that address. What an address of
-- `Record-Route` may have, a Request-URI may have too (19.1.1, table 1): nothing is taken off.
abbrev pub uri_by : List ℕ → List (List ℕ) → List ℕ
uri_by target [] = target
uri_by target (route ∷ routes) = if is_some (parameter_of (codes "lr") route) then target else route

-- the addresses of `Route`: all, in their order; over a strict router those after the first, and then the target
abbrev pub route_by : List ℕ → List (List ℕ) → List (List ℕ)
route_by target [] = []
route_by target (route ∷ routes) =
    if is_some (parameter_of (codes "lr") route) then route ∷ routes else routes ++ target ∷ []

-- ---- the request

-- an address of `Route` between angle brackets, after a comma
abbrev pub route_part : List ℕ → List ℕ
route_part route = codes ",<" ++ (route ++ codes ">")

-- a header line, apart from where its value lies
abbrev pub field_text : Field → Name × List ℕ
field_text field = (field.name, field.value.now)

-- `Route`, without the first comma; none where there is no address
abbrev pub route_line : List ℕ → List (Name × List ℕ)
route_line [] = []
route_line (comma ∷ value) = (name.Route, value) ∷ []

abbrev pub route_fields : List (List ℕ) → List (Name × List ℕ)
route_fields routes = route_line (flat_map route_part routes)

-- a tag, where there is one
abbrev pub tag_in : List ℕ → Option (List ℕ)
tag_in [] = None
tag_in (octet ∷ octets) = Some (octet ∷ octets)

-- A request of ours within a dialog: the Request-URI and `Route` by its route, its Call-ID, our end in `From` and theirs in `To`, and all else as it is told.
pub record IsWithin (dialog : DialogValue)
    (within : Within) (fields : List (Name × List ℕ)) (request : Request) : Type 0 where
  pub method : request.method.now ≡ within.method.now
  pub uri : request.uri.now ≡ uri_by dialog.target dialog.routes
  pub sent_by : request.sent_by.now ≡ within.sent_by.now
  pub branch : request.branch.now ≡ within.branch.now
  pub from_uri : request.from.uri.now ≡ dialog.local_uri
  pub from_tag : option_map (λ tag. tag.now) request.from.tag ≡ tag_in dialog.local_tag
  pub to_uri : request.to.uri.now ≡ dialog.remote_uri
  pub to_tag : option_map (λ tag. tag.now) request.to.tag ≡ tag_in dialog.remote_tag
  pub call_id : request.call_id.now ≡ dialog.call_id
  pub number : request.number ≡ within.number
  pub fields_told : map field_text request.fields.now ≡ fields
  pub body : request.body.now ≡ within.body.now

abbrev pub Asks : DialogValue → Within → Request → Type 0
Asks dialog within request =
    IsWithin dialog within (route_fields (route_by dialog.target dialog.routes)
    ++ map field_text within.fields.now) request

-- its octets, where it has no fault
abbrev pub IsWritten : DialogValue → Within → List ℕ → Type 0
IsWritten dialog within octets = (request : Request) × Asks dialog within request
    × (request_fault request ≡ None) × (octets ≡ request_octets request)

-- why it is not written
abbrev pub HasFault : DialogValue → Within → WriteFault → Type 0
HasFault dialog within fault = (fault ≡ NoMemory)
    ⊎ ((request : Request) × Asks dialog within request × (request_fault request ≡ Some fault))
