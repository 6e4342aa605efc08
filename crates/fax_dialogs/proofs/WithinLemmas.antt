-- A request of ours that is written, or is not.
use Rattle.std.proofs.Common.{◌≡◌, ℕ, ◌++◌, List, map, Option, None, Some, Result, Ok, Err, IfOk, IfErr, IfSome, IfNone, refl, sym, ◌∙◌, ap, subst, inl, inr}
use Rattle.std.specs.List.{flat_map}
use Rattle.fax_dialogs.specs.DialogValues.{DialogValue}
use Rattle.fax_dialogs.specs.declared.within.Within.{Within}
use Rattle.fax_dialogs.specs.Within.{field_text, route_by, route_line, route_part, Asks, HasFault, IsWithin, IsWritten}
use Rattle.fax_sip.specs.declared.name.Name.{Name}
use Rattle.fax_sip.specs.declared.requesting.Request.{Request}
use Rattle.fax_sip.specs.declared.write_fault.WriteFault.{WriteFault}
use Rattle.fax_sip.specs.declared.write_fault.WriteFault.TheVariants.{NoMemory}
use Rattle.fax_sip.specs.declared.writing.Field.{Field}
use Rattle.fax_sip.specs.Requests.{request_fault, request_octets}

-- the header lines that it has are those that it is to have
pub asks_it :
    (dialog : DialogValue) (within : Within) (request : Request) (fields : List Field) (route : List ℕ) → IsWithin dialog within (map field_text fields) request
    → map field_text fields ≡ route_line route ++ map field_text within.fields.now → route ≡ flat_map route_part (route_by dialog.target dialog.routes)
    → Asks dialog within request
asks_it dialog within request fields route is_within told by_route =
    subst (λ (lines : List (Name × List ℕ)). IsWithin dialog within lines request) (told ∙ ap (λ (r : List ℕ). route_line r ++ map field_text within.fields.now) by_route)
    is_within

no_fault : {A : Type 0} (fault : Option WriteFault) (x : A) → IfSome fault (λ f. Ok x ≡ Err f) → fault ≡ None
no_fault None x fails = refl
no_fault (Some f) x fails = cc

pub written :
    {A : Type 0} (outcome : Result A WriteFault) (items : A → List ℕ) (dialog : DialogValue) (within : Within) (request : Request) → Asks dialog within request
    → IfOk outcome (λ octets. items octets ≡ request_octets request) → IfSome (request_fault request) (λ fault. outcome ≡ Err fault)
    → IfOk outcome (λ octets. IsWritten dialog within (items octets))
written (Ok octets) items dialog within request asks ok fails = (request, asks, no_fault (request_fault request) octets fails, ok)
written (Err fault) items dialog within request asks ok fails = tt

which :
    (A : Type 0) (dialog : DialogValue) (within : Within) (request : Request) (told : WriteFault) (fault : Option WriteFault) → Asks dialog within request → request_fault request ≡ fault
    → IfSome fault (λ f. let outcome : Result A WriteFault = Err told in outcome ≡ Err f) → IfNone fault (told ≡ NoMemory) → HasFault dialog within told
which A dialog within request told None asks is fails memory = inl memory
which A dialog within request told (Some f) asks is fails memory = let same : Some told ≡ Some f = cc in inr (request, asks, is ∙ sym same)

pub faulty :
    {A : Type 0} (outcome : Result A WriteFault) (dialog : DialogValue) (within : Within) (request : Request) → Asks dialog within request
    → IfSome (request_fault request) (λ fault. outcome ≡ Err fault) → IfNone (request_fault request) (IfErr outcome (λ fault. fault ≡ NoMemory))
    → IfErr outcome (λ fault. HasFault dialog within fault)
faulty (Ok octets) dialog within request asks fails memory = tt
faulty {A} (Err fault) dialog within request asks fails memory = which A dialog within request fault (request_fault request) asks refl fails memory
