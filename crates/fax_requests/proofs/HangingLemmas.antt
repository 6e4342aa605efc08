-- A request that hangs on an INVITE is written, or is not.
use Rattle.std.proofs.Common.{◌≡◌, ℕ, List, map, Option, None, Some, Result, Ok, Err, IfOk, IfErr, IfSome, IfNone, refl, sym, ◌∙◌, subst, inl, inr}
use Rattle.fax_dialogs.specs.Within.{field_text}
use Rattle.fax_requests.specs.Hanging.{HangsOn, HangsWith, HasFault, IsHanging, route_lines}
use Rattle.fax_sip.specs.declared.name.Name.{Name}
use Rattle.fax_sip.specs.declared.requesting.Request.{Request}
use Rattle.fax_sip.specs.declared.write_fault.WriteFault.{WriteFault}
use Rattle.fax_sip.specs.declared.write_fault.WriteFault.TheVariants.{NoMemory}
use Rattle.fax_sip.specs.declared.writing.Field.{Field}
use Rattle.fax_sip.specs.Messages.{MessageText}
use Rattle.fax_sip.specs.Requests.{request_fault, request_octets}

-- its header lines are those of `Route`
pub hangs_on : (invite : MessageText) (method to : List ℕ) (request : Request) (fields : List Field) → HangsWith invite method to (map field_text fields) request
    → map field_text fields ≡ route_lines invite → HangsOn invite method to request
hangs_on invite method to request fields hangs told = subst (λ (lines : List (Name × List ℕ)). HangsWith invite method to lines request) told hangs

no_fault : {A : Type 0} (fault : Option WriteFault) (x : A) → IfSome fault (λ f. Ok x ≡ Err f) → fault ≡ None
no_fault None x fails = refl
no_fault (Some f) x fails = cc

pub written :
    {A : Type 0} (outcome : Result A WriteFault) (items : A → List ℕ) (invite : MessageText) (method to : List ℕ) (request : Request) → HangsOn invite method to request
    → IfOk outcome (λ octets. items octets ≡ request_octets request) → IfSome (request_fault request) (λ fault. outcome ≡ Err fault)
    → IfOk outcome (λ octets. IsHanging invite method to (items octets))
written (Ok octets) items invite method to request hangs ok fails = (request, hangs, no_fault (request_fault request) octets fails, ok)
written (Err fault) items invite method to request hangs ok fails = tt

which :
    (A : Type 0) (invite : MessageText) (method to : List ℕ) (request : Request) (told : WriteFault) (fault : Option WriteFault) → HangsOn invite method to request → request_fault request ≡ fault
    → IfSome fault (λ f. let outcome : Result A WriteFault = Err told in outcome ≡ Err f) → IfNone fault (told ≡ NoMemory) → HasFault invite method to told
which A invite method to request told None hangs is fails memory = inl memory
which A invite method to request told (Some f) hangs is fails memory = let same : Some told ≡ Some f = cc in inr (request, hangs, is ∙ sym same)

pub faulty :
    {A : Type 0} (outcome : Result A WriteFault) (invite : MessageText) (method to : List ℕ) (request : Request) → HangsOn invite method to request
    → IfSome (request_fault request) (λ fault. outcome ≡ Err fault) → IfNone (request_fault request) (IfErr outcome (λ fault. fault ≡ NoMemory))
    → IfErr outcome (λ fault. HasFault invite method to fault)
faulty (Ok octets) invite method to request hangs fails memory = tt
faulty {A} (Err fault) invite method to request hangs fails memory = which A invite method to request fault (request_fault request) hangs refl fails memory
