-- What a datagram is answered with where memory was refused, and what is heard of a dial.
use Rattle.std.proofs.Common.{◌≡◌, ℕ, List, Option, IsSome, Result, Ok, Err, IsErrAnd, OnErr, OnOk, inr, refl}
use Rattle.fax_sip.specs.declared.fault.SipFault.{SipFault}
use Rattle.fax_sip.specs.Messages.{MessageText}
use Rattle.fax_switch.specs.declared.event.Choice.{Choice}
use Rattle.fax_switch.specs.declared.event.Event.TheVariants.{Dialled}
use Rattle.fax_switch.specs.declared.place.LineCall.{LineCall}
use Rattle.fax_user_agent.specs.Agents.{Agent, Hears, HearsDatagram, HearsDial, HearsInPart, MayHearDialInPart, MayHearMessageInPart}
use Rattle.fax_user_agent.specs.Placings.{IsPlacing}
use Rattle.fax_user_agent.specs.declared.out.Heard.{Heard}

pub heard_err : {E : Type 0} (Q : E → Type 0) (result : Result Heard E) (now : ℕ) (trunk : Option ℕ) (message : Result MessageText SipFault) (text : MessageText) (old new : Agent)
    → IsErrAnd result Q → IsSome trunk → message ≡ Ok text → MayHearMessageInPart now text old new → HearsDatagram now trunk message result old new
heard_err Q (Ok it) now trunk message text old new is known reads heard = absurd is
heard_err Q (Err failed) now trunk message text old new is known reads heard = (known, text, reads, heard)

pub dial_ok : {E : Type 0} (result : Result (Unit {0}) E) (now : ℕ) (on : LineCall) (number : List ℕ) (choice : Choice) (old new : Agent)
    → IsPlacing old.trunks old.routes number choice → OnOk result (Hears now (Dialled on choice) old new) → OnOk result (HearsDial now on number old new)
dial_ok (Ok done) now on number choice old new placed heard = (Dialled on choice, (choice, placed, refl), heard)
dial_ok (Err failed) now on number choice old new placed heard = heard

pub dial_err : {E : Type 0} (result : Result (Unit {0}) E) (now : ℕ) (on : LineCall) (number : List ℕ) (choice : Choice) (old new : Agent)
    → IsPlacing old.trunks old.routes number choice → OnErr result (HearsInPart now (Dialled on choice) old new) → OnErr result (MayHearDialInPart now on number old new)
dial_err (Ok done) now on number choice old new placed heard = heard
dial_err (Err failed) now on number choice old new placed heard = inr (Dialled on choice, (choice, placed, refl), heard)
