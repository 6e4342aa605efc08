-- What led to a gateway: the contracts of one are told over each setup, writing and trace that did.
use Rattle.std.specs.Prelude.{ℕ, Bool, max, List, ◌∷◌, Option}
use Rattle.fax_jobs.specs.Books.{Book}
use Rattle.fax_jobs.specs.Jobs.{JobValue}
use Rattle.fax_call.specs.Writings.{IsWriting, Writing}
use Rattle.fax_gateway.specs.Setups.{Setup}
use Rattle.fax_gateway.specs.Events.{Event, Given, Tick, clock}
use Rattle.fax_gateway.specs.CallingLegs.{CallingLeg, calling_leg}
use Rattle.fax_gateway.specs.CalledLegs.{CalledLeg}
use Rattle.fax_gateway.specs.BothLegs.{book_of, both_legs}
use Rattle.fax_answer.specs.Watching.{Telling}
use Rattle.fax_gateway.specs.Asking.{asked_after}
use Rattle.fax_gateway.specs.Watched.{HearsFromTold}
use Rattle.fax_gateway.specs.Reached.{CallingValue, GatewayValue, HearsFrom, IsCalled, IsCalling, IsReachedBy}
use Rattle.fax_gateway.specs.declared.caller_endpoint.CallerEndpoint.{CallerEndpoint}

-- this is so of each setup, writing and trace that led to it
abbrev pub EachTrace : GatewayValue → (Setup → Writing → List Event → Type 0) → Type 0
EachTrace gateway IsSo = (setup : Setup) (writes : Writing) (trace : List Event)
    → IsReachedBy setup writes trace gateway → IsSo setup writes trace

-- AN EVENT WAS ACCEPTED: each trace that led to the old gateway leads, with the event, to the new one
abbrev pub Advances : (old : GatewayValue) → Event → (new : GatewayValue) → Type 0
Advances old event new =
    EachTrace old (λ setup writes trace. IsReachedBy setup writes (event ∷ trace) new)

-- the same of a tick that gave this, where pages are written as a right writing has them
abbrev pub AdvancesByTick : (old : GatewayValue) → (now : ℕ) → Given → (new : GatewayValue) → Type 0
AdvancesByTick old now given new = (setup : Setup) (writes : Writing) (trace : List Event)
    → IsWriting writes
    → IsReachedBy setup writes trace old → IsReachedBy setup writes (Tick now given ∷ trace) new

-- the same of a datagram on the calling leg, whose pages were read rightly
abbrev pub AdvancesByHearing : (old : GatewayValue)
    → (octets : List ℕ) → (now : ℕ) → (decided : Bool) → (new : GatewayValue) → Type 0
AdvancesByHearing old octets now decided new =
    EachTrace old (λ setup writes trace. HearsFrom setup writes trace octets now decided new)

-- and this holds of what was told of it
abbrev pub AdvancesByHearingTold : (List Telling → Type 0) → (old : GatewayValue)
    → (octets : List ℕ) → (now : ℕ) → (decided : Bool) → (new : GatewayValue) → Type 0
AdvancesByHearingTold Tells old octets now decided new = EachTrace old
    (λ setup writes trace. HearsFromTold Tells setup writes trace octets now decided new)

-- nothing happened: each trace that led to the old one led to the new one
abbrev pub Remains : (old new : GatewayValue) → Type 0
Remains old new = EachTrace old (λ setup writes trace. IsReachedBy setup writes trace new)

-- this is so of its calling leg, at this moment or the latest that it was told
abbrev pub OfCallingLeg : GatewayValue → (now : ℕ) → (Option CallingLeg → ℕ → Type 0) → Type 0
OfCallingLeg gateway now IsSo =
    EachTrace gateway (λ setup writes trace. IsSo (calling_leg setup trace) (max now (clock trace)))

-- and of its called leg
abbrev pub OfCalledLeg : GatewayValue
    → (now : ℕ) → (Writing → Option CalledLeg → ℕ → Type 0) → Type 0
OfCalledLeg gateway now IsSo = EachTrace gateway
    (λ setup writes trace. IsSo writes (both_legs setup writes trace).leg (max now (clock trace)))

-- this is so of its book
abbrev pub OfBook : GatewayValue → (Book → Type 0) → Type 0
OfBook gateway IsSo =
    EachTrace gateway (λ setup writes trace. IsSo (book_of (both_legs setup writes trace)))

-- and of the job whose call is asked for
abbrev pub OfJobAsked : GatewayValue → (Option JobValue → Type 0) → Type 0
OfJobAsked gateway IsSo =
    EachTrace gateway (λ setup writes trace. IsSo (asked_after setup writes trace))

-- The same of an endpoint: this is so of each setup and leg that led to it.
abbrev pub EachCallingLeg : CallingValue → (Setup → Option CallingLeg → Type 0) → Type 0
EachCallingLeg endpoint IsSo = (setup : Setup) (leg : Option CallingLeg)
    → IsCalling setup leg endpoint → IsSo setup leg

abbrev pub EachCalledLeg : CallerEndpoint → (Setup → Writing → Option CalledLeg → Type 0) → Type 0
EachCalledLeg endpoint IsSo = (setup : Setup) (writes : Writing) (leg : Option CalledLeg)
    → IsCalled setup writes leg endpoint → IsSo setup writes leg
