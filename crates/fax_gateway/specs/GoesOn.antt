-- Traces go on: whatever comes next has an answer. So no law over traces speaks of nothing.
use Rattle.std.specs.Prelude.{◌≡◌, ℕ, ◌<◌, Bool, true, IsSome, List, ◌∷◌, Some}
use Rattle.fax_answer.specs.Table.{Reading}
use Rattle.fax_answer.specs.Calls.{rung}
use Rattle.fax_answer.specs.Confirmation.{AreRead}
use Rattle.fax_call.specs.Writings.{Writing}
use Rattle.fax_gateway.specs.Setups.{Setup}
use Rattle.fax_gateway.specs.Events.{Event, Ring, FromCalling, FromCalled, Tick, Placed, Given, rings}
use Rattle.fax_gateway.specs.CallingLegs.{CallingLeg, calling_leg, idle_after}
use Rattle.fax_gateway.specs.BothLegs.{book_of, both_legs, job_asked}
use Rattle.fax_gateway.specs.Traces.{IsTrace}

-- A ring while no call is on, any octets on either leg, a tick, and, where a call is asked for, that it is placed or not, each at any moment.
pub record GoesOn (setup : Setup) (writes : Writing) (earlier : List Event) : Type 0 where
  pub ring : (at : ℕ) → idle_after (calling_leg setup earlier) ≡ true
      → rings earlier < 4294967296 → IsTrace setup writes (Ring at (rings earlier) ∷ earlier)
  pub from_calling : (octets : List ℕ) (at : ℕ) → (decided : Bool)
      × (read : Reading) × IsTrace setup writes (FromCalling octets at decided read ∷ earlier)
  pub from_called : (octets : List ℕ) (at : ℕ)
      → (decided : Bool) × IsTrace setup writes (FromCalled octets at decided ∷ earlier)
  pub tick : (at : ℕ) → (given : Given) × IsTrace setup writes (Tick at given ∷ earlier)
  pub placed : (at : ℕ) (connected : Bool)
      → IsSome (job_asked setup.asks (book_of (both_legs setup writes earlier)))
      → IsTrace setup writes (Placed at connected ∷ earlier)

abbrev pub TracesGoOn : Type 0
TracesGoOn = (setup : Setup) (writes : Writing) (earlier : List Event)
    → IsTrace setup writes earlier → GoesOn setup writes earlier

-- In every trace the readings of the last call are right: what is told of one call of the answerer, of its
-- confirmations and refusals, holds of each calling leg.
abbrev pub LegsAreRead : Type 0
LegsAreRead = (setup : Setup) (writes : Writing) (trace : List Event) (l : CallingLeg)
    → IsTrace setup writes trace
    → calling_leg setup trace ≡ Some l → AreRead (rung l.before l.begun) l.events
