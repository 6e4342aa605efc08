-- What the calling leg depends on.
use Rattle.std.specs.Prelude.{◌≡◌, ℕ, Bool, List, [], ◌∷◌, Option}
use Rattle.fax_call.specs.Writings.{Writing}
use Rattle.fax_gateway.specs.Setups.{Setup}
use Rattle.fax_gateway.specs.Events.{Event, Ring, FromCalling, FromCalled, Tick, Placed, clock}
use Rattle.fax_gateway.specs.CallingLegs.{calling_leg}
use Rattle.fax_gateway.specs.Traces.{IsTrace}

-- the events of the calling leg and the ticks, at their moments as the clock read them, without their answers
pub data HeardEvent : Type 0 where
  Rang : (now : ℕ) → HeardEvent
  Came : (octets : List ℕ) → (now : ℕ) → HeardEvent
  Ticked : (now : ℕ) → HeardEvent

abbrev pub part_with : Event → ℕ → List HeardEvent → List HeardEvent
part_with (Ring at number) now part = Rang now ∷ part
part_with (FromCalling octets at decided read) now part = Came octets now ∷ part
part_with (FromCalled octets at decided) now part = part
part_with (Tick at given) now part = Ticked now ∷ part
part_with (Placed at connected) now part = part

abbrev pub calling_part : List Event → List HeardEvent
calling_part [] = []
calling_part (e ∷ earlier) = part_with e (clock (e ∷ earlier)) (calling_part earlier)

-- the answers on the calling leg, the newest first
pub data CallingAnswer : Type 0 where
  Numbers : (number : ℕ) → CallingAnswer
  Decides : (decided : Bool) → CallingAnswer
  Gives : (on_calling : Option (List ℕ)) → CallingAnswer

abbrev pub calling_answers : List Event → List CallingAnswer
calling_answers [] = []
calling_answers (Ring at number ∷ earlier) = Numbers number ∷ calling_answers earlier
calling_answers (FromCalling octets at decided read ∷ earlier) =
    Decides decided ∷ calling_answers earlier
calling_answers (FromCalled octets at decided ∷ earlier) = calling_answers earlier
calling_answers (Tick at given ∷ earlier) = Gives given.on_calling ∷ calling_answers earlier
calling_answers (Placed at connected ∷ earlier) = calling_answers earlier

-- Traces with one calling part have one calling leg and the same answers on it, whatever the called leg brought, and
-- however pages are written: what an image was read as is no choice either.
abbrev pub IsServedAlone : Type 0
IsServedAlone = (setup : Setup) (writes others : Writing) (s t : List Event)
    → IsTrace setup writes s → IsTrace setup others t → calling_part s ≡ calling_part t
    → (calling_leg setup s ≡ calling_leg setup t) × (calling_answers s ≡ calling_answers t)
