-- A line in its slot: when it is left at rest. Lists have the newest first. (This project's profile.)
use Rattle.std.specs.Prelude.{◌≡◌, ℕ, Bool, true, false, not, ◌&&◌, List, [], ◌∷◌, Option, if◌then◌else◌}
use Rattle.fax_timers.specs.Moments.{earlier, is_due}
use Rattle.fax_call.specs.Writings.{Writing}
use Rattle.fax_gateway.specs.Due.{due_at}
use Rattle.fax_gateway.specs.Events.{Event}
use Rattle.fax_gateway.specs.Reached.{IsReachedBy}
use Rattle.fax_gateway.specs.Setups.{Setup}
use Rattle.fax_gateway.specs.Restored.{RestoredCall}
use Rattle.fax_wires.specs.holding.Holding.{Stays}
use Rattle.fax_line.specs.Actions.{Action, Asks, BeginsWith, Goes, LineValue, Rests, TellsTurn, Turns, Wakes}

-- the line, from when on something is due on it, whether it was woken since it was turned last, whether it was turned in the
-- last turn of its slot, and whether what that turn came to waits to be stored
pub record PlaceValue : Type 0 where
  pub line : LineValue
  pub due : Option ℕ
  pub awake : Bool
  pub turned : Bool
  pub waits : Bool

-- What is due on a line is what is due by its gateway, whatever trace led to it, or what its wire has to do: the earlier.
pub record IsDueOn (due : Option ℕ) (line : LineValue) : Type 0 where
  pub due_is : (setup : Setup) (writes : Writing) (trace : List Event)
      → IsReachedBy setup writes trace line.gateway
      → due ≡ earlier (due_at setup writes trace) line.wire_due

-- It is at rest while nothing is due on it and nothing has woken it.
abbrev pub is_at_rest : ℕ → PlaceValue → Bool
is_at_rest now place = not place.awake && not (is_due place.due now)

-- what is done with it where its slot has its turn
abbrev pub visit_of : ℕ → Bool → Action
visit_of now rests = if rests then Rests now else Turns now

-- What is done with a line by the turn of a slot, or where what its turn came to is stored: nothing; or it was left at rest at this
-- moment, or turned.
pub data Visit : Type 0 where
  Passes : Visit
  RestsAt : (now : ℕ) → Visit
  TurnsAt : (now : ℕ) → Visit

abbrev pub actions_by : Visit → List Action
actions_by Passes = []
actions_by (RestsAt now) = Rests now ∷ []
actions_by (TurnsAt now) = Turns now ∷ []

abbrev pub is_turn : Visit → Bool
is_turn Passes = false
is_turn (RestsAt now) = false
is_turn (TurnsAt now) = true

-- Where its slot has its turn at this moment, or not: it is turned, or left at rest; but one that waits is passed over.
abbrev pub visit_at : (in_slot waits rests : Bool) → ℕ → Visit
visit_at false waits rests now = Passes
visit_at true true rests now = Passes
visit_at true false true now = RestsAt now
visit_at true false false now = TurnsAt now

-- what the wire of a line holds back stays, and so do the peers of its legs
abbrev pub StaysHeld : PlaceValue → PlaceValue → Type 0
StaysHeld old new = Stays old.line.holding new.line.holding × (new.line.peers ≡ old.line.peers)

-- A line that was turned tells what its ticks told; one that was left at rest had no turn.
abbrev pub TellsOrRests : ℕ → Bool → PlaceValue → PlaceValue → Type 0
TellsOrRests now true old new = (new.turned ≡ false) × StaysHeld old new
TellsOrRests now false old new = (new.turned ≡ true) × TellsTurn now old.line new.line

-- What each visit tells; of a line that is passed over what its wire holds back stays.
abbrev pub TellsVisit : Visit → PlaceValue → PlaceValue → Type 0
TellsVisit Passes old new = StaysHeld old new
TellsVisit (RestsAt now) old new = TellsOrRests now true old new
TellsVisit (TurnsAt now) old new = TellsOrRests now false old new

-- A line that waits stays as it is, and no other begins to.
abbrev pub WaitsStill : PlaceValue → PlaceValue → Type 0
WaitsStill old new = (new.waits ≡ old.waits) × (old.waits ≡ true → new ≡ old)

-- whether it is awake after these actions: woken, and not turned since
abbrev pub is_awake : Bool → List Action → Bool
is_awake before [] = before
is_awake before (Turns now ∷ earlier) = false
is_awake before (Rests now ∷ earlier) = is_awake before earlier
is_awake before (Asks now what answer ∷ earlier) = is_awake before earlier
is_awake before (Wakes ∷ earlier) = true

-- It was left at rest only where it was not awake.
abbrev pub RestsAsleep : Bool → List Action → Type 0
RestsAsleep before [] = Unit {0}
RestsAsleep before (Turns now ∷ earlier) = RestsAsleep before earlier
RestsAsleep before (Rests now ∷ earlier) =
    (is_awake before earlier ≡ false) × RestsAsleep before earlier
RestsAsleep before (Asks now what answer ∷ earlier) = RestsAsleep before earlier
RestsAsleep before (Wakes ∷ earlier) = RestsAsleep before earlier

-- These actions were all that was done: it is awake where it was woken and not turned since.
abbrev pub IsAwakeAfter : List Action → PlaceValue → PlaceValue → Type 0
IsAwakeAfter actions old new = new.awake ≡ is_awake old.awake actions

-- By these actions a line came from the one state to the other, in its place: where it is not awake, it was not woken since it was turned
-- last. It may have been woken besides, since one that waits is so before its turn is recorded.
pub record GoesInPlace (actions : List Action) (old new : PlaceValue) : Type 0 where
  pub goes : Goes actions old.line new.line
  pub awake : new.awake ≡ false → is_awake old.awake actions ≡ false
  pub asleep : RestsAsleep old.awake actions

-- no event came to its line, which is restored with these calls, and it is turned in the first turn of its slot
pub record BeginsInPlace (calls : List RestoredCall) (place : PlaceValue) : Type 0 where
  pub line : BeginsWith calls place.line
  pub awake : place.awake ≡ true
  pub waits : place.waits ≡ false

abbrev pub IsNewPlace : PlaceValue → Type 0
IsNewPlace place = BeginsInPlace [] place

-- with some, or with none
abbrev pub IsBegun : PlaceValue → Type 0
IsBegun place = (calls : List RestoredCall) × BeginsInPlace calls place
