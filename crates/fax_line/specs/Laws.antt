-- A law of what a line goes through. Lists have the newest first. (This project's profile.)
use Rattle.std.specs.Prelude.{◌≡◌, ℕ, ◌<◌, max, nat_eq, false, List, [], ◌∷◌, length, slice_index_or, Option}
use Rattle.fax_timers.specs.Moments.{is_due}
use Rattle.fax_call.specs.Writings.{Writing}
use Rattle.fax_gateway.specs.Driving.{Entry, events}
use Rattle.fax_gateway.specs.Due.{due_at}
use Rattle.fax_gateway.specs.Events.{clock}
use Rattle.fax_gateway.specs.Setups.{Setup}
use Rattle.fax_line.specs.declared.asked.LineAnswer.{LineAnswer}
use Rattle.fax_line.specs.declared.asked.LineRequest.{LineRequest}
use Rattle.fax_line.specs.Actions.{Action, AreSteps, Rests}
use Rattle.fax_line.specs.Operations.{AskFrees, RiseTo}
use Rattle.fax_line.specs.Places.{PlaceValue}

-- Where a new line is left at rest, a tick of its gateway would not have been due by the latest moment that it has read: it
-- would have given nothing, and changed the clock alone.
abbrev pub RestsMissNothing : Type 0
RestsMissNothing =
    (setup : Setup) (writes : Writing) (earlier : List Action) (now : ℕ) (log : List Entry)
    → AreSteps setup writes [] (Rests now ∷ earlier) log → RiseTo earlier now
    → is_due (due_at setup writes (events log)) (max now (clock (events log))) ≡ false

-- WHAT IS ASKED OF ONE LINE leaves every other one as it was.
abbrev pub OthersStay : Type 0
OthersStay =
    (line : ℕ) (what : LineRequest) (answer : Option LineAnswer) (old new : List PlaceValue)
    → AskFrees line what answer old new → (number : ℕ) (other : PlaceValue) → number < length old
    → nat_eq number line ≡ false → slice_index_or new number other ≡ slice_index_or old number other
