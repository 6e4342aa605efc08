-- No datagram of a job leaves before its connect. Lists have the newest first. (This project's profile.)
use Rattle.std.specs.Prelude.{◌≡◌, ℕ, Bool, true, List, [], ◌∷◌, ◌++◌, Option, Some, Result, Ok}
use Rattle.fax_call.specs.Writings.{Writing}
use Rattle.fax_gateway.specs.Asking.{GivesInCall, WasPlaced}
use Rattle.fax_gateway.specs.Driving.{Entry, events}
use Rattle.fax_gateway.specs.Events.{Event, Given, Tick}
use Rattle.fax_gateway.specs.Setups.{Setup}
use Rattle.fax_gateway.specs.Traces.{IsTrace}
use Rattle.fax_line.specs.declared.asked.LineAnswer.TheVariants as answered
use Rattle.fax_line.specs.declared.asked.LineRequest.TheVariants as asked
use Rattle.fax_line.specs.declared.asked.ConnectRequest.{ConnectRequest}
use Rattle.fax_line.specs.Actions.{Action, AreSteps, Asks, Placing}

-- Among these actions it was asked of the line at this moment that the call which it asks for begins, and that was done.
pub record WasConnected (actions : List Action) (at : ℕ) : Type 0 where
  pub later : List Action
  pub connecting : ConnectRequest
  pub earlier : List Action
  pub split : actions
      ≡ later ++ Asks at (asked.Connect connecting) (Some (answered.Placed (Ok tt))) ∷ earlier

-- A datagram leaves in the call of a job, which has not ended: at its placing the job was asked for, and there it was connected.
pub record GivesAfterConnect (setup : Setup)
    (writes : Writing) (actions : List Action) (earlier : List Event) : Type 0 where
  pub gives : GivesInCall setup writes earlier
  pub placed : WasPlaced setup writes earlier gives.l
  pub connected : WasConnected actions placed.at

-- NO DATAGRAM OF A JOB LEAVES BEFORE ITS CONNECT, of all that a line goes through whose settings are that it asks.
abbrev pub JobsWaitForConnects : Type 0
JobsWaitForConnects = (setup : Setup) (writes : Writing) (actions : List Action) (log : List Entry)
    (later : List Event) (at : ℕ) (given : Given) (earlier : List Event) (datagram : List ℕ)
    → setup.asks ≡ true → AreSteps setup writes [] actions log
    → IsTrace setup writes (events log) → events log ≡ later ++ Tick at given ∷ earlier
    → given.on_called ≡ Some datagram → GivesAfterConnect setup writes actions earlier
