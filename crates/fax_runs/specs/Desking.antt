-- What comes in at the desk of a server and what its lines are asked are the same. Lists have the newest first. (This project's profile.)
use Rattle.std.specs.Prelude.{◌≡◌, ℕ, List, [], ◌∷◌, ◌++◌, map, Option, Some, None}
use Rattle.fax_line.specs.declared.asked.LineAnswer.{LineAnswer}
use Rattle.fax_line.specs.declared.asked.LineRequest.{LineRequest}
use Rattle.fax_line.specs.declared.order.Order.{Order as LoopOrder}
use Rattle.fax_line.specs.declared.order.Order.TheVariants as order
use Rattle.fax_line.specs.Runs.{AskedOf, DoneOrder, Stored, Turned, Woken}
use Rattle.fax_desk.specs.declared.desk.Waits.{Waits}
use Rattle.fax_desk.specs.declared.next.Order.{Order}
use Rattle.fax_desk.specs.Laws.{DeskEvent, Passes, orders_of, told_of}

-- what gives the orders: what it waits to be told of
pub record PaceValue : Type 0 where
  pub waits : Option Waits

-- this is asked of this line, counted from 0
pub record LineAsked : Type 0 where
  pub line : ℕ
  pub what : LineRequest

abbrev pub asked_by : Order → LineAsked
asked_by given = record { line = given.line; what = given.what }

-- what was ordered at the desk, by a word or since a question was not answered
abbrev pub ordered : List DeskEvent → List LineAsked
ordered passed = map asked_by (orders_of passed)

-- ---- what the lines of a run were asked, and how they answered

abbrev pub lines_asked : List DoneOrder → List LineAsked
lines_asked [] = []
lines_asked (Turned now visits ∷ earlier) = lines_asked earlier
lines_asked (Stored visits ∷ earlier) = lines_asked earlier
lines_asked (AskedOf line now what answer ∷ earlier) =
    record { line = line; what = what } ∷ lines_asked earlier
lines_asked (Woken line ∷ earlier) = lines_asked earlier

abbrev pub lines_answered : List DoneOrder → List (Option LineAnswer)
lines_answered [] = []
lines_answered (Turned now visits ∷ earlier) = lines_answered earlier
lines_answered (Stored visits ∷ earlier) = lines_answered earlier
lines_answered (AskedOf line now what answer ∷ earlier) = answer ∷ lines_answered earlier
lines_answered (Woken line ∷ earlier) = lines_answered earlier

-- ---- an order of the loop that the desk gave, in what passed there before it

abbrev pub given_by : Option LoopOrder → List LineAsked
given_by None = []
given_by (Some (order.Turn now)) = []
given_by (Some (order.Ask line now what)) = record { line = line; what = what } ∷ []
given_by (Some (order.Wake line)) = []

-- This passed at the desk, at which nothing waited, after all that had passed there; and it gave these orders.
pub record PassesDesk (given : List LineAsked)
    (told : List (Option LineAnswer)) (old new : PaceValue) : Type 0 where
  pub passed : List DeskEvent
  pub passes : (earlier : List DeskEvent)
      → Passes earlier old.waits → Passes (passed ++ earlier) new.waits
  pub orders : ordered passed ≡ given
  pub told_is : told_of passed ≡ told

-- What the loop is ordered is what the desk gave; and while it gives no order of a line, nothing waits there.
abbrev pub GivesOrder : Option LoopOrder → PaceValue → PaceValue → Type 0
GivesOrder given old new = old.waits ≡ None
    → PassesDesk (given_by given) [] old new × (given_by given ≡ [] → new.waits ≡ None)

-- what the line answered is told at the desk
abbrev pub Hears : Option LineAnswer → PaceValue → PaceValue → Type 0
Hears answer old new = PassesDesk [] (answer ∷ []) old new × (new.waits ≡ None)

-- a turn is nothing to it, and neither is what is stored
abbrev pub SeesNothing : PaceValue → PaceValue → Type 0
SeesNothing old new = new.waits ≡ old.waits

-- EACH WORD IS DONE ONCE, ON ITS LINE: what the lines of a run were asked are the orders that the desk gave, each once and in their order;
-- and what the desk was told of them is what the lines answered. (What passed at the desk is answered as `fax_desk` says.)
pub record WordsAreDone (done : List DoneOrder) : Type 0 where
  pub passed : List DeskEvent
  pub waits : Option Waits
  pub passes : Passes passed waits
  pub orders : ordered passed ≡ lines_asked done
  pub answers : told_of passed ≡ lines_answered done
