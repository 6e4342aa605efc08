-- Both legs over one book. In a tick the calling leg is served first, with what the book hears of it; then, where no job
-- is being sent, the one that was closed first is; then the called leg is served, and a call that is over is entered. So the
-- next job starts one tick later. Where calls are asked for, no tick begins one: the job that was closed first is asked for while
-- none is being sent, and its call begins when it is placed. (This project's profile.)
use Rattle.std.specs.Prelude.{ℕ, Bool, true, false, not, ◌&&◌, is_some, max, List, [], ◌∷◌, Option, Some, None, option_map, if◌then◌else◌}
use Rattle.fax_jobs.specs.declared.outcome.Outcome.{Outcome}
use Rattle.fax_jobs.specs.Jobs.{JobValue}
use Rattle.fax_jobs.specs.Books.{Book, next_job}
use Rattle.fax_jobs.specs.Pasts.{Step, Confirms, CallEnds, Sends, Ends, Past, new_past, after_steps}
use Rattle.fax_answer.specs.Replies.{ConfirmedPage}
use Rattle.fax_call.specs.Writings.{Writing}
use Rattle.fax_call.specs.Calls.{CallerCore}
use Rattle.fax_gateway.specs.Restored.{restores}
use Rattle.fax_gateway.specs.Setups.{Setup}
use Rattle.fax_gateway.specs.Events.{Event, Ring, FromCalling, FromCalled, Tick, Placed, clock}
use Rattle.fax_gateway.specs.CallingLegs.{CallingLeg, calling_leg, idle_after, answers, confirmed_by}
use Rattle.fax_gateway.specs.CalledLegs.{CalledLeg, is_free, core_left, placed_leg, leg_ticked, hears, outcome_told, delivered_told}

-- the steps of the book, the newest first, and the called leg, none before the first job is sent
pub record BothLegs : Type 0 where
  pub steps : List Step
  pub leg : Option CalledLeg

abbrev pub past_of : BothLegs → Past
past_of s = after_steps new_past s.steps

abbrev pub book_of : BothLegs → Book
book_of s = (past_of s).book

-- what the book hears of the calling leg: pages that are confirmed, and calls that end
abbrev pub confirms_if : ℕ → Option ConfirmedPage → List Step → List Step
confirms_if number None steps = steps
confirms_if number (Some c) steps = Confirms number c.page c.closes ∷ steps

abbrev pub ends_if : Bool → List Step → List Step
ends_if true steps = CallEnds ∷ steps
ends_if false steps = steps

abbrev pub heard_in_tick : Option CallingLeg → ℕ → List Step → List Step
heard_in_tick None now steps = steps
heard_in_tick (Some l) now steps =
    ends_if (answers l now).ended (confirms_if l.number (confirmed_by (answers l now).given) steps)

-- where no job is being sent, the one that was closed first is, in a call that was placed or not
abbrev pub leg_of : (connected : Bool)
    → Option JobValue → CallerCore → ℕ → Option CalledLeg → Option CalledLeg
leg_of connected None before now leg = leg
leg_of connected (Some job) before now leg = Some (placed_leg connected job before now)

abbrev pub sends : (connected : Bool) → Setup → Writing → ℕ → BothLegs → BothLegs
sends connected setup writes now s =
    let steps : List Step = Sends ∷ s.steps in record {
      steps = steps;
      leg = leg_of
          connected (after_steps new_past steps).book.sending (core_left setup writes s.leg) now s.leg;
    }

-- a tick begins the next call: none is on, and none is asked for
abbrev pub begins_next : Setup → Option CalledLeg → Bool
begins_next setup leg = not setup.asks && is_free leg

abbrev pub sends_if : Setup → Writing → ℕ → BothLegs → BothLegs
sends_if setup writes now s = if begins_next setup s.leg then sends true setup writes now s else s

-- the job whose call is asked for
abbrev pub job_asked : (asks : Bool) → Book → Option JobValue
job_asked false book = None
job_asked true book = if is_some book.sending then None else next_job book

-- the called leg is served, and the end of its call is entered
abbrev pub enters : ℕ → Option Outcome → List Step → List Step
enters delivered None steps = steps
enters delivered (Some outcome) steps = Ends outcome delivered ∷ steps

abbrev pub serves : Writing → ℕ → BothLegs → BothLegs
serves writes now s =
    record {
      steps = enters (delivered_told writes s.leg now) (outcome_told writes s.leg now) s.steps;
      leg = option_map (leg_ticked writes now) s.leg;
    }

-- a tick as far as the called leg is served
abbrev pub before_serving : Setup → Writing → Option CallingLeg → ℕ → BothLegs → BothLegs
before_serving setup writes leg now s =
    sends_if setup writes now (record s { steps = heard_in_tick leg now s.steps })

-- what an event does, where the calling leg is `old` before it and `new` after it
abbrev pub legs_after : Setup
    → Writing → Option CallingLeg → Option CallingLeg → ℕ → Event → BothLegs → BothLegs
legs_after setup writes old new now (Ring at number) s = s
legs_after setup writes old new now (FromCalling octets at decided read) s =
    record s { steps = ends_if (not (idle_after old) && idle_after new) s.steps }
legs_after setup writes old new now (FromCalled octets at decided) s =
    record s { leg = option_map (hears writes octets now) s.leg }
legs_after setup writes old new now (Tick at given) s =
    serves writes now (before_serving setup writes old now s)
legs_after setup writes old new now (Placed at connected) s = sends connected setup writes now s

-- It begins with the restored calls, each of which has ended: a new gateway begins with none.
abbrev pub both_legs : Setup → Writing → List Event → BothLegs
both_legs setup writes [] = record { steps = restores setup.restored []; leg = None }
both_legs setup writes (e ∷ earlier) = legs_after setup writes (calling_leg setup earlier)
    (calling_leg setup (e ∷ earlier)) (clock (e ∷ earlier)) e (both_legs setup writes earlier)

-- a tick after a trace, as far as the called leg is served
abbrev pub in_tick : Setup → Writing → List Event → ℕ → BothLegs
in_tick setup writes earlier at = before_serving setup writes (calling_leg setup earlier)
    (max at (clock earlier)) (both_legs setup writes earlier)
