-- How a call ends in which a DIS is awaited in vain. (ITU-T T.30, 5.4.3.1 for T1; the outcomes are this project's profile.)
use Rattle.std.specs.Prelude.{◌≡◌, ℕ, Bool, true, false, ◌||◌, List, [], ◌∷◌, Option, Some, Result, Ok, Err, if◌then◌else◌}
use Rattle.fax_runcodes.specs.declared.format.Format.{Format}
use Rattle.fax_frames.specs.declared.dcs.Dcs.{Dcs}
use Rattle.fax_frames.specs.declared.choice.Refusal.{Refusal}
use Rattle.fax_frames.specs.declared.frame.Frame.{Frame}
use Rattle.fax_frames.specs.declared.frame.Frame.TheVariants as frames
use Rattle.fax_frames.specs.Choice.{choice}
use Rattle.fax_frames.specs.Frames.{frame_of}
use Rattle.fax_timers.specs.Moments.{is_due}
use Rattle.fax_ifp.specs.Pieces as pieces
use Rattle.fax_jobs.specs.declared.outcome.Outcome.TheVariants as outcomes
use Rattle.fax_jobs.specs.Jobs.{JobValue}
use Rattle.fax_call.specs.declared.state.State.{State}
use Rattle.fax_call.specs.declared.state.State.TheVariants.{AwaitDis, Closing}
use Rattle.fax_call.specs.Writings.{Writing}
use Rattle.fax_call.specs.Replies.{waits}
use Rattle.fax_call.specs.Calls.{CallerCore, started, ticked, CallEvent, Comes, Ticks, after_events}

-- a DIS that leaves a choice for the page due is accepted: it comes in Await DIS, while no packet waits
abbrev pub leaves_choice : Result Dcs Refusal → Bool
leaves_choice (Ok dcs) = true
leaves_choice (Err refusal) = false

abbrev pub is_accepted : State → (waits : Bool) → Format → (step : ℕ) → Option Frame → Bool
is_accepted AwaitDis false format step (Some (frames.Dis dis)) =
    leaves_choice (choice dis format step)
is_accepted state waits format step frame = false

abbrev pub accepts : CallerCore → pieces.Piece → Bool
accepts a (pieces.Frame octets) =
    is_accepted a.state (waits a.waiting) a.format a.counts.step (frame_of octets)
accepts a piece = false

-- whether a DIS was accepted in the call
abbrev pub was_accepted : Writing → JobValue → CallerCore → List CallEvent → Bool
was_accepted writes job begun [] = false
was_accepted writes job begun (Comes piece now ∷ before) =
    accepts (after_events writes job begun before) piece || was_accepted writes job begun before
was_accepted writes job begun (Ticks now ∷ before) = was_accepted writes job begun before

-- Where T1 is due in Await DIS, the call ends with NoReply where a DIS was accepted before in it, else with NoAnswer.
abbrev pub TellsWhyItGaveUp : Type 0
TellsWhyItGaveUp = (writes : Writing) (job : JobValue) (core : CallerCore)
    (start now : ℕ) (events : List CallEvent) → let begun : CallerCore = started core job start
    in let a : CallerCore = after_events writes job begun events in a.state ≡ AwaitDis
    → a.waiting ≡ [] → is_due a.t1 now ≡ true → (ticked writes job a now).core.state
    ≡ Closing (if was_accepted writes job begun events then outcomes.NoReply else outcomes.NoAnswer)
