-- A job for which a DIS leaves no choice is reported with that refusal. (This project's profile.)
use Rattle.std.specs.Prelude.{◌≡◌, ℕ, max, List, [], ◌∷◌, ◌++◌, slice_get, Some, Err}
use Rattle.fax_frames.specs.declared.dis.Dis.{Dis}
use Rattle.fax_frames.specs.declared.frame.Frame.TheVariants as frames
use Rattle.fax_frames.specs.declared.choice.Refusal.{Refusal}
use Rattle.fax_frames.specs.Choice.{choice}
use Rattle.fax_frames.specs.Frames.{frame_of}
use Rattle.fax_ifp.specs.Pieces as pieces
use Rattle.fax_pagestore.specs.Pages.{PageValue}
use Rattle.fax_jobs.specs.declared.report.Report.{Report}
use Rattle.fax_call.specs.declared.state.State.TheVariants.{AwaitDis}
use Rattle.fax_call.specs.Writings.{Writing}
use Rattle.fax_call.specs.Calls.{CallerCore, CallEvent, Comes, after_events}
use Rattle.fax_call.specs.Table.{outcome_of}
use Rattle.fax_gateway.specs.Setups.{Setup}
use Rattle.fax_gateway.specs.Events.{Event, Tick, Given, clock}
use Rattle.fax_gateway.specs.CalledLegs.{CalledLeg, begun_core}
use Rattle.fax_gateway.specs.BothLegs.{in_tick}
use Rattle.fax_gateway.specs.Traces.{IsTrace}

-- In the call of this leg a DIS was taken in Await DIS that leaves no choice for the page due.
pub record LeavesNoChoice (writes : Writing) (leg : CalledLeg) (refusal : Refusal) : Type 0 where
  pub later : List CallEvent
  pub octets : List ℕ
  pub now : ℕ
  pub events : List CallEvent
  pub split : leg.events ≡ later ++ Comes (pieces.Frame octets) now ∷ events
  pub awaits : (after_events writes leg.job (begun_core leg) events).state ≡ AwaitDis
  pub waits_not : (after_events writes leg.job (begun_core leg) events).waiting ≡ []
  pub dis : Dis
  pub frame : frame_of octets ≡ Some (frames.Dis dis)
  pub page : PageValue
  pub due :
      slice_get leg.job.pages (after_events writes leg.job (begun_core leg) events).counts.page
      ≡ Some page
  pub none : choice dis page.format 0 ≡ Err refusal

-- The report that a tick gives after that has its outcome.
abbrev pub ReportsTheRefusal : Type 0
ReportsTheRefusal = (setup : Setup) (writes : Writing) (earlier : List Event)
    (at : ℕ) (given : Given) (leg : CalledLeg) (refusal : Refusal) (report : Report)
    → IsTrace setup writes (Tick at given ∷ earlier)
    → (in_tick setup writes earlier at).leg ≡ Some leg → LeavesNoChoice writes leg refusal
    → given.report ≡ Some report → report.outcome ≡ outcome_of refusal
