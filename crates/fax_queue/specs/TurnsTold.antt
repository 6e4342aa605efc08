-- WHAT A TURN OF A LINE TELLS IS WHAT IS DONE WITH IT: so the actions of a server are those of the lives of its gateway. Lists of
-- events have the newest first. (This project's profile.)
use Rattle.std.specs.Prelude.{◌≡◌, ℕ, List, ◌∷◌, ◌++◌, Option, None}
use Rattle.fax_jobs.specs.declared.report.Report.{Report}
use Rattle.fax_call.specs.Writings.{Writing}
use Rattle.fax_gateway.specs.Setups.{Setup}
use Rattle.fax_gateway.specs.Events.{Event}
use Rattle.fax_gateway.specs.Driving.{Entry, IsTurn, events}
use Rattle.fax_gateway.specs.Reached.{IsReachedBy}
use Rattle.fax_gateway.specs.Turns.{TellTicks}
use Rattle.fax_line.specs.Actions.{LineValue}
use Rattle.fax_line.specs.Settling.{IsOfTurn}
use Rattle.fax_line.specs.declared.settling.PageToStore.{PageToStore}
use Rattle.fax_spool.specs.RecordOctets as spool
use Rattle.fax_spool.specs.declared.spool_record.SpoolRecord.TheVariants.{Page}
use Rattle.fax_queue.specs.Book.{BookEntry, Confirms, page_of, reports, told_in}
use Rattle.fax_queue.specs.Storing.{IsRecordOf}
use Rattle.fax_queue.specs.Restorations.{Means, ReadPage}

-- A turn by which the line is this, and its gateway's trace is `newer` where it was `older`: what it told is that of its tick.
pub record EndsIn (setup : Setup) (writes : Writing) (older newer : List Event) (line : LineValue) :
    Type 0 where
  pub now : ℕ
  pub log : List Entry
  pub turn : IsTurn now log
  pub longer : newer ≡ events log ++ older
  pub reached : IsReachedBy setup writes newer line.gateway
  pub tells : TellTicks setup
      older newer line.turned.report line.turned.kept line.turned.refused line.turned.gave_up

-- The record means the page that the turn confirmed, in the call that it came in: by the gateway just that is told, as by a action
-- with this page, and after it what the turn reported.
pub record IsPutAs (setup : Setup)
    (older newer : List Event) (report : Option Report) (value : spool.PageValue) : Type 0 where
  pub page : ReadPage
  pub waits : page.waits ≡ value
  pub means : Means page.waits page.page
  pub given : Option (List ℕ)
  pub told : (before : List BookEntry)
      → told_in setup newer before ≡ reports report (Confirms given (page_of page) page.waits.closes
      ∷ told_in setup older before)

-- A TURN THAT TELLS A PAGE ADDS IT TO BOTH, to the book and to what is put; and one that tells none adds none. What is told of a job
-- is the number of its pages.
pub record TellsBoth (setup : Setup) (older newer : List Event) (line : LineValue) : Type 0 where
  pub none : line.turned.kept ≡ None → (before : List BookEntry)
      → told_in setup newer before ≡ reports line.turned.report (told_in setup older before)
  pub one : (page : PageToStore) (value : spool.PageValue) → IsOfTurn line page
      → IsRecordOf page (Page value) → IsPutAs setup older newer line.turned.report value

abbrev pub TurnsTellBoth : Type 0
TurnsTellBoth = (setup : Setup) (writes : Writing) (older newer : List Event) (line : LineValue)
    → EndsIn setup writes older newer line → TellsBoth setup older newer line
