-- What a report tells of the job's call.
use Rattle.std.specs.Prelude.{◌≡◌, ℕ, List, [], ◌∷◌, ◌++◌, length, Option, Some}
use Rattle.fax_jobs.specs.declared.report.Report.{Report}
use Rattle.fax_jobs.specs.Books.{Book}
use Rattle.fax_call.specs.Writings.{Writing, IsWriting}
use Rattle.fax_call.specs.Emission.{Mark, Gave, Acknowledged, Refused, Begins}
use Rattle.fax_call.specs.Delivery.{IsTold}
use Rattle.fax_gateway.specs.Setups.{Setup}
use Rattle.fax_gateway.specs.Events.{Event, Tick, Given}
use Rattle.fax_gateway.specs.CalledLegs.{CalledLeg}
use Rattle.fax_gateway.specs.BothLegs.{book_of, both_legs, in_tick}
use Rattle.fax_gateway.specs.Traces.{IsTrace}
use Rattle.fax_gateway.specs.Told.{leg_marks}

-- frames that were heard, and nothing else
abbrev pub AreHeard : List Mark → Type 0
AreHeard [] = Unit {0}
AreHeard (Gave e ∷ marks) = ⊥
AreHeard (Acknowledged ∷ marks) = AreHeard marks
AreHeard (Refused ∷ marks) = AreHeard marks
AreHeard (Begins ∷ marks) = ⊥

-- A report that a tick gave: `book` is the book when the called leg is served, and the leg and the marks are those after the
-- tick.
pub record IsReported (book : Book) (leg : Option CalledLeg) (marks : List Mark) (report : Report) :
    Type 0 where
  -- it is of the job that was being sent
  pub l : CalledLeg
  pub is_leg : leg ≡ Some l
  pub is_sending : book.sending ≡ Some l.job
  pub call : report.call ≡ l.job.call
  pub format : report.format ≡ l.job.format
  pub pages : report.pages ≡ length l.job.pages
  -- by what the leg gave and heard until the call was over: after that it gave nothing, and at most heard frames
  pub until : List Mark
  pub later : List Mark
  pub are_heard : AreHeard later
  pub marks_are : marks ≡ later ++ until
  -- the pages below `delivered` were emitted, each to its end, and answered with MCF or RTP, one each, and the outcome is
  -- Delivered exactly where they are all
  pub told : IsTold l.job report.outcome report.delivered l.events until

abbrev pub ReportsTheJob : Type 0
ReportsTheJob = (setup : Setup) (writes : Writing) (earlier : List Event) (at : ℕ) (given : Given)
    (report : Report) → IsWriting writes → IsTrace setup writes (Tick at given ∷ earlier)
    → given.report ≡ Some report → let trace : List Event = Tick at given ∷ earlier
    in IsReported (book_of (in_tick setup writes earlier at))
    (both_legs setup writes trace).leg (leg_marks setup writes trace) report
