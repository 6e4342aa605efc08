-- What openings leave in which the machine stops, or after which no run begins. (This project's profile.)
use Rattle.std.specs.Prelude.{◌≡◌, ◌⊎◌, ◌<◌, ℕ, zero, suc, Bool, List, ◌++◌}
use Rattle.fax_spool.specs.RecordOctets.{PageValue}
use Rattle.fax_spool.specs.Calls.{TellWaits}
use Rattle.fax_spool.specs.Opened.{AreBoth, IsOpened, newer_of, older_of}
use Rattle.fax_spool.specs.Spools.{MayLeaveBoth, TellBoth, Tells, epoch_records, greatest_epoch}
use Rattle.fax_spool.specs.declared.spool_record.SpoolRecord.{SpoolRecord}
use Rattle.fax_spool.specs.declared.opening.OpenedSpool.{OpenedSpool}

-- An opening over two files stopped, and left these: they tell what those told; and the newer one, or not, the records of an epoch
-- besides, whose number is greater than each before it. (Of what an opening is made of, `recover` leaves what a file tells, and the put
-- of the epoch leaves both of its records or none.)
pub record IsLeftByOpening (one other older newer : List ℕ) : Type 0 where
  pub ones : List SpoolRecord
  pub others : List SpoolRecord
  pub one_tells : Tells one ones
  pub other_tells : Tells other others
  pub number : ℕ
  pub older_epochs : greatest_epoch (older_of ones others) < number
  pub newer_epochs : greatest_epoch (newer_of ones others) < number
  pub left : TellBoth older newer (older_of ones others) (newer_of ones others)
      ⊎ TellBoth older newer (older_of ones others) (newer_of ones others ++ epoch_records number)

-- So many openings stopped, one after another, each over what the one before it left, whichever of both files it was handed first.
abbrev pub StopOpening : ℕ → List ℕ → List ℕ → List ℕ → List ℕ → Type 0
StopOpening zero older newer last_older last_newer = (last_older ≡ older) × (last_newer ≡ newer)
StopOpening (suc times) older newer last_older last_newer = (old : List ℕ)
    × (new : List ℕ) × (one : List ℕ) × (other : List ℕ) × StopOpening times older newer old new
    × AreBoth old new one other × IsLeftByOpening one other last_older last_newer

-- OPENINGS THAT STOP LEAVE WHAT WAITS, however many of them.
abbrev pub StoppedOpeningsLeaveWhatWaits : Type 0
StoppedOpeningsLeaveWhatWaits =
    (times : ℕ) (older newer last_older last_newer : List ℕ) (pages : List PageValue)
    → TellWaits older newer pages
    → StopOpening times older newer last_older last_newer → TellWaits last_older last_newer pages

-- One that was through leaves both files so too, whatever crash comes before anything is done with its spool.
abbrev pub OpeningsLeaveTheirEpoch : {D : Type 0}
    → (D → List ℕ) → (D → List ℕ → Type 0) → (D → Bool) → Type 0
OpeningsLeaveTheirEpoch {D} seen may_leave is_usable =
    (one other older newer : List ℕ) (opened : OpenedSpool D)
    → IsOpened seen may_leave is_usable one other opened
    → MayLeaveBoth may_leave opened.spool older newer → IsLeftByOpening one other older newer
