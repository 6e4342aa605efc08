use Rattle.std.proofs.Common.{◌≡◌, ◌++◌, IsTrue, List, ℕ, take}
use Rattle.fax_spool.specs.RecordOctets.{PageValue}
use Rattle.fax_spool.specs.StoredPages.{AreKnownAs}
use Rattle.fax_spool.specs.Settled.{IsSettled}
use Rattle.fax_spool.specs.Waits.{ended_by}
use Rattle.fax_spool.proofs.reading.push_ended.Given as goal

-- those of the pages so far that the job had are found; and the file is as it was
abbrev pub invariant-loop-kept : goal.invariant-loop-kept
invariant-loop-kept g l =
    (IsTrue (g.D.Disk.is_clean l.file.disk) → (rs : List (List ℕ)) (waits : List PageValue) → IsSettled g.D.Disk.seen g.D.Disk.may_leave g.D.Disk.is_usable l.initial.file.disk l.initial.file.end rs → AreKnownAs rs l.pages waits
    → l.found.items ≡ l.initial.found.items ++ ended_by l.ended (take l.kept-index waits))
    × ((rs : List (List ℕ)) → IsSettled g.D.Disk.seen g.D.Disk.may_leave g.D.Disk.is_usable l.initial.file.disk l.initial.file.end rs
    → IsSettled g.D.Disk.seen g.D.Disk.may_leave g.D.Disk.is_usable l.file.disk l.file.end rs)
    × ((c : List ℕ) → g.D.Disk.may_leave l.file.disk c → g.D.Disk.may_leave l.initial.file.disk c)
