use Rattle.std.proofs.Common.{List, ℕ, ◌++◌, map, take}
use Rattle.fax_spool.specs.RecordOctets.{PageValue}
use Rattle.fax_spool.specs.SpoolRecords.{AreReadAs}
use Rattle.fax_spool.specs.StoredPages.{AreKnownAs, ended_alone}
use Rattle.fax_spool.specs.declared.spool_record.SpoolRecord.{SpoolRecord}
use Rattle.fax_spool.proofs.stored_page.push_ends.Given as goal

-- the records before, and those of the pages so far
abbrev pub invariant-loop-page : goal.invariant-loop-page
invariant-loop-page l =
    (there : List (List ℕ)) (records : List SpoolRecord) (waits : List PageValue) → AreReadAs (map (λ v. v.items) l.initial.items.items) records → AreKnownAs there l.pages waits
    → AreReadAs (map (λ v. v.items) l.items.items) (records ++ map ended_alone (take l.page-index waits))
