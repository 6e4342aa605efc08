use Rattle.std.proofs.Common.{map, take}
use Rattle.fax_spool.specs.SpoolRecords.{AreReadAs, ended_record}
use Rattle.fax_spool.proofs.stored_page.seal_ends.Given as goal

-- the records of the ends so far
abbrev pub invariant-loop-job : goal.invariant-loop-job
invariant-loop-job l = AreReadAs (map (λ v. v.items) l.items.items) (map ended_record (take l.job-index l.ended))
