use Rattle.std.proofs.Common.{◌++◌, List, length, map}
use Rattle.fax_spool.specs.SpoolRecords.{AreReadAs}
use Rattle.fax_spool.specs.declared.spool_record.SpoolRecord.{SpoolRecord}
use Rattle.fax_spool.proofs.waiting.read_spool_records.Given as goal

abbrev pub decreases-loop-octets : goal.decreases-loop-octets
decreases-loop-octets l = length l.rest

-- however the rest is read, the records so far with it are what all of them say
abbrev pub invariant-loop-octets : goal.invariant-loop-octets
invariant-loop-octets l = (rest : List SpoolRecord) → AreReadAs (map (λ v. v.items) l.rest) rest → AreReadAs (map (λ v. v.items) l.items) (l.records.items ++ rest)
