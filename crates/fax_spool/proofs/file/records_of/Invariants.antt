use Rattle.std.proofs.Common.{◌≡◌, ◌++◌, List, ℕ, length, map}
use Rattle.fax_spool.specs.Records.{AreRead}
use Rattle.fax_spool.proofs.file.records_of.Given as goal

abbrev pub decreases-loop-item : goal.decreases-loop-item
decreases-loop-item l = length l.rest

-- the records so far stand in the octets before the rest
abbrev pub invariant-loop-item : goal.invariant-loop-item
invariant-loop-item l = (front : List ℕ) × (l.octets ≡ front ++ l.rest) × AreRead front (map (λ v. v.items) l.items.items)
