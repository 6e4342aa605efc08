use Rattle.std.proofs.Common.{◌≡◌, drop}
use Rattle.fax_spool.specs.Spools.{greatest_after, greatest_epoch}
use Rattle.fax_spool.proofs.waiting.newest_epoch.Given as goal

-- the greatest so far, and what is still to come
abbrev pub invariant-loop-kept : goal.invariant-loop-kept
invariant-loop-kept l = greatest_after l.greatest (drop l.kept-index l.records) ≡ greatest_epoch l.records
