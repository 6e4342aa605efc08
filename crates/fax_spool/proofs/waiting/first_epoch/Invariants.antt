use Rattle.std.proofs.Common.{◌≡◌, drop}
use Rattle.fax_spool.specs.Spools.{epoch_of}
use Rattle.fax_spool.proofs.waiting.first_epoch.Given as goal

-- the first of those still to come is the first of all
abbrev pub invariant-loop-kept : goal.invariant-loop-kept
invariant-loop-kept l = epoch_of (drop l.kept-index l.records) ≡ epoch_of l.records
