use Rattle.std.proofs.Common.{◌≡◌, drop}
use Rattle.fax_spool.specs.Waits.{waiting_after}
use Rattle.fax_spool.proofs.waiting.follow_all.Given as goal

-- what is still to come makes of the pages so far those that wait
abbrev pub invariant-loop-kept : goal.invariant-loop-kept
invariant-loop-kept l = waiting_after l.pages.items (drop l.kept-index l.records) ≡ waiting_after l.initial.pages.items l.records
