use Rattle.std.proofs.Common.{◌≡◌, sum, take}
use Rattle.fax_runcodes.proofs.row.sum_of.Given as goal

-- the total so far
abbrev pub invariant-loop-run : goal.invariant-loop-run
invariant-loop-run l = l.total ≡ sum (take l.run-index l.runs)
