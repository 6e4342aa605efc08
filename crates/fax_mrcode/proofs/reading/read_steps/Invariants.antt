use Rattle.std.proofs.Common.{◌-◌, ◌+◌}
use Rattle.fax_runcodes.specs.declared.Colour.TheVariants.{White}
use Rattle.fax_runcodes.specs.Painted.{painted}
use Rattle.fax_mrcode.specs.Starts.{IsStartIn, StepsSoFar, left_of_a0}
use Rattle.fax_mrcode.proofs.reading.read_steps.Given as goal

abbrev pub invariant-loop-start : goal.invariant-loop-start
invariant-loop-start l = record {
  so_far : StepsSoFar (painted White 0 l.changes l.width) l.width l.fn.reader l.reader (left_of_a0 l.line l.start) l.start;
  is_start : IsStartIn l.changes l.width l.line l.start;
}

abbrev pub decreases-loop-start : goal.decreases-loop-start
decreases-loop-start l = l.width + 1 - l.start.from
