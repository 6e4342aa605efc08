use Rattle.std.proofs.Common.{◌-◌, ◌+◌}
use Rattle.fax_runcodes.specs.Rows.{Elements}
use Rattle.fax_runcodes.specs.declared.Colour.TheVariants.{White}
use Rattle.fax_runcodes.specs.Painted.{painted}
use Rattle.fax_mrcode.specs.Starts.{IsStart, StepsSoFar}
use Rattle.fax_mrcode.proofs.reading.passing.pass_steps.Given as goal

abbrev pub invariant-loop-start : goal.invariant-loop-start
invariant-loop-start l = record {
  line : Elements;
  so_far : StepsSoFar (painted White 0 l.changes l.width) l.width l.fn.reader l.reader line l.start;
  is_start : IsStart l.changes l.width line l.start;
}

abbrev pub decreases-loop-start : goal.decreases-loop-start
decreases-loop-start l = l.width + 1 - l.start.from
