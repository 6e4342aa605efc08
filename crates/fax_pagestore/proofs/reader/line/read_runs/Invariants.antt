use Rattle.std.proofs.Common.{◌≡◌, ◌+◌, ◌<◌, ◌≤◌, length, sum}
use Rattle.fax_runcodes.specs.declared.Colour.TheVariants.{White}
use Rattle.fax_runcodes.specs.Rows.{stretches}
use Rattle.fax_mhcode.specs.LineFaults.{colour_after}
use Rattle.fax_mhcode.specs.Pairs.{RunsSoFar}
use Rattle.fax_pagestore.proofs.reader.line.read_runs.Given as goal

abbrev pub invariant-loop-run : goal.invariant-loop-run
invariant-loop-run l = record {
  so_far : RunsSoFar l.width l.fn.reader l.reader (stretches White l.runs.items) (colour_after l.runs.items);
  colour : l.colour ≡ colour_after l.runs.items;
  left : sum l.runs.items + l.left ≡ l.width;
  some : 0 < l.left;
  on : l.fn.reader.passed ≤ l.reader.passed;
  moved : 0 < length l.runs.items → l.fn.reader.passed < l.reader.passed;
}

abbrev pub decreases-loop-run : goal.decreases-loop-run
decreases-loop-run l = length l.reader.left
