use Rattle.std.proofs.Common.{◌+◌, ◌-◌, ◌≤◌, drop}
use Rattle.fax_bits.specs.Reading.{Place}
use Rattle.fax_runcodes.specs.declared.Colour.TheVariants.{White}
use Rattle.fax_runcodes.specs.Painted.{painted}
use Rattle.fax_mrcode.specs.Windows.{Shows}
use Rattle.fax_mrcode.specs.Starts.{IsStartIn, StepsSoFar, left_of_a0, start_of}
use Rattle.fax_mrcode.proofs.VerticalLemmas.{after_place}
use Rattle.fax_mrcode.proofs.reading.near.read_near_steps.Given as goal

abbrev pub invariant-loop-near : goal.invariant-loop-near
invariant-loop-near l = record {
  few : l.near.ahead.left ≤ l.known;
  shows : Shows l.near.ahead.window l.near.ahead.left (drop (l.known - l.near.ahead.left) l.reader.left);
  is_start : IsStartIn l.changes l.width l.line (start_of l.near);
  right : l.fn.start.from ≤ l.near.from;
  so_far : (old : Place) → StepsSoFar (painted White 0 l.changes l.width) l.width old l.reader (left_of_a0 l.fn.line l.fn.start) l.fn.start
      → StepsSoFar (painted White 0 l.changes l.width) l.width old (after_place l.reader (l.known - l.near.ahead.left)) (left_of_a0 l.line (start_of l.near)) (start_of l.near);
}

abbrev pub decreases-loop-near : goal.decreases-loop-near
decreases-loop-near l = l.width + 1 - l.near.from
