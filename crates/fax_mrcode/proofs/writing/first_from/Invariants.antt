use Rattle.std.proofs.Common.{ℕ, ◌+◌, ◌-◌, ◌≡◌, ◌<◌, ◌≤◌, length, max, get_or}
use Rattle.fax_runcodes.specs.Painted.{colour_after_changes}
use Rattle.fax_mrcode.proofs.writing.first_from.Given as goal

abbrev pub invariant-loop-place : goal.invariant-loop-place
invariant-loop-place l = record {
  later : l.initial.index ≤ l.index;
  near : l.index ≤ max l.initial.index (length l.changes + 1);
  turns : colour_after_changes l.index ≡ colour_after_changes l.initial.index;
  passed : (k : ℕ) → l.initial.index ≤ k → k < l.index → colour_after_changes k ≡ colour_after_changes l.initial.index → get_or l.changes k l.width < l.from;
  place : l.place ≡ get_or l.changes l.index l.width;
}

abbrev pub decreases-loop-place : goal.decreases-loop-place
decreases-loop-place l = length l.changes + 2 - l.index
