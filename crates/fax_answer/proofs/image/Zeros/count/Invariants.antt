use Rattle.std.proofs.Common.{◌≡◌, ◌≤◌, ◌-◌, take, length}
use Rattle.fax_answer.specs.Images.{run_after, longest_after}
use Rattle.fax_answer.proofs.image.Zeros.count.Given as goal

-- the blocks so far are counted
abbrev pub invariant-loop-place : goal.invariant-loop-place
invariant-loop-place l = record {
  within : l.place ≤ length l.octets;
  run : l.self.run ≡ run_after l.fn.self.run (take l.place l.octets);
  longest : l.self.longest ≡ longest_after l.fn.self.run l.fn.self.longest (take l.place l.octets);
}

abbrev pub decreases-loop-place : goal.decreases-loop-place
decreases-loop-place l = length l.octets - l.place
