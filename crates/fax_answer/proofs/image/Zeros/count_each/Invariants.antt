use Rattle.std.proofs.Common.{◌≡◌, take}
use Rattle.fax_answer.specs.Images.{run_after, longest_after}
use Rattle.fax_answer.proofs.image.Zeros.count_each.Given as goal

-- the octets so far are counted
abbrev pub invariant-loop-octet : goal.invariant-loop-octet
invariant-loop-octet l = record {
  run : l.self.run ≡ run_after l.fn.self.run (take l.octet-index l.octets);
  longest : l.self.longest ≡ longest_after l.fn.self.run l.fn.self.longest (take l.octet-index l.octets);
}
