use Rattle.std.proofs.Common.{◌≡◌, ◌+◌, length}
use Rattle.fax_legs.specs.Bounding.{fitting}
use Rattle.fax_legs.proofs.bounding.count_fitting.Given as goal

abbrev pub invariant-loop-more : goal.invariant-loop-more
invariant-loop-more l = record {
  count : l.kept + fitting l.more l.room l.left ≡ fitting l.fn.most l.fn.octets l.fn.packets;
  few : l.kept + length l.left ≡ length l.fn.packets;
  turns : l.kept + l.more ≡ l.fn.most;
}

abbrev pub decreases-loop-more : goal.decreases-loop-more
decreases-loop-more l = l.more
