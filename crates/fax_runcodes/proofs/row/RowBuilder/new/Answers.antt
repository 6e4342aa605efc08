use Rattle.std.proofs.Common.{arith, refl}
use Rattle.fax_runcodes.specs.Painted.{painted, AreRising}
use Rattle.fax_runcodes.proofs.row.RowBuilder.new.Goals as goal

pub invariant_of-result : goal.invariant_of-result
unfolding AreRising
invariant_of-result c = rw c.in_ok-with_capacity.ensures.items (omega arith, omega arith, omega (arith, c.in_ok-with_capacity.ensures.capacity, c.from.ensures))

pub returns : goal.returns
unfolding painted
returns c = rw c.in_ok-with_capacity.ensures.items refl
