use Rattle.std.proofs.Common.{refl, arith}
use Rattle.fax_runcodes.specs.Painted.{painted, AreRising}
use Rattle.fax_runcodes.proofs.row.RowBuilder.clear.Goals as goal

pub invariant_of-self : goal.invariant_of-self
unfolding AreRising
invariant_of-self c = rw c.clear.ensures.items (omega arith, omega arith, omega (arith, c.self.invariant.2, c.clear.ensures.capacity))

pub returns : goal.returns
unfolding painted
returns c = rw c.clear.ensures.items refl
