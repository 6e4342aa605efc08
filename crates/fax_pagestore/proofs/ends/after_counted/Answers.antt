use Rattle.std.proofs.Common.{◌+◌, ◌-◌, get_or, refl, arith}
use Rattle.fax_pagestore.proofs.EndsLemmas.{NoEol-at, NoEol-before, none_after}
use Rattle.fax_pagestore.proofs.ends.after_counted.Goals as goal

pub loop-place-init : goal.loop-place-init
loop-place-init c = (omega (arith, c.after_blocks-place.ensures.within), omega (arith, c.after_blocks-place.ensures.within), NoEol-at c.args.octets.now c.after_blocks-place.result (omega (arith, c.after_blocks-place.ensures.within)) c.after_blocks-place.ensures.some c.after_blocks-place.ensures.none)

pub returns-then-counts-clause-none : goal.returns-then-counts-clause-none
returns-then-counts-clause-none c =
    none_after c.args.octets.now c.loop-place.place (c.loop-place.place - 1 + 1) (get_or c.args.octets.now c.loop-place.place 0) (omega arith) (omega arith) c.loop-place.invariant.2

pub loop-place-preserved : goal.loop-place-preserved
loop-place-preserved c = (omega arith, omega arith, NoEol-before c.args.octets.now c.loop-place.place (omega arith) (omega (arith, c.loop-place.invariant.1)) (λ i. omega (arith, c.type_inv.octets i)) c.loop-place.invariant.2 (c.if-counts.ensures refl))

pub returns-clause-none : goal.returns-clause-none
returns-clause-none c =
    none_after c.args.octets.now c.loop-place.place c.args.from (get_or c.args.octets.now c.loop-place.place 0) (omega arith) (omega arith) c.loop-place.invariant.2
