use Rattle.std.proofs.Common.{◌≡◌, ℕ, ◌+◌, ◌-◌, get_or, drop, subst, refl, arith}
use Rattle.fax_pagestore.proofs.EndsLemmas.{NoEol, NoEol-last, NoEol-block, none_after}
use Rattle.fax_pagestore.proofs.ends.after_blocks.Goals as goal

pub loop-place-init : goal.loop-place-init
loop-place-init c = (omega (arith, c.requires.from), omega (arith, c.requires.from), NoEol-last c.args.octets.now (λ i. omega (arith, c.type_inv.octets i)) (omega (arith, c.requires.from)) c.requires.last)

pub loop-place-preserved : goal.loop-place-preserved
loop-place-preserved c =
    let first : ℕ = c.loop-place.place - 16 in
    let back : first + 16 ≡ c.loop-place.place = omega arith in
    let held : NoEol (drop (first + 16) c.args.octets.now) (get_or c.args.octets.now (first + 16) 0) =
    subst (λ (i : ℕ). NoEol (drop i c.args.octets.now) (get_or c.args.octets.now i 0)) (omega arith) c.loop-place.invariant.2 in
    (omega arith, omega arith, NoEol-block c.args.octets.now first 16 (λ i. omega (arith, c.type_inv.octets i)) (omega (arith, c.loop-place.invariant.1)) (c.if-block_is_clear.ensures refl) held)

pub returns-else-block_is_clear-clause-none : goal.returns-else-block_is_clear-clause-none
returns-else-block_is_clear-clause-none c =
    none_after c.args.octets.now c.loop-place.place c.loop-place.place (get_or c.args.octets.now c.loop-place.place 0) (omega arith) (omega arith) c.loop-place.invariant.2

pub returns-after-loop-place-clause-none : goal.returns-after-loop-place-clause-none
returns-after-loop-place-clause-none c =
    none_after c.args.octets.now c.loop-place.place c.loop-place.place (get_or c.args.octets.now c.loop-place.place 0) (omega arith) (omega arith) c.loop-place.invariant.2
