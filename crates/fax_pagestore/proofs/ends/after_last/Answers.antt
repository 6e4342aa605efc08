use Rattle.std.proofs.Common.{◌≡◌, ℕ, ◌+◌, ◌-◌, ◌*◌, List, take, drop, sym, ap, subst, ◌∙◌, arith, length-drop}
use Rattle.std.proofs.lemmas.List.{drop-take, length-take-le, take_all}
use Rattle.fax_bits.proofs.BitsLemmas.{drop-bits_of}
use Rattle.fax_bits.specs.Bits.{bits_of}
use Rattle.fax_pagestore.specs.Ends.{HoldsEol}
use Rattle.fax_pagestore.proofs.ZerosAfterLemmas.{HoldsEol-before, no_eol_in_zeros}
use Rattle.fax_pagestore.proofs.ends.after_last.Goals as goal

pub returns-then-end-from-clause-none : goal.returns-then-end-from-clause-none
returns-then-end-from-clause-none c =
    let same : c.before_zeros-end.result ≡ c.args.from = omega (arith, c.if-end-from.true) in
    subst (λ n. HoldsEol (drop (8 * n) (bits_of c.args.octets.now)) → ⊥) same
    (no_eol_in_zeros c.args.octets.now c.before_zeros-end.result (omega (arith, c.before_zeros-end.ensures.within)) c.before_zeros-end.ensures.zeros)

pub returns-then-place_of_eol-end-clause-none : goal.returns-then-place_of_eol-end-clause-none
returns-then-place_of_eol-end-clause-none c = λ holds.
    let front = HoldsEol-before c.args.octets.now c.before_zeros-end.result (8 * c.args.from) (omega (arith, c.before_zeros-end.ensures.within)) (omega (arith, c.before_zeros-end.ensures.within)) c.before_zeros-end.ensures.zeros holds in
    let octets : List ℕ = c.args.octets.now in
    let end : ℕ = c.before_zeros-end.result in
    let size : c.args.from + (end - c.args.from) ≡ end = omega (arith, c.before_zeros-end.ensures.within) in
    let there : drop (8 * c.args.from) (bits_of (take end octets)) ≡ bits_of (take (end - c.args.from) (drop c.args.from octets)) =
    drop-bits_of c.args.from (take end octets) (omega (arith, c.before_zeros-end.ensures.within, length-take-le end octets (omega (arith, c.before_zeros-end.ensures.within))))
    ∙ ap bits_of (ap (λ n. drop c.args.from (take n octets)) (sym size) ∙ drop-take c.args.from (end - c.args.from) octets) in
    let all : take c.place_of_eol.result (take (end - c.args.from) (drop c.args.from octets)) ≡ take (end - c.args.from) (drop c.args.from octets) =
    take_all c.place_of_eol.result (take (end - c.args.from) (drop c.args.from octets)) (omega (arith, c.if-place_of_eol-end.true, length-take-le (end - c.args.from) (drop c.args.from octets) (omega (arith, length-drop c.args.from octets, c.before_zeros-end.ensures.within)))) in
    c.place_of_eol.ensures.none (subst HoldsEol (there ∙ ap bits_of (sym all)) front)

pub returns-clause-none : goal.returns-clause-none
returns-clause-none c = λ holds.
    let front = HoldsEol-before c.args.octets.now c.before_zeros-end.result (8 * c.after_counted-place.result) (omega (arith, c.before_zeros-end.ensures.within)) (omega (arith, c.after_counted-place.ensures.within, length-take-le c.before_zeros-end.result c.args.octets.now (omega (arith, c.before_zeros-end.ensures.within)))) c.before_zeros-end.ensures.zeros holds in
    c.after_counted-place.ensures.none front
