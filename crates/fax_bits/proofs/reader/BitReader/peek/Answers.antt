use Rattle.std.proofs.Common.{◌≡◌, ℕ, ◌+◌, ◌-◌, ◌*◌, ◌≤◌, ◌<◌, List, length, take, drop, get_or, refl, sym, ◌∙◌, ap, arith, length-drop}
use Rattle.std.proofs.lemmas.List.{drop-drop}
use Rattle.fax_bits.specs.Bits.{bits_of, word_bits}
use Rattle.fax_bits.proofs.BitsLemmas.{length-bits_of, word_of_front, drop-bits_of}
use Rattle.fax_bits.proofs.reader.BitReader.peek.Goals as goal

pub returns-clause-bits : goal.returns-clause-bits
returns-clause-bits c =
    let octets : List ℕ = c.self.inside.octets.now in
    let index : ℕ = c.self.inside.index in
    let bit : ℕ = c.self.inside.bit in
    let rest : List ℕ = drop index octets in
    let within : index ≤ length octets = omega (arith, c.self.invariant.1) in
    let size : length c.args.self.now.left ≡ 8 * length octets - (8 * index + bit) = rw (← c.self.view_is) (simp (length-drop, length-bits_of) refl) in
    let rest_size : length rest ≡ length octets - index = length-drop index octets in
    let few : bit < 8 = c.self.invariant.0 in
    let fits : (i : ℕ) → get_or rest i 0 < 256 = c.four_at-word.ensures.octets in
    let front : take c.args.n (drop bit (word_bits 32 c.four_at-word.result)) ≡ take c.args.n (drop bit (bits_of rest))
    = rw c.four_at-word.ensures.word (word_of_front rest bit c.args.n fits (omega (arith, c.requires.few)) (omega arith)) in
    let whole : bits_of rest ≡ drop (8 * index) (bits_of octets) = sym (drop-bits_of index octets within) in
    let there : drop bit (bits_of rest) ≡ drop (8 * index + bit) (bits_of octets)
    = ap (drop bit) whole ∙ drop-drop bit (8 * index) (bits_of octets) ∙ ap (λ k. drop k (bits_of octets)) (omega arith) in
    c.bits_inside.ensures.bits ∙ front ∙ ap (take c.args.n) there ∙ rw (← c.self.view_is) refl
