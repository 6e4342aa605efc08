use Rattle.std.proofs.Common.{◌≡◌, ℕ, ◌+◌, ◌*◌, ◌≤◌, ◌<◌, List, length, drop, get_or, refl, sym, ◌∙◌, ap, arith}
use Rattle.std.proofs.lemmas.List.{drop-drop}
use Rattle.fax_bits.specs.Bits.{bits_of, word_bits}
use Rattle.fax_bits.specs.Reading.{padded}
use Rattle.fax_bits.proofs.BitsLemmas.{drop-bits_of}
use Rattle.fax_bits.proofs.WindowLemmas.{eight_octets, window_bits}
use Rattle.fax_bits.proofs.reader.BitReader.window.Goals as goal

pub returns-clause-bits : goal.returns-clause-bits
returns-clause-bits c =
    let octets : List ℕ = c.self.inside.octets.now in
    let index : ℕ = c.self.inside.index in
    let bit : ℕ = c.self.inside.bit in
    let within : index ≤ length octets = omega (arith, c.self.invariant.1) in
    let fits : (i : ℕ) → get_or (drop index octets) i 0 < 256 = c.eight_at.ensures.octets in
    let eight : word_bits 64 c.eight_at.result ≡ padded 64 (bits_of (drop index octets)) = rw c.eight_at.ensures.word (eight_octets (drop index octets) fits) in
    let whole : bits_of (drop index octets) ≡ drop (8 * index) (bits_of octets) = sym (drop-bits_of index octets within) in
    let there : drop bit (bits_of (drop index octets)) ≡ drop (8 * index + bit) (bits_of octets)
    = ap (drop bit) whole ∙ drop-drop bit (8 * index) (bits_of octets) ∙ ap (λ k. drop k (bits_of octets)) (omega arith) in
    window_bits c.eight_at.result bit (bits_of (drop index octets)) c.self.invariant.0 eight ∙ ap (padded 56) there ∙ rw (← c.self.view_is) refl
