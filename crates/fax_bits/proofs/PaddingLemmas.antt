-- Bits are padded to one list of octets.
use Rattle.std.proofs.Common.{◌≡◌, ℕ, ◌+◌, ◌*◌, ◌^◌, ◌<◌, Bool, false, List, [], ◌∷◌, ◌++◌, length, replicate, refl, sym, ◌∙◌, ap, ap₂, arith, take, take_at, length-append}
use Rattle.std.proofs.lemmas.List.{append_cancel_left, length-replicate}
use Rattle.std.proofs.lemmas.List.Elements.{All-head, All-tail}
use Rattle.fax_bits.specs.Bits.{word_bits, bits_of}
use Rattle.fax_bits.specs.Writing.{IsPadded}
use Rattle.fax_bits.specs.Laws.{AreOctets}
use Rattle.fax_bits.proofs.BitsLemmas.{bits_of-cons, length-bits_of, length-word_bits, word_bits_same}

-- octets say their bits, and bits their octets
pub bits_of-one : (a b : List ℕ) → AreOctets a → AreOctets b → bits_of a ≡ bits_of b → a ≡ b
bits_of-one [] [] p q e = refl
bits_of-one [] (y ∷ b) p q e =
    let size : 8 * length {A = ℕ} [] ≡ 8 * length (y ∷ b) = sym (length-bits_of []) ∙ ap length e ∙ length-bits_of (y ∷ b) in
    absurd (omega arith)
bits_of-one (x ∷ a) [] p q e =
    let size : 8 * length (x ∷ a) ≡ 8 * length {A = ℕ} [] = sym (length-bits_of (x ∷ a)) ∙ ap length e ∙ length-bits_of [] in
    absurd (omega arith)
bits_of-one (x ∷ a) (y ∷ b) p q e =
    let whole : word_bits 8 x ++ bits_of a ≡ word_bits 8 y ++ bits_of b = sym (bits_of-cons x a) ∙ e ∙ bits_of-cons y b in
    let first : word_bits 8 x ≡ word_bits 8 y =
    sym (take_at (word_bits 8 x) (bits_of a) 8 (length-word_bits 8 x)) ∙ ap (take 8) whole ∙ take_at (word_bits 8 y) (bits_of b) 8 (length-word_bits 8 y) in
    let low : x < 2 ^ 8 = All-head (λ o. o < 256) x a p in
    let low2 : y < 2 ^ 8 = All-head (λ o. o < 256) y b q in
    let same : x ≡ y = word_bits_same 8 x y low low2 first in
    let rest : bits_of a ≡ bits_of b = append_cancel_left (word_bits 8 x) (bits_of a) (bits_of b) (whole ∙ ap (λ w. w ++ bits_of b) (sym first)) in
    ap₂ (λ (o : ℕ) (os : List ℕ). o ∷ os) same (bits_of-one a b (All-tail (λ o. o < 256) x a p) (All-tail (λ o. o < 256) y b q) rest)

pub padding_one : (bits : List Bool) (a b : List ℕ) → AreOctets a → AreOctets b → IsPadded a bits → IsPadded b bits → a ≡ b
padding_one bits a b p q (m, lm, em) (n, ln, en) =
    let size_a : 8 * length a ≡ length bits + m = sym (length-bits_of a) ∙ ap length em ∙ length-append bits (replicate m false) ∙ ap (λ k. length bits + k) (length-replicate m false) in
    let size_b : 8 * length b ≡ length bits + n = sym (length-bits_of b) ∙ ap length en ∙ length-append bits (replicate n false) ∙ ap (λ k. length bits + k) (length-replicate n false) in
    let same : m ≡ n = omega arith in
    bits_of-one a b p q (em ∙ ap (λ k. bits ++ replicate k false) same ∙ sym en)
