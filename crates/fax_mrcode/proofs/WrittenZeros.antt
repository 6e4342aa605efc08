-- Steps in vertical mode with a1 at b1 that are written several at once.
use Rattle.std.proofs.Common.{◌≡◌, ℕ, zero, suc, ◌+◌, ◌-◌, ◌*◌, ◌^◌, ◌<◌, ◌≤◌, Bool, true, List, [], ◌∷◌, ◌++◌, length, replicate, slice_index, get_or, refl, sym, ◌∙◌, ap, ap₂, arith, append_assoc, add-zero, subst, inr}
use Rattle.std.proofs.lemmas.List.{get_or_default}
use Rattle.std.proofs.lemmas.Nat.{pow_pos}
use Rattle.std.proofs.Math.Nat.{pow-suc}
use Rattle.fax_bits.proofs.WritingLemmas.{word_bits_sum}
use Rattle.fax_bits.specs.Bits.{bit, word_bits}
use Rattle.fax_runcodes.specs.Rows.{Elements}
use Rattle.fax_runcodes.specs.Painted.{colour_after_changes}
use Rattle.fax_mrcode.specs.declared.mode.Offset.TheVariants.{Zero}
use Rattle.fax_mrcode.proofs.ChangingPlaces.{place_inside, place_apart, place_order}
use Rattle.fax_mrcode.proofs.WriteLemmas.{StepsSoFar, StepsSoFar-turned, StepsSoFar-vertical, IsAhead, IsAhead-at}

-- ---- their words

one_bit : word_bits 1 1 ≡ true ∷ []
unfolding word_bits bit
one_bit = refl

-- 2 ^ n - 1 is n ones
pub ones_word : (n : ℕ) → word_bits n (2 ^ n - 1) ≡ replicate n true
unfolding word_bits bit
ones_word zero = refl
ones_word (suc n) =
    let size : suc n ≡ 1 + n = omega arith in
    let double : 2 ^ suc n ≡ 2 ^ n * 2 = pow-suc 2 n in
    let some : 0 < 2 ^ n = pow_pos n in
    let whole : 2 ^ suc n - 1 ≡ 1 * 2 ^ n + (2 ^ n - 1) = omega arith in
    ap (λ (x : ℕ). word_bits (suc n) x) whole
    ∙ ap (λ (k : ℕ). word_bits k (1 * 2 ^ n + (2 ^ n - 1))) size
    ∙ word_bits_sum 1 n 1 (2 ^ n - 1) (omega arith)
    ∙ ap₂ (λ (a b : List Bool). a ++ b) one_bit (ones_word n)

-- ---- the steps

-- the places of both lines are alike, so many from an index of each on and one
abbrev pub AreAlike : (changes above : List ℕ) (index over n : ℕ) → Type 0
AreAlike changes above index over n = (index + n < length changes) × (over + n < length above)
    × ((k : ℕ) → k ≤ n → slice_index changes (index + k) ≡ slice_index above (over + k))

AreAlike-after : (changes above : List ℕ) (index over n : ℕ) → AreAlike changes above index over (suc n) → AreAlike changes above (index + 1) (over + 1) n
AreAlike-after changes above index over n (inside, inside_above, same) = (
  omega arith,
  omega arith,
  λ k le.
      let one : index + 1 + k ≡ index + suc k = omega arith in
      let two : over + 1 + k ≡ over + suc k = omega arith in
      rw (one, two) (same (suc k) (omega arith)),
)

-- the first places are one
place_alike : (changes above : List ℕ) (end index over n : ℕ) → AreAlike changes above index over n → get_or changes index end ≡ get_or above over end
place_alike changes above end index over n (within, within_above, same) =
    let first : slice_index changes (index + 0) ≡ slice_index above (over + 0) = same 0 (omega arith) in
    get_or_default changes index end 0 (omega arith) ∙ (rw (add-zero, add-zero) at first) ∙ sym (get_or_default above over end 0 (omega arith))

module _ {reference row : Elements} {changes above : List ℕ} {before : List Bool} where
  -- one step
  one_zero : (mid : List Bool) (from index over : ℕ) → StepsSoFar reference row changes above before mid from (colour_after_changes index) index over
      → from ≤ length row → from ≤ get_or above over (length row) → AreAlike changes above index over 0
      → StepsSoFar reference row changes above before (mid ++ (true ∷ [])) (get_or changes index (length row) + 1) (colour_after_changes (index + 1)) (index + 1) (over + 1)
  one_zero mid from index over so inside found places =
      let end : ℕ = length row in
      let at : IsAhead reference row changes above before mid from (colour_after_changes index) index over (get_or changes index end) (get_or above over end) (get_or above (over + 1) end) =
      IsAhead-at reference row changes above before mid from (colour_after_changes index) index over (get_or changes index end) (get_or above over end) (get_or above (over + 1) end) so inside found refl refl refl in
      let alike : get_or changes index end ≡ get_or above over end = place_alike changes above end index over 0 places in
      StepsSoFar-turned (StepsSoFar-vertical at Zero (omega (arith, alike, at.b2_low)) alike (inr (refl, inr (omega (arith, alike, place_order above end so.lines.rising_above (over - 1) over (omega arith))))) refl)

  -- so many and one
  pub zeros_so_far : (n : ℕ) (mid : List Bool) (from index over : ℕ) → StepsSoFar reference row changes above before mid from (colour_after_changes index) index over
      → from ≤ length row → from ≤ get_or above over (length row) → AreAlike changes above index over n
      → StepsSoFar reference row changes above before (mid ++ replicate (suc n) true) (get_or changes (index + n) (length row) + 1) (colour_after_changes (index + suc n)) (index + suc n) (over + suc n)
      × (from + n ≤ get_or changes (index + n) (length row)) × (get_or changes (index + n) (length row) < length row)
  zeros_so_far zero mid from index over so inside found alike =
      let lines = so.lines in
      rw add-zero (
        one_zero mid from index over so inside found alike,
        omega (arith, so.at_row.above inside),
        place_inside changes (length row) lines.rising index (omega (arith, alike.0)),
      )
  zeros_so_far (suc n) mid from index over so inside found alike =
      let lines = so.lines in
      let end : ℕ = length row in
      let p : ℕ = get_or changes index end in
      let same : p ≡ get_or above over end = place_alike changes above end index over (suc n) alike in
      let within : p < end = place_inside changes end lines.rising index (omega (arith, alike.0)) in
      let first = one_zero mid from index over so inside found (omega (arith, alike.0), omega (arith, alike.1), λ k le. alike.2 k (omega arith)) in
      let later = zeros_so_far n (mid ++ (true ∷ [])) (p + 1) (index + 1) (over + 1) first (omega arith)
      (omega (arith, same, place_apart above end lines.rising_above over (over + 1) (omega (arith, same)) (omega arith))) (AreAlike-after changes above index over n alike) in
      let one : index + 1 + n ≡ index + suc n = omega arith in
      let two : index + 1 + suc n ≡ index + suc (suc n) = omega arith in
      let three : over + 1 + suc n ≡ over + suc (suc n) = omega arith in
      rw (← one, ← two, ← three, ← append_assoc mid (true ∷ []) (replicate (suc n) true)) (later.0, omega (arith, later.1, so.at_row.above inside), later.2)

  -- from where a step is to be written on, by the number of steps; `last` is the last a1
  pub zeros_from : {mid : List Bool} {from index over a b b' last width : ℕ} → (steps : ℕ)
      → IsAhead reference row changes above before mid from (colour_after_changes index) index over a b b' → width ≡ length row
      → 0 < steps → (0 < steps → index + steps ≤ length changes) → (0 < steps → over + steps ≤ length above)
      → ((k : ℕ) → k < steps → slice_index changes (index + k) ≡ slice_index above (over + k)) → last ≡ get_or changes (index + steps - 1) width
      → StepsSoFar reference row changes above before (mid ++ replicate steps true) (last + 1) (colour_after_changes (index + steps)) (index + steps) (over + steps)
      × (from + steps ≤ last + 1) × (last < width)
  zeros_from zero at ew some inside inside_above alike e = absurd (omega arith)
  zeros_from {mid} {from} {index} {over} {last = last} (suc n) at ew some inside inside_above alike e =
      let less : index + suc n - 1 ≡ index + n = omega arith in
      let last_is : get_or changes (index + n) (length row) ≡ last = ap (λ (k : ℕ). get_or changes k (length row)) (sym less) ∙ ap (λ (w : ℕ). get_or changes (index + suc n - 1) w) (sym ew) ∙ sym e in
      let taken = zeros_so_far n mid from index over at.so_far at.inside (omega (arith, at.b1_low, at.b_is))
      (omega (arith, inside some), omega (arith, inside_above some), λ k le. alike k (omega arith)) in (
        subst (λ (p : ℕ). StepsSoFar reference row changes above before (mid ++ replicate (suc n) true) (p + 1) (colour_after_changes (index + suc n)) (index + suc n) (over + suc n)) last_is taken.0,
        omega (arith, taken.1, last_is),
        omega (arith, taken.2, last_is, ew),
      )
