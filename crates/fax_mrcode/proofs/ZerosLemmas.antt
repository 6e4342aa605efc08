-- Steps in vertical mode with a1 at b1, several after one another.
use Rattle.std.proofs.Common.{◌≡◌, ℕ, zero, suc, ◌+◌, ◌-◌, ◌*◌, ◌^◌, ◌<◌, ◌≤◌, Bool, true, List, [], ◌∷◌, ◌++◌, length, replicate, take, drop, slice_index, slice_index_or, refl, sym, ◌∙◌, ap, ap₂, arith, append_assoc, add-zero, suc-add, inl}
use Rattle.std.proofs.lemmas.List.{drop_more, get_or_default, replicate-append-replicate}
use Rattle.std.proofs.lemmas.Nat.{leading_length}
use Rattle.std.specs.Int.Count.{count_leading_zeros}
use Rattle.std.proofs.Math.Nat.{pow-suc}
use Rattle.std.proofs.Math.Pow.{pow_mono}
use Rattle.fax_bits.proofs.WritingLemmas.{word_bits_sum}
use Rattle.fax_bits.specs.Bits.{bit, word_bits}
use Rattle.fax_runcodes.specs.declared.Colour.TheVariants.{White}
use Rattle.fax_runcodes.specs.Rows.{Elements, other}
use Rattle.fax_runcodes.specs.Painted.{painted, AreRising, colour_after_changes}
use Rattle.fax_mrcode.specs.declared.mode.Mode.TheVariants.{Vertical}
use Rattle.fax_mrcode.specs.declared.mode.Offset.TheVariants.{Zero}
use Rattle.fax_mrcode.specs.declared.reading.Start.{Start}
use Rattle.fax_mrcode.specs.Starts.{IsIndexOfB1, IsStart, TakesSteps}
use Rattle.fax_mrcode.proofs.CursorLemmas.{place_le, rising_below, colour_after-more}
use Rattle.fax_mrcode.proofs.StepLemmas.{IsStart-next, TakesStep-vertical, TakesSteps-one, TakesSteps-then, cursor_on, length-painted_more}

-- ---- the ones that begin a window

one_bit : word_bits 1 1 ≡ true ∷ []
unfolding word_bits bit
one_bit = refl

-- a number that is less than 2 ^ m short of n + m ones begins with n
ones_begin : (n m x c : ℕ) → x + c + 1 ≡ 2 ^ (n + m) → c < 2 ^ m → (more : List Bool) × (word_bits (n + m) x ≡ replicate n true ++ more)
ones_begin zero m x c e lt = (word_bits (zero + m) x, refl)
ones_begin (suc n) m x c e lt =
    let size : suc n + m ≡ 1 + (n + m) = omega arith in
    let double : 2 ^ (suc n + m) ≡ 2 ^ (n + m) * 2 = ap (λ (k : ℕ). 2 ^ k) (suc-add n m) ∙ pow-suc 2 (n + m) in
    let high : 2 ^ m ≤ 2 ^ (n + m) = pow_mono (omega arith) in
    let y : ℕ = x - 2 ^ (n + m) in
    let whole : x ≡ 1 * 2 ^ (n + m) + y = omega arith in
    let below : y < 2 ^ (n + m) = omega arith in
    let later : (more : List Bool) × (word_bits (n + m) y ≡ replicate n true ++ more) = ones_begin n m y c (omega arith) lt in (
      later.0,
      ap (λ (k : ℕ). word_bits k x) size
          ∙ ap (λ (k : ℕ). word_bits (1 + (n + m)) k) whole
          ∙ word_bits_sum 1 (n + m) 1 y below
          ∙ ap₂ (λ (a b : List Bool). a ++ b) one_bit later.1,
    )

-- the ones of a window, counted as the zeros of what is left to 64 ones
pub ones_shown : (window c : ℕ) → window + c + 1 ≡ 2 ^ 64 → (n : ℕ) → n ≤ count_leading_zeros 64 c → (more : List Bool) × (word_bits 64 window ≡ replicate n true ++ more)
ones_shown window c left_is n few =
    let top = leading_length 64 c (omega arith) in
    let m : ℕ = 64 - n in
    let size : n + m ≡ 64 = omega (arith, top.1) in
    let wide : 2 ^ top.0 ≤ 2 ^ m = pow_mono (omega (arith, top.1)) in
    let whole : window + c + 1 ≡ 2 ^ (n + m) = left_is ∙ ap (λ (k : ℕ). 2 ^ k) (sym size) in
    let begun : (more : List Bool) × (word_bits (n + m) window ≡ replicate n true ++ more) = ones_begin n m window c whole (omega (arith, top.2)) in
    (begun.0, ap (λ (k : ℕ). word_bits k window) (sym size) ∙ begun.1)

-- fewer of them
pub fewer_ones : (n k : ℕ) (bits : List Bool) → k ≤ n → (more : List Bool) × (bits ≡ replicate n true ++ more) → (more : List Bool) × (bits ≡ replicate k true ++ more)
fewer_ones n k bits le (more, e) =
    let sum : n ≡ k + (n - k) = omega arith in (
      replicate (n - k) true ++ more,
      e ∙ ap (λ (j : ℕ). replicate j true ++ more) sum ∙ ap (λ (b : List Bool). b ++ more) (sym (replicate-append-replicate k (n - k) true)) ∙ append_assoc (replicate k true) (replicate (n - k) true) more,
    )

-- ---- so many steps

-- the next start, after the step to the changing place of an index
abbrev pub after_place_of : List ℕ → ℕ → Start
after_place_of ps last = record { from = slice_index ps last + 1; colour = colour_after_changes (last + 1); index = last + 1 }

-- the line, painted up to that place
abbrev pub painted_to : List ℕ → Elements → Start → ℕ → Elements
painted_to ps line start n = line ++ painted start.colour (length line) (take n (drop start.index ps)) (slice_index ps (start.index + n))

module _ (ps : List ℕ) (width : ℕ) (rising : AreRising 0 ps width) where
  -- the first step
  one_zero : (line : Elements) (start : Start) → IsStart ps width line start → start.from ≤ width → IsIndexOfB1 ps start.colour start.from start.index → start.index < length ps
      → let after = line ++ replicate (slice_index ps start.index - length line) start.colour in
      TakesSteps (painted White 0 ps width) width (true ∷ []) line start after (after_place_of ps start.index) × IsStart ps width after (after_place_of ps start.index)
  one_zero line start is_start inside at within =
      let place : ℕ = slice_index ps start.index in
      let here : slice_index_or ps start.index width ≡ place = get_or_default ps start.index width 0 within in
      let right : start.from ≤ place = at.right within in
      let le : place ≤ width = rw (sym here) (place_le ps width rising start.index) in
      let colour : colour_after_changes (start.index + 1) ≡ other start.colour = colour_after-more start.index ∙ ap other at.cursor.parity in
      rw colour (
        TakesSteps-one (painted White 0 ps width) width (Vertical Zero) [] line start (line ++ replicate (place - length line) start.colour) (record { from = place + 1; colour = other start.colour; index = start.index + 1 }) inside
            (TakesStep-vertical ps width rising line start is_start inside at Zero place (start.index + 1) (sym here) right le),
        IsStart-next ps width rising line start is_start inside (other start.colour) place (start.index + 1) right le
            (λ more. cursor_on ps width rising start.colour start.from start.index place at right more (inl (omega (arith, here)))),
      )

  -- the first step leads to the next changing place
  one_further : (line : Elements) (start : Start) → IsStart ps width line start → start.from ≤ width → IsIndexOfB1 ps start.colour start.from start.index → start.index + 1 < length ps
      → (slice_index ps start.index + 1 ≤ width) × IsIndexOfB1 ps (colour_after_changes (start.index + 1)) (slice_index ps start.index + 1) (start.index + 1)
  one_further line start is_start inside at within =
      let next : slice_index ps start.index < slice_index ps (start.index + 1) = rising_below ps width start.index (start.index + 1) rising (omega arith) within in
      let here : slice_index_or ps (start.index + 1) width ≡ slice_index ps (start.index + 1) = get_or_default ps (start.index + 1) width 0 within in
      let le : slice_index ps start.index + 1 ≤ width = omega (arith, place_le ps width rising (start.index + 1)) in
      (le, record { cursor = (one_zero line start is_start inside at (omega arith)).1.cursor le; right = λ more. omega arith })

  -- the line, painted a step further
  painted_further : (n : ℕ) (line : Elements) (start : Start) → length line ≤ slice_index ps start.index → colour_after_changes (start.index + 1) ≡ other start.colour → start.index + suc n < length ps
      → painted_to ps (line ++ replicate (slice_index ps start.index - length line) start.colour) (after_place_of ps start.index) n ≡ painted_to ps line start (suc n)
  unfolding painted
  painted_further n line start few turned within =
      let p : ℕ = slice_index ps start.index in
      let size : length (line ++ replicate (p - length line) start.colour) ≡ p = length-painted_more line (p - length line) start.colour ∙ omega arith in
      let last : start.index + 1 + n ≡ start.index + suc n = omega arith in
      let after : drop start.index ps ≡ p ∷ drop (start.index + 1) ps = drop_more ps start.index 0 (omega arith) in
      rw (size, turned, last, after) (append_assoc line (replicate (p - length line) start.colour) (painted (other start.colour) p (take n (drop (start.index + 1) ps)) (slice_index ps (start.index + suc n))))

  -- so many steps and one, whose words are so many ones
  pub zeros_taken : (n : ℕ) (line : Elements) (start : Start) → IsStart ps width line start → start.from ≤ width → IsIndexOfB1 ps start.colour start.from start.index → start.index + n < length ps
      → TakesSteps (painted White 0 ps width) width (replicate (suc n) true) line start (painted_to ps line start n) (after_place_of ps (start.index + n))
      × IsStart ps width (painted_to ps line start n) (after_place_of ps (start.index + n))
  unfolding painted
  zeros_taken zero line start is_start inside at within = rw add-zero (one_zero line start is_start inside at (omega arith))
  zeros_taken (suc n) line start is_start inside at within =
      let p : ℕ = slice_index ps start.index in
      let mid : Elements = line ++ replicate (p - length line) start.colour in
      let middle : Start = after_place_of ps start.index in
      let right : start.from ≤ p = at.right (omega arith) in
      let few : length line ≤ p = omega (arith, is_start.size) in
      let turned : colour_after_changes (start.index + 1) ≡ other start.colour = colour_after-more start.index ∙ ap other at.cursor.parity in
      let last : start.index + 1 + n ≡ start.index + suc n = omega arith in
      let first = one_zero line start is_start inside at (omega arith) in
      let further = one_further line start is_start inside at (omega arith) in
      let later = zeros_taken n mid middle first.1 further.0 further.1 (omega arith) in
      rw (← painted_further n line start few turned within, ← last) (
        TakesSteps-then (painted White 0 ps width) width (true ∷ []) (replicate (suc n) true) line start mid middle (painted_to ps mid middle n) (after_place_of ps (start.index + 1 + n)) first.0 later.0,
        later.1,
      )

  -- the same, told by the number of steps
  pub steps_taken : (steps : ℕ) (line : Elements) (start : Start) → 0 < steps → IsStart ps width line start → start.from ≤ width → IsIndexOfB1 ps start.colour start.from start.index → start.index + steps ≤ length ps
      → let last : ℕ = start.index + steps - 1 in
      let after : Elements = line ++ painted start.colour (length line) (take (last - start.index) (drop start.index ps)) (slice_index ps last) in
      let next : Start = record { from = slice_index ps last + 1; colour = colour_after_changes (start.index + steps); index = start.index + steps } in
      TakesSteps (painted White 0 ps width) width (replicate steps true) line start after next × IsStart ps width after next
  steps_taken zero line start some is_start inside at within = absurd (omega arith)
  steps_taken (suc n) line start some is_start inside at within =
      let count : start.index + suc n - 1 - start.index ≡ n = omega arith in
      let last : start.index + suc n - 1 ≡ start.index + n = omega arith in
      let next : start.index + suc n ≡ start.index + n + 1 = omega arith in
      rw (count, last, next) (zeros_taken n line start is_start inside at (omega arith))

  -- the places rise up to the last
  places_rise : (n i low : ℕ) → low ≤ slice_index ps i → i + n < length ps → AreRising low (take n (drop i ps)) (slice_index ps (i + n))
  unfolding AreRising
  places_rise zero i low le within = rw add-zero le
  places_rise (suc n) i low le within =
      let after : drop i ps ≡ slice_index ps i ∷ drop (i + 1) ps = drop_more ps i 0 (omega arith) in
      let next : slice_index ps i < slice_index ps (i + 1) = rising_below ps width i (i + 1) rising (omega arith) (omega arith) in
      let last : i + 1 + n ≡ i + suc n = omega arith in
      rw (after, ← last) (le, places_rise n (i + 1) (slice_index ps i + 1) (omega arith) (omega arith))

  pub steps_rise : (steps i low : ℕ) → 0 < steps → low ≤ slice_index ps i → i + steps ≤ length ps → AreRising low (take (i + steps - 1 - i) (drop i ps)) (slice_index ps (i + steps - 1))
  steps_rise steps i low some le within =
      let count : i + steps - 1 - i ≡ steps - 1 = omega arith in
      let last : i + steps - 1 ≡ i + (steps - 1) = omega arith in
      rw (count, last) (places_rise (steps - 1) i low le (omega arith))

  pub last_le : (i : ℕ) → i < length ps → slice_index ps i ≤ width
  last_le i within = omega (arith, place_le ps width rising i, get_or_default ps i width 0 within)
