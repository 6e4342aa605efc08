-- Lines that are white throughout, in their shortest spellings, and what a window shows of them.
use Rattle.std.proofs.Common.{◌≡◌, ℕ, zero, suc, ◌+◌, ◌-◌, ◌/◌, ◌%◌, ◌^◌, ◌==◌, ◌<◌, ◌≤◌, Bool, true, false, List, [], ◌∷◌, ◌++◌, length, take, sum, replicate, refl, sym, ◌∙◌, ap, ap₂, subst, arith, Some, append-nil}
use Rattle.std.proofs.lemmas.List.{length-replicate}
use Rattle.std.proofs.lemmas.Nat.{shr-shr}
use Rattle.fax_bits.specs.Bits.{word_bits}
use Rattle.fax_bits.specs.Reading.{padded}
use Rattle.fax_bits.proofs.BitsLemmas.{word_bits-add, word_bits-mod}
use Rattle.fax_bits.proofs.WindowLemmas.{word_of_window, padded-le}
use Rattle.fax_runcodes.specs.declared.Colour.TheVariants.{White}
use Rattle.fax_runcodes.specs.declared.Width.{Width}
use Rattle.fax_runcodes.specs.declared.format.Coding.TheVariants.{Mh, Mr}
use Rattle.fax_runcodes.specs.Rows.{Elements}
use Rattle.fax_runcodes.specs.Widths.{elements_of}
use Rattle.fax_runcodes.specs.Painted.{painted, AreRising}
use Rattle.fax_runcodes.specs.Spelling.{written_run}
use Rattle.fax_runcodes.proofs.WriteLemmas.{written_run_spells}
use Rattle.fax_mhcode.specs.Lines as mh
use Rattle.fax_mhcode.proofs.LineLaws.{IsWidth-elements, sum-cons}
use Rattle.fax_mrcode.specs.declared.mode.Mode.TheVariants.{Vertical}
use Rattle.fax_mrcode.specs.declared.mode.Offset.TheVariants.{Zero}
use Rattle.fax_mrcode.specs.Places.{a1, b1}
use Rattle.fax_mrcode.specs.Lines as mr
use Rattle.fax_mrcode.proofs.ChangingPlaces.{a1-index, b1-index}
use Rattle.fax_pagestore.specs.PageTexts.{end_of_line, IsSeparator, SpellsRow}
use Rattle.fax_pagestore.specs.PageFaults.{row_before}
use Rattle.fax_pagestore.proofs.TextLemmas.{width_some, width_most}
use Rattle.fax_pagestore.proofs.FrontLemmas.{one_bit}

-- ---- white lines

-- The word of a run of the whole width spells a white row.
pub white_line : (width : Width) → mh.SpellsLine (elements_of width) (written_run White (elements_of width)) (replicate (elements_of width) White)
white_line width =
    let some : 0 < elements_of width = width_some (elements_of width) (IsWidth-elements width) in
    let most : elements_of width ≤ 2432 = width_most (elements_of width) (IsWidth-elements width) in
    let whole : sum (elements_of width ∷ []) ≡ elements_of width = omega (arith, sum-cons (elements_of width) []) in
    record {
      runs = elements_of width ∷ [];
      spelt = (
        written_run White (elements_of width),
        [],
        sym (append-nil (written_run White (elements_of width))),
        written_run_spells White (elements_of width) (omega arith),
        refl,
      );
      whole = whole;
      not_before = λ k lt. (
          let first : k ≡ 0 = omega arith in
          subst (λ j. sum (take j (elements_of width ∷ [])) < elements_of width) (sym first) some);
      row_is = sym (append-nil (replicate (elements_of width) White));
    }

-- a row with no changing place is white
pub white_row : (n : ℕ) → painted White 0 [] n ≡ replicate n White
unfolding painted
white_row n = let same : n - 0 ≡ n = omega arith in ap (λ k. replicate k White) same

none_rising : (n : ℕ) → AreRising 0 [] n
unfolding AreRising
none_rising n = omega arith

-- V0 spells a white row after a white one.
pub white_again : (n : ℕ) → mr.SpellsLine (replicate n White) (true ∷ []) (replicate n White)
white_again n =
    let row : Elements = replicate n White in
    let size : length row ≡ n = length-replicate n White in
    let rising : AreRising 0 [] (length row) = none_rising (length row) in
    let row_is : row ≡ painted White 0 [] (length row) = sym (white_row n) ∙ ap (painted White 0 []) (sym size) in
    let end : a1 row 0 ≡ length row =
    a1-index row [] rising row_is 0 0 (omega arith) (record { below = λ k less. absurd (omega arith); above = λ le. omega arith }) in
    let end_above : b1 row row 0 ≡ length row =
    b1-index row row [] rising row_is 0 0 White refl (record { turns = refl; below = λ k less same. absurd (omega arith) }) (omega arith) in
    record {
      same_width = refl;
      modes = Vertical Zero ∷ [];
      steps = (omega arith, [], [], length row, refl, (end ∙ sym end_above, refl, sym end), (refl, refl));
    }

-- ---- a window

-- the first n bits of a window, where so many are left
window_front : (window n : ℕ) (bits : List Bool) → n ≤ 56 → 56 ≤ length bits → word_bits 56 window ≡ padded 56 bits → word_bits n (window / 2 ^ (56 - n)) ≡ take n bits
window_front window n bits few enough e = word_of_window 56 n window bits few e ∙ padded-le n bits (omega arith)

-- The front of a window begins the bits.
pub front_is : (window n word : ℕ) (bits text : List Bool) → n ≤ 56 → 56 ≤ length bits → word_bits 56 window ≡ padded 56 bits
    → window / 2 ^ (56 - n) ≡ word → word_bits n word ≡ text → take n bits ≡ text
front_is window n word bits text few enough e same spelt = sym (window_front window n bits few enough e) ∙ ap (word_bits n) same ∙ spelt

-- So does the front with the bit after it.
pub front_and_bit : (window n word : ℕ) (bits text : List Bool) → n < 56 → 56 ≤ length bits → word_bits 56 window ≡ padded 56 bits
    → window / 2 ^ (56 - n) ≡ word → word_bits n word ≡ text → take (n + 1) bits ≡ text ++ (window / 2 ^ (56 - n - 1) % 2 == 1) ∷ []
front_and_bit window n word bits text few enough e same spelt =
    let x : ℕ = window / 2 ^ (56 - (n + 1)) in
    let less : 56 - n - 1 ≡ 56 - (n + 1) = omega arith in
    let more : 56 - (n + 1) + 1 ≡ 56 - n = omega arith in
    let high : x / 2 ^ 1 ≡ word = shr-shr window (56 - (n + 1)) 1 ∙ ap (λ k. window / 2 ^ k) more ∙ same in
    let low : word_bits 1 x ≡ (x % 2 == 1) ∷ [] = sym (word_bits-mod 1 1 x (omega arith)) ∙ one_bit (x % 2) (omega arith) in
    sym (window_front window (n + 1) bits (omega arith) enough e) ∙ word_bits-add n 1 x
    ∙ ap₂ (λ (s t : List Bool). s ++ t) (ap (word_bits n) high ∙ spelt) (low ∙ ap (λ k. (window / 2 ^ k % 2 == 1) ∷ []) (sym less))

-- ---- a white row, and the EOL after it with no fill

-- An EOL is a separator where there are no tags.
pub untagged_eol : IsSeparator Mh true end_of_line
unfolding end_of_line
untagged_eol = (11, [], omega arith, (refl, refl), refl)

-- With a tag it is one where there are.
pub tagged_eol : (tag : Bool) → IsSeparator Mr tag (end_of_line ++ tag ∷ [])
unfolding end_of_line
tagged_eol tag = (11, tag ∷ [], omega arith, refl, refl)

-- ---- a line after rows

-- After a white row V0 spells another.
pub white_after : (width n : ℕ) (tag : Bool) (kept : Elements) (places : List ℕ) → tag ≡ false → 0 < n → length kept ≡ width → kept ≡ painted White 0 places (length kept) → places ≡ []
    → SpellsRow width tag (row_before n kept) (true ∷ []) (replicate width White)
white_after width zero tag kept places two some size e none = absurd (omega arith)
white_after width (suc n) tag kept places two some size e none =
    let white : kept ≡ replicate width White = e ∙ ap (λ (ps : List ℕ). painted White 0 ps (length kept)) none ∙ white_row (length kept) ∙ ap (λ k. replicate k White) size in
    subst (λ (t : Bool). SpellsRow width t (Some kept) (true ∷ []) (replicate width White)) (sym two)
    (subst (λ (row : Elements). mr.SpellsLine row (true ∷ []) (replicate width White)) (sym white) (white_again width))
