-- Mode words, and what a window says of those that begin the bits that are left.
use Rattle.std.proofs.Common.{◌≡◌, ℕ, ◌+◌, ◌-◌, ◌*◌, ◌/◌, ◌%◌, ◌^◌, ◌<◌, ◌≤◌, Bool, false, List, ◌++◌, length, replicate, take, sym, ◌∙◌, ap, arith, append_assoc, length-append, take_at, refl}
use Rattle.std.proofs.lemmas.List.{take-append-le}
use Rattle.fax_bits.specs.Bits.{word_bits}
use Rattle.fax_bits.specs.Reading.{padded}
use Rattle.fax_bits.proofs.BitsLemmas.{length-word_bits, word_bits-add, word_bits-mod, word_bits-shl, word_bits_same}
use Rattle.fax_bits.proofs.WindowLemmas.{padded-front, padded-le, take-padded}
use Rattle.fax_mrcode.specs.declared.mode.Mode.{Mode}
use Rattle.fax_mrcode.specs.declared.mode.Mode.TheVariants.{Pass, Horizontal, Vertical}
use Rattle.fax_mrcode.specs.declared.mode.Offset.{Offset}
use Rattle.fax_mrcode.specs.Modes.{mode_word}
use Rattle.fax_mrcode.proofs.LineLaws.{modes_prefix_free}
use Rattle.fax_mrcode.proofs.VerticalLemmas.{mode_size, pass_word, horizontal_word}

-- ---- a number that begins with a word
begun : (n x : ℕ) (word rest after : List Bool) → length word ≡ n → word_bits n x ++ after ≡ word ++ rest → word_bits n x ≡ word
begun n x word rest after size e = sym (take_at (word_bits n x) after n (length-word_bits n x)) ∙ ap (take n) e ∙ take_at word rest n size

pass_begun : (window : ℕ) → window < 2 ^ 64 → (rest : List Bool) → word_bits 64 window ≡ mode_word Pass ++ rest → window / 2 ^ 60 ≡ 1
pass_begun window below rest e =
    word_bits_same 4 (window / 2 ^ 60) 1 (omega arith) (omega arith)
    (begun 4 (window / 2 ^ 60) (mode_word Pass) rest (word_bits 60 window) refl (sym (word_bits-add 4 60 window) ∙ e) ∙ sym pass_word)

horizontal_begun : (window : ℕ) → window < 2 ^ 64 → (rest : List Bool) → word_bits 64 window ≡ mode_word Horizontal ++ rest → window / 2 ^ 61 ≡ 1
horizontal_begun window below rest e =
    word_bits_same 3 (window / 2 ^ 61) 1 (omega arith) (omega arith)
    (begun 3 (window / 2 ^ 61) (mode_word Horizontal) rest (word_bits 61 window) refl (sym (word_bits-add 3 61 window) ∙ e) ∙ sym horizontal_word)

-- no mode word begins it, where none of vertical mode does
pub none_begins : (window : ℕ) → window < 2 ^ 64 → ((o : Offset) (rest : List Bool) → word_bits 64 window ≡ mode_word (Vertical o) ++ rest → ⊥) → (window / 2 ^ 60 ≡ 1 → ⊥) → (window / 2 ^ 61 ≡ 1 → ⊥)
    → (m : Mode) (rest : List Bool) → word_bits 64 window ≡ mode_word m ++ rest → ⊥
none_begins window below vertical pass horizontal Pass rest e = pass (pass_begun window below rest e)
none_begins window below vertical pass horizontal Horizontal rest e = horizontal (horizontal_begun window below rest e)
none_begins window below vertical pass horizontal (Vertical o) rest e = vertical o rest e

-- ---- what a window of 56 bits, moved to the top of 64, says of all that is left
module _ (left : List Bool) (window : ℕ) (window_is : word_bits 56 window ≡ padded 56 left) where
  at_top : word_bits 64 (window * 2 ^ 8 % 2 ^ 64) ≡ padded 56 left ++ replicate 8 false
  at_top = word_bits-mod 64 64 (window * 2 ^ 8) (omega arith) ∙ word_bits-shl 56 8 window ∙ ap (λ b. b ++ replicate 8 false) window_is

  -- a mode word that begins what is left begins the window
  pub front : (m : Mode) (rest : List Bool) → left ≡ mode_word m ++ rest → (more : List Bool) × (word_bits 64 (window * 2 ^ 8 % 2 ^ 64) ≡ mode_word m ++ more)
  front m rest e =
      let size = mode_size m in
      let parts : length (mode_word m) + (56 - length (mode_word m)) ≡ 56 = omega arith in
      let whole : padded (length (mode_word m) + (56 - length (mode_word m))) (mode_word m ++ rest) ≡ mode_word m ++ padded (56 - length (mode_word m)) rest =
      padded-front (mode_word m) rest (length (mode_word m)) (56 - length (mode_word m)) refl in (
        padded (56 - length (mode_word m)) rest ++ replicate 8 false,
        at_top ∙ ap (λ b. b ++ replicate 8 false) (ap (padded 56) e ∙ (rw parts at whole)) ∙ append_assoc (mode_word m) (padded (56 - length (mode_word m)) rest) (replicate 8 false),
      )

  module _ (found : Mode) (bits : ℕ) (more : List Bool) (size : length (mode_word found) ≡ bits) (begins : word_bits 64 (window * 2 ^ 8 % 2 ^ 64) ≡ mode_word found ++ more) where
    -- where all of the word is left, it begins what is left
    pub taken : bits ≤ length left → take bits left ≡ mode_word found
    taken there =
        let few = mode_size found in
        let parts : bits + (56 - bits) ≡ 56 = omega arith in
        let whole : take bits (padded (bits + (56 - bits)) left) ≡ padded bits left = take-padded bits (56 - bits) left in
        let long : length (padded 56 left) ≡ 56 = sym (ap length window_is) ∙ length-word_bits 56 window in
        sym (padded-le bits left there) ∙ sym (rw parts at whole) ∙ sym (take-append-le bits (padded 56 left) (replicate 8 false) (omega arith))
        ∙ ap (take bits) (sym at_top ∙ begins) ∙ take_at (mode_word found) more bits size

    -- and where it is not, no other mode word begins what is left
    pub no_other : length left < bits → (m : Mode) (rest : List Bool) → left ≡ mode_word m ++ rest → ⊥
    no_other few m rest e =
        let f : (after : List Bool) × (word_bits 64 (window * 2 ^ 8 % 2 ^ 64) ≡ mode_word m ++ after) = front m rest e in
        let same : m ≡ found = modes_prefix_free m found f.0 more (sym f.1 ∙ begins) in
        let sizes : length left ≡ length (mode_word m) + length rest = ap length e ∙ length-append (mode_word m) rest in
        let is : length (mode_word m) ≡ bits = ap (λ k. length (mode_word k)) same ∙ size in
        omega arith
