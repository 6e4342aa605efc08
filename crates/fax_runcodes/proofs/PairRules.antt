-- The table of pairs of words against the tables of T.4: a rule that is computed over the whole table,
-- and what it says of an entry.
use Rattle.std.proofs.Common.{◌≡◌, ◌≢◌, ℕ, zero, suc, ◌+◌, ◌^◌, ◌/◌, ◌<◌, ◌≤◌, ◌==◌, nat_lt, Bool, true, false, not, ◌&&◌, ◌||◌, List, [], ◌∷◌, ◌++◌, Contains, length, slice_index_or, refl, sym, ◌∙◌, ap, subst, arith, inl, inr, append_assoc, length-append, zero-add, add-zero, add-suc, suc-add}
use Rattle.std.proofs.lemmas.Bool.{and_parts, or_cases, eqb-true, not-true, ltb-true}
use Rattle.fax_bits.specs.Bits.{word_bits, bit}
use Rattle.fax_bits.proofs.BitsLemmas.{word_bits-add, length-word_bits}
use Rattle.fax_runcodes.specs.declared.Colour.TheVariants.{White, Black}
use Rattle.fax_runcodes.specs.declared.tables.WordPair.{WordPair}
use Rattle.fax_runcodes.specs.declared.tables.pairs.TheConstants.{FIRST_ELEVEN}
use Rattle.fax_runcodes.specs.CodeTables.{Word, terminating_words, white_terminating, black_terminating}
use Rattle.fax_runcodes.specs.Pairs.{BeginsWithNoPair, IsPairAt}
use Rattle.fax_runcodes.proofs.Fronts.{begins, begins_rest}
use Rattle.fax_runcodes.proofs.TableRules.{some_word, some_word_is}
use Rattle.fax_runcodes.proofs.WordLaws.{all_words, all_words_at}

-- what stands past the end of the table
abbrev pub no_pair : WordPair
no_pair = record { white = 0; black = 0; bits = 0 }

-- these words are those that were found, and begin the bits
abbrev pub is_black : WordPair → List Bool → Word → Word → Bool
is_black found text w b = (b.run == found.black) && ((length w.word + length b.word == found.bits) && begins (w.word ++ b.word) text)

abbrev pub is_white : WordPair → List Bool → Word → Bool
is_white found text w = (w.run == found.white) && some_word (is_black found text w) (terminating_words Black)

-- a white word and a black one that do not begin the bits, or one of an empty run
abbrev pub not_black : List Bool → Word → Word → Bool
not_black text w b = (b.run == 0) || not (begins (w.word ++ b.word) text)

abbrev pub not_white : List Bool → Word → Bool
not_white text w = (w.run == 0) || (not (begins w.word text) || all_words (not_black text w) (terminating_words Black))

-- an entry says what begins these bits
abbrev pub is_right_pair : List Bool → WordPair → Bool
is_right_pair text found =
    ((found.bits == 0) && all_words (not_white text) (terminating_words White))
    || (nat_lt 0 found.white && (nat_lt 0 found.black && (nat_lt 0 found.bits && some_word (is_white found text) (terminating_words White))))

-- each entry from this index on says what begins the 11 bits of its index
abbrev pub are_right_pairs : ℕ → List WordPair → Bool
are_right_pairs index [] = true
are_right_pairs index (e ∷ es) = is_right_pair (word_bits 11 index) e && are_right_pairs (suc index) es

-- ---- the rule, computed
pub first_eleven : are_right_pairs 0 FIRST_ELEVEN ≡ true
unfolding white_terminating black_terminating word_bits bit
first_eleven = refl

-- ---- what it says of an entry
are_right_pairs_at : (index : ℕ) (es : List WordPair) → are_right_pairs index es ≡ true
    → (i : ℕ) → i < length es → is_right_pair (word_bits 11 (index + i)) (slice_index_or es i no_pair) ≡ true
are_right_pairs_at index [] h i lt = absurd (omega arith)
are_right_pairs_at index (e ∷ es) h zero lt =
    rw add-zero (and_parts (is_right_pair (word_bits 11 index) e) (are_right_pairs (suc index) es) h).0
are_right_pairs_at index (e ∷ es) h (suc i) lt =
    let rest = (and_parts (is_right_pair (word_bits 11 index) e) (are_right_pairs (suc index) es) h).1 in
    let there : is_right_pair (word_bits 11 (suc index + i)) (slice_index_or es i no_pair) ≡ true = are_right_pairs_at (suc index) es rest i (omega arith) in
    rw add-suc (rw suc-add at there)

-- a front of a list begins each longer front of it
begins_front : (xs ys x y : List Bool) → xs ++ x ≡ ys ++ y → length xs ≤ length ys → begins xs ys ≡ true
begins_front [] ys x y e le = refl
begins_front (a ∷ xs) [] x y e le = absurd (omega arith)
begins_front (true ∷ xs) (true ∷ ys) x y e le = let tails : xs ++ x ≡ ys ++ y = cc in begins_front xs ys x y tails (omega arith)
begins_front (true ∷ xs) (false ∷ ys) x y e le = cc
begins_front (false ∷ xs) (true ∷ ys) x y e le = cc
begins_front (false ∷ xs) (false ∷ ys) x y e le = let tails : xs ++ x ≡ ys ++ y = cc in begins_front xs ys x y tails (omega arith)

pair_found : (text more : List Bool) (found : WordPair) → length text ≡ 11 → is_right_pair text found ≡ true → found.bits ≢ 0 → IsPairAt (text ++ more) found
pair_found text more found size h some = elim (or_cases ((found.bits == 0) && all_words (not_white text) (terminating_words White)) (nat_lt 0 found.white && (nat_lt 0 found.black && (nat_lt 0 found.bits && some_word (is_white found text) (terminating_words White)))) h) [
  | inl none ↦ absurd (some (eqb-true found.bits 0 (and_parts (found.bits == 0) (all_words (not_white text) (terminating_words White)) none).0))
  | inr is ↦
      let outer = and_parts (nat_lt 0 found.white) (nat_lt 0 found.black && (nat_lt 0 found.bits && some_word (is_white found text) (terminating_words White))) is in
      let mid = and_parts (nat_lt 0 found.black) (nat_lt 0 found.bits && some_word (is_white found text) (terminating_words White)) outer.1 in
      let inner = and_parts (nat_lt 0 found.bits) (some_word (is_white found text) (terminating_words White)) mid.1 in
      let w : (w : Word) × Contains (terminating_words White) w × (is_white found text w ≡ true) = some_word_is (is_white found text) (terminating_words White) inner.1 in
      let white = and_parts (w.0.run == found.white) (some_word (is_black found text w.0) (terminating_words Black)) w.2 in
      let b : (b : Word) × Contains (terminating_words Black) b × (is_black found text w.0 b ≡ true) = some_word_is (is_black found text w.0) (terminating_words Black) white.1 in
      let black = and_parts (b.0.run == found.black) ((length w.0.word + length b.0.word == found.bits) && begins (w.0.word ++ b.0.word) text) b.2 in
      let both = and_parts (length w.0.word + length b.0.word == found.bits) (begins (w.0.word ++ b.0.word) text) black.1 in
      let r : (rest : List Bool) × (text ≡ (w.0.word ++ b.0.word) ++ rest) = begins_rest (w.0.word ++ b.0.word) text both.1 in
      let white_is : w.0.run ≡ found.white = eqb-true w.0.run found.white white.0 in
      let black_is : b.0.run ≡ found.black = eqb-true b.0.run found.black black.0 in
      let white_some : 0 < found.white = ltb-true 0 found.white outer.0 in
      let black_some : 0 < found.black = ltb-true 0 found.black mid.0 in
      let sizes : length text ≡ (length w.0.word + length b.0.word) + length r.0 =
      ap length r.1 ∙ length-append (w.0.word ++ b.0.word) r.0 ∙ ap (λ (n : ℕ). n + length r.0) (length-append w.0.word b.0.word) in
      record {
        white = w.0;
        black = b.0;
        begins = record {
          white_ends = w.1;
          black_ends = b.1;
          white_some = omega (arith, white_is, white_some);
          black_some = omega (arith, black_is, black_some);
          few = omega (arith, sizes, size);
          rest = r.0 ++ more;
          bits_are = ap (λ (t : List Bool). t ++ more) r.1 ∙ append_assoc (w.0.word ++ b.0.word) r.0 more;
        };
        white_is = white_is;
        black_is = black_is;
        bits_is = eqb-true (length w.0.word + length b.0.word) found.bits both.0;
      }
]

not_empty : (n : ℕ) → 0 < n → (n == 0) ≡ true → ⊥
not_empty n some h = let none : n ≡ 0 = eqb-true n 0 h in omega arith

pair_none : (text more : List Bool) (found : WordPair) → length text ≡ 11 → is_right_pair text found ≡ true → found.bits ≡ 0 → BeginsWithNoPair (text ++ more)
pair_none text more found size h none w b p = elim (or_cases ((found.bits == 0) && all_words (not_white text) (terminating_words White)) (nat_lt 0 found.white && (nat_lt 0 found.black && (nat_lt 0 found.bits && some_word (is_white found text) (terminating_words White)))) h) [
  | inr is ↦
      let outer = and_parts (nat_lt 0 found.white) (nat_lt 0 found.black && (nat_lt 0 found.bits && some_word (is_white found text) (terminating_words White))) is in
      let mid = and_parts (nat_lt 0 found.black) (nat_lt 0 found.bits && some_word (is_white found text) (terminating_words White)) outer.1 in
      let inner = and_parts (nat_lt 0 found.bits) (some_word (is_white found text) (terminating_words White)) mid.1 in
      let some : 0 < found.bits = ltb-true 0 found.bits inner.0 in
      omega (arith, none)
  | inl are ↦
      let all = (and_parts (found.bits == 0) (all_words (not_white text) (terminating_words White)) are).1 in
      let here : not_white text w ≡ true = all_words_at (not_white text) (terminating_words White) all w p.white_ends in
      let both : (w.word ++ b.word) ++ p.rest ≡ text ++ more = sym p.bits_are in
      let long : length (w.word ++ b.word) ≤ length text = omega (arith, length-append w.word b.word, p.few, size) in
      let pair_begins : begins (w.word ++ b.word) text ≡ true = begins_front (w.word ++ b.word) text p.rest more both long in
      let white_begins : begins w.word text ≡ true = begins_front w.word text (b.word ++ p.rest) more (sym (append_assoc w.word b.word p.rest) ∙ both) (omega (arith, p.few, size)) in
      elim (or_cases (w.run == 0) (not (begins w.word text) || all_words (not_black text w) (terminating_words Black)) here) [
        | inl empty ↦ not_empty w.run p.white_some empty
        | inr more_white ↦ elim (or_cases (not (begins w.word text)) (all_words (not_black text w) (terminating_words Black)) more_white) [
          | inl off ↦ let no : begins w.word text ≡ false = not-true (begins w.word text) off in cc
          | inr blacks ↦
              let there : not_black text w b ≡ true = all_words_at (not_black text w) (terminating_words Black) blacks b p.black_ends in
              elim (or_cases (b.run == 0) (not (begins (w.word ++ b.word) text)) there) [
                | inl empty ↦ not_empty b.run p.black_some empty
                | inr off ↦ let no : begins (w.word ++ b.word) text ≡ false = not-true (begins (w.word ++ b.word) text) off in cc
              ]
        ]
      ]
]

-- ---- a look-up by the first 11 of 56 bits
right_at : (window : ℕ) → window / 2 ^ 45 < 2048 → is_right_pair (word_bits 11 (window / 2 ^ 45)) (slice_index_or FIRST_ELEVEN (window / 2 ^ 45) no_pair) ≡ true
right_at window lt =
    subst (λ (n : ℕ). is_right_pair (word_bits 11 n) (slice_index_or FIRST_ELEVEN (window / 2 ^ 45) no_pair) ≡ true) (zero-add (window / 2 ^ 45))
    (are_right_pairs_at 0 FIRST_ELEVEN first_eleven (window / 2 ^ 45) lt)

pub pair_at_found : (window : ℕ) (found : WordPair) → window / 2 ^ 45 < 2048 → found ≡ slice_index_or FIRST_ELEVEN (window / 2 ^ 45) no_pair → found.bits ≢ 0 → IsPairAt (word_bits 56 window) found
pair_at_found window found lt e some =
    rw (word_bits-add 11 45 window) (pair_found (word_bits 11 (window / 2 ^ 45)) (word_bits 45 window) found (length-word_bits 11 (window / 2 ^ 45)) (rw e (right_at window lt)) some)

pub pair_at_none : (window : ℕ) (found : WordPair) → window / 2 ^ 45 < 2048 → found ≡ slice_index_or FIRST_ELEVEN (window / 2 ^ 45) no_pair → found.bits ≡ 0 → BeginsWithNoPair (word_bits 56 window)
pair_at_none window found lt e none =
    rw (word_bits-add 11 45 window) (pair_none (word_bits 11 (window / 2 ^ 45)) (word_bits 45 window) found (length-word_bits 11 (window / 2 ^ 45)) (rw e (right_at window lt)) none)
