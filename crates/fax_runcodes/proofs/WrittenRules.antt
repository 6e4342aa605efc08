-- The tables of written words against those of T.4: rules that are computed over each whole table,
-- and what they say of an entry.
use Rattle.std.proofs.Common.{◌≡◌, ℕ, zero, suc, ◌*◌, ◌^◌, ◌<◌, nat_lt, nat_le, Bool, true, ◌&&◌, List, [], ◌∷◌, length, slice_index_or, map, refl, sym, ◌∙◌, ap, arith}
use Rattle.std.specs.List.{range_with_len}
use Rattle.std.proofs.lemmas.Bool.{and_parts, ltb-true, leb-true}
use Rattle.std.proofs.lemmas.List.{get_or-map}
use Rattle.std.proofs.lemmas.List.FromFn.{get_or-map-range_with_len}
use Rattle.fax_bits.specs.Bits.{word_bits, bit}
use Rattle.fax_runcodes.specs.declared.Colour.TheVariants.{White, Black}
use Rattle.fax_runcodes.specs.declared.tables.written.WrittenWord.{WrittenWord}
use Rattle.fax_runcodes.specs.declared.tables.written.TheConstants.{WHITE_TERMINATING, BLACK_TERMINATING, WHITE_MAKE_UP, BLACK_MAKE_UP}
use Rattle.fax_runcodes.specs.CodeTables.{terminating_words, make_up_words, white_terminating, white_make_up, black_terminating, black_make_up, common_make_up}
use Rattle.fax_runcodes.specs.Spelling.{word_for}
use Rattle.fax_runcodes.specs.Entries.{IsWrittenAs}

-- what stands past the end of a table
abbrev pub unused : WrittenWord
unused = record { word = 0; bits = 0 }

-- the bits of an entry
abbrev text_of_entry : WrittenWord → List Bool
text_of_entry entry = word_bits entry.bits entry.word

-- an entry has no more bits than the longest word, and its number no more than these
abbrev is_small : WrittenWord → Bool
is_small entry = nat_lt entry.word (2 ^ entry.bits) && nat_le entry.bits 13

abbrev are_small : List WrittenWord → Bool
are_small [] = true
are_small (entry ∷ entries) = is_small entry && are_small entries

-- ---- the rules, computed
white_terminating_texts : map text_of_entry WHITE_TERMINATING ≡ map (λ i. word_for (terminating_words White) i) (range_with_len 0 64)
unfolding white_terminating word_bits bit
white_terminating_texts = refl

black_terminating_texts : map text_of_entry BLACK_TERMINATING ≡ map (λ i. word_for (terminating_words Black) i) (range_with_len 0 64)
unfolding black_terminating word_bits bit
black_terminating_texts = refl

white_make_up_texts : map text_of_entry WHITE_MAKE_UP ≡ map (λ i. word_for (make_up_words White) (64 * i)) (range_with_len 0 41)
unfolding white_make_up common_make_up word_bits bit
white_make_up_texts = refl

black_make_up_texts : map text_of_entry BLACK_MAKE_UP ≡ map (λ i. word_for (make_up_words Black) (64 * i)) (range_with_len 0 41)
unfolding black_make_up common_make_up word_bits bit
black_make_up_texts = refl

white_terminating_small : are_small WHITE_TERMINATING ≡ true
white_terminating_small = refl

black_terminating_small : are_small BLACK_TERMINATING ≡ true
black_terminating_small = refl

white_make_up_small : are_small WHITE_MAKE_UP ≡ true
white_make_up_small = refl

black_make_up_small : are_small BLACK_MAKE_UP ≡ true
black_make_up_small = refl

-- ---- what they say of an entry
are_small_at : (entries : List WrittenWord) → are_small entries ≡ true → (i : ℕ) → i < length entries → is_small (slice_index_or entries i unused) ≡ true
are_small_at [] h i lt = absurd (omega arith)
are_small_at (entry ∷ entries) h zero lt = (and_parts (is_small entry) (are_small entries) h).0
are_small_at (entry ∷ entries) h (suc i) lt = are_small_at entries (and_parts (is_small entry) (are_small entries) h).1 i (omega arith)

-- an entry of a table of which both rules hold
IsWrittenAs-at : (word_of : ℕ → List Bool) (n : ℕ) (entries : List WrittenWord) → length entries ≡ n
    → map text_of_entry entries ≡ map word_of (range_with_len 0 n) → are_small entries ≡ true
    → (i : ℕ) → i < n → (found : WrittenWord) → found ≡ slice_index_or entries i unused → IsWrittenAs (word_of i) found
IsWrittenAs-at word_of n entries size texts small i lt found e =
    let inside : i < length entries = omega arith in
    let text : text_of_entry (slice_index_or entries i unused) ≡ word_of i =
    sym (get_or-map text_of_entry entries i unused [] inside) ∙ ap (λ ts. slice_index_or ts i []) texts ∙ get_or-map-range_with_len word_of 0 n i i [] lt (omega arith) in
    let sizes = and_parts (nat_lt found.word (2 ^ found.bits)) (nat_le found.bits 13) (ap is_small e ∙ are_small_at entries small i inside) in
    record {
      text_is = ap text_of_entry e ∙ text;
      below = ltb-true found.word (2 ^ found.bits) sizes.0;
      few = leb-true found.bits 13 sizes.1;
    }

pub white_terminating_at : (i : ℕ) → i < 64 → (found : WrittenWord) → found ≡ slice_index_or WHITE_TERMINATING i unused → IsWrittenAs (word_for (terminating_words White) i) found
white_terminating_at = IsWrittenAs-at (λ i. word_for (terminating_words White) i) 64 WHITE_TERMINATING refl white_terminating_texts white_terminating_small

pub black_terminating_at : (i : ℕ) → i < 64 → (found : WrittenWord) → found ≡ slice_index_or BLACK_TERMINATING i unused → IsWrittenAs (word_for (terminating_words Black) i) found
black_terminating_at = IsWrittenAs-at (λ i. word_for (terminating_words Black) i) 64 BLACK_TERMINATING refl black_terminating_texts black_terminating_small

pub white_make_up_at : (i : ℕ) → i < 41 → (found : WrittenWord) → found ≡ slice_index_or WHITE_MAKE_UP i unused → IsWrittenAs (word_for (make_up_words White) (64 * i)) found
white_make_up_at = IsWrittenAs-at (λ i. word_for (make_up_words White) (64 * i)) 41 WHITE_MAKE_UP refl white_make_up_texts white_make_up_small

pub black_make_up_at : (i : ℕ) → i < 41 → (found : WrittenWord) → found ≡ slice_index_or BLACK_MAKE_UP i unused → IsWrittenAs (word_for (make_up_words Black) (64 * i)) found
black_make_up_at = IsWrittenAs-at (λ i. word_for (make_up_words Black) (64 * i)) 41 BLACK_MAKE_UP refl black_make_up_texts black_make_up_small
