-- The tables of the code against those of T.4: a rule that is computed over each whole table, and
-- what it says of an entry.
use Rattle.std.proofs.Common.{◌≡◌, ℕ, zero, suc, ◌+◌, ◌-◌, ◌^◌, ◌/◌, ◌<◌, ◌≤◌, ◌==◌, Bool, true, false, ◌&&◌, ◌||◌, List, [], ◌∷◌, ◌++◌, Contains, length, slice_index_or, replicate, drop, refl, sym, ◌∙◌, ap, arith, inl, inr, append_assoc, length-drop, get_or-drop, add-zero, add-suc, suc-add}
use Rattle.std.proofs.lemmas.Bool.{and_parts, or_cases, eqb-true}
use Rattle.fax_bits.specs.Bits.{word_bits, bit}
use Rattle.fax_runcodes.specs.declared.Colour.{Colour}
use Rattle.fax_runcodes.specs.declared.Colour.TheVariants.{White, Black}
use Rattle.fax_runcodes.specs.declared.tables.CodeWord.{CodeWord}
use Rattle.fax_runcodes.specs.declared.tables.white.TheConstants as white
use Rattle.fax_runcodes.specs.declared.tables.black.TheConstants as black
use Rattle.fax_runcodes.specs.CodeTables.{Word, words, white_terminating, white_make_up, black_terminating, black_make_up, common_make_up}
use Rattle.fax_runcodes.specs.Entries.{IsEntryAt}
use Rattle.fax_runcodes.specs.Lookups.{no_run}
use Rattle.fax_bits.proofs.BitsLemmas.{word_bits-add}
use Rattle.fax_runcodes.proofs.Fronts.{begins, begins_rest}

-- what stands past the end of a table
abbrev pub unused : CodeWord
unused = record { run = 0; bits = 0 }

-- a word of T.4 is the one that was found, and begins the bits
abbrev pub is_found : CodeWord → List Bool → Word → Bool
is_found found text w = (w.run == found.run) && ((length w.word == found.bits) && begins w.word text)

abbrev pub some_word : (Word → Bool) → List Word → Bool
some_word p [] = false
some_word p (w ∷ ws) = p w || some_word p ws

-- an entry says what begins these bits
abbrev pub is_right : List Word → List Bool → CodeWord → Bool
is_right ws text found = ((found.run == no_run) && begins (replicate 8 false) text) || some_word (is_found found text) ws

-- each entry from this index on says what begins the k bits of its index
abbrev pub are_right : List Word → ℕ → ℕ → List CodeWord → Bool
are_right ws k index [] = true
are_right ws k index (e ∷ es) = is_right ws (word_bits k index) e && are_right ws k (suc index) es

-- ---- the rule, computed
pub white_first_nine : are_right (words White) 9 4 (drop 4 white.FIRST_NINE) ≡ true
unfolding white_terminating white_make_up common_make_up word_bits bit
white_first_nine = refl

pub white_first_twelve : are_right (words White) 12 0 white.FIRST_TWELVE ≡ true
unfolding white_terminating white_make_up common_make_up word_bits bit
white_first_twelve = refl

pub black_first_six : are_right (words Black) 6 4 (drop 4 black.FIRST_SIX) ≡ true
unfolding black_terminating black_make_up common_make_up word_bits bit
black_first_six = refl

pub black_first_twelve : are_right (words Black) 12 64 (drop 64 black.FIRST_TWELVE) ≡ true
unfolding black_terminating black_make_up common_make_up word_bits bit
black_first_twelve = refl

pub black_first_thirteen : are_right (words Black) 13 0 black.FIRST_THIRTEEN ≡ true
unfolding black_terminating black_make_up common_make_up word_bits bit
black_first_thirteen = refl

-- ---- what it says of an entry
pub some_word_is : (p : Word → Bool) (ws : List Word) → some_word p ws ≡ true → (w : Word) × Contains ws w × (p w ≡ true)
some_word_is p [] h = cc
some_word_is p (w ∷ ws) h = elim (or_cases (p w) (some_word p ws) h) [
  | inl here ↦ (w, (0, omega arith, refl), here)
  | inr later ↦
      let r : (w : Word) × Contains ws w × (p w ≡ true) = some_word_is p ws later in
      (r.0, (suc r.1.0, omega (arith, r.1.1), r.1.2), r.2)
]

-- the k bits of an index and whatever follows them begin with the word of a right entry
pub IsEntryAt-from_right : (colour : Colour) (text more : List Bool) (found : CodeWord) → is_right (words colour) text found ≡ true → IsEntryAt colour (text ++ more) found
IsEntryAt-from_right colour text more found h = elim (or_cases ((found.run == no_run) && begins (replicate 8 false) text) (some_word (is_found found text) (words colour)) h) [
  | inl none ↦
      let parts = and_parts (found.run == no_run) (begins (replicate 8 false) text) none in
      let r : (rest : List Bool) × (text ≡ replicate 8 false ++ rest) = begins_rest (replicate 8 false) text parts.1 in
      inl (eqb-true found.run no_run parts.0, r.0 ++ more, ap (λ t. t ++ more) r.1)
  | inr some ↦
      let w : (w : Word) × Contains (words colour) w × (is_found found text w ≡ true) = some_word_is (is_found found text) (words colour) some in
      let outer = and_parts (w.0.run == found.run) ((length w.0.word == found.bits) && begins w.0.word text) w.2 in
      let inner = and_parts (length w.0.word == found.bits) (begins w.0.word text) outer.1 in
      let r : (rest : List Bool) × (text ≡ w.0.word ++ rest) = begins_rest w.0.word text inner.1 in
      inr (record {
        word = w.0;
        begins = (w.1, r.0 ++ more, ap (λ t. t ++ more) r.1 ∙ append_assoc w.0.word r.0 more);
        run_is = eqb-true w.0.run found.run outer.0;
        bits_is = eqb-true (length w.0.word) found.bits inner.0;
      })
]

-- an entry of a table of which the rule holds
pub are_right_at : (ws : List Word) (k index : ℕ) (es : List CodeWord) → are_right ws k index es ≡ true
    → (i : ℕ) → i < length es → is_right ws (word_bits k (index + i)) (slice_index_or es i unused) ≡ true
are_right_at ws k index [] h i lt = absurd (omega arith)
are_right_at ws k index (e ∷ es) h zero lt =
    rw add-zero (and_parts (is_right ws (word_bits k index) e) (are_right ws k (suc index) es) h).0
are_right_at ws k index (e ∷ es) h (suc i) lt =
    let rest = (and_parts (is_right ws (word_bits k index) e) (are_right ws k (suc index) es) h).1 in
    let there : is_right ws (word_bits k (suc index + i)) (slice_index_or es i unused) ≡ true = are_right_at ws k (suc index) es rest i (omega arith) in
    rw add-suc (rw suc-add at there)

-- a look-up by the first k of k + j bits, in a table of which the rule holds from place n on
pub IsEntryAt-lookup : (colour : Colour) (k j n : ℕ) (es : List CodeWord) → are_right (words colour) k n (drop n es) ≡ true
    → (window : ℕ) → n ≤ window / 2 ^ j → window / 2 ^ j < length es
    → (found : CodeWord) → found ≡ slice_index_or es (window / 2 ^ j) unused → IsEntryAt colour (word_bits (k + j) window) found
IsEntryAt-lookup colour k j n es rule window low high found e =
    let i : ℕ = window / 2 ^ j - n in
    let place : n + i ≡ window / 2 ^ j = omega arith in
    let size : length (drop n es) ≡ length es - n = length-drop n es in
    let right : is_right (words colour) (word_bits k (n + i)) (slice_index_or (drop n es) i unused) ≡ true = are_right_at (words colour) k n (drop n es) rule i (omega arith) in
    let entry : slice_index_or (drop n es) i unused ≡ found = get_or-drop n es i unused ∙ ap (λ m. slice_index_or es m unused) place ∙ sym e in
    let here : is_right (words colour) (word_bits k (window / 2 ^ j)) found ≡ true = rw (place, entry) at right in
    rw (word_bits-add k j window) (IsEntryAt-from_right colour (word_bits k (window / 2 ^ j)) (word_bits j window) found here)
