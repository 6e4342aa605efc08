-- Where EOLs stand in bits and in octets, and where none does.
use Rattle.std.proofs.Common.{◌≡◌, ℕ, zero, suc, ◌+◌, ◌-◌, ◌*◌, ◌/◌, ◌%◌, ◌^◌, ◌<◌, ◌≤◌, Bool, true, false, List, [], ◌∷◌, ◌++◌, length, take, drop, get_or, replicate, refl, sym, ◌∙◌, ap, subst, arith, append_assoc, length-append, inl, inr}
use Rattle.std.proofs.lemmas.List.{take_at, drop_at, drop-drop, drop-append-le, take-append-le, take-append-drop, replicate-append-replicate, take-replicate, drop-replicate, length-replicate, drop_more, get_or-drop}
use Rattle.std.proofs.Math.Seq.{drop-length}
use Rattle.std.proofs.lemmas.Bool.{cases_lt}
use Rattle.std.proofs.lemmas.Nat.{mod_below}
use Rattle.fax_bits.specs.Bits.{word_bits, bits_of}
use Rattle.fax_bits.proofs.BitsLemmas.{bits_of-nil, bits_of-cons, length-bits_of, drop-bits_of, length-word_bits, word_bits-add, word_bits-mod, word_bits-zero, word_bits_same, take-drop-append}
use Rattle.fax_runcodes.specs.declared.format.Coding.{Coding}
use Rattle.fax_runcodes.specs.declared.format.Coding.TheVariants.{Mh, Mr}
use Rattle.fax_pagestore.specs.PageTexts.{end_of_line, IsTag, IsSeparator, IsFront}
use Rattle.fax_pagestore.specs.Ends.{HoldsEol, CountsNot}

-- ---- zeros

-- what is dropped after a front
drop_after : (j : ℕ) (front bits : List Bool) → drop (length front + j) (front ++ bits) ≡ drop j bits
drop_after j front bits = sym (drop-drop j (length front) (front ++ bits)) ∙ ap (drop j) (drop_at front bits (length front) refl)

-- bits among the 11 zeros of an EOL are zeros
zeros_inside : (front word tail before rest : List Bool) → front ++ (word ++ tail) ≡ before ++ (end_of_line ++ rest) → length before ≤ length front
    → length front + length word ≤ length before + 11 → word ≡ replicate (length word) false
unfolding end_of_line
zeros_inside front word tail before rest e after inside =
    let j : ℕ = length front - length before in
    let place : length front ≡ length before + j = omega arith in
    let eol : drop j (end_of_line ++ rest) ≡ drop j (replicate 11 false ++ (true ∷ rest)) = ap (drop j) (append_assoc (replicate 11 false) (true ∷ []) rest) in
    let here : take (length word) (drop (length front) (front ++ (word ++ tail))) ≡ word =
    ap (take (length word)) (drop_at front (word ++ tail) (length front) refl) ∙ take_at word tail (length word) refl in
    let there : drop (length front) (front ++ (word ++ tail)) ≡ drop j (replicate 11 false ++ (true ∷ rest)) =
    ap (drop (length front)) e ∙ ap (λ n. drop n (before ++ (end_of_line ++ rest))) place ∙ drop_after j before (end_of_line ++ rest) ∙ eol in
    sym here ∙ ap (take (length word)) there
    ∙ take-drop-append (length word) j (replicate 11 false) (true ∷ rest) (omega (arith, length-replicate 11 false))
    ∙ ap (take (length word)) (drop-replicate j 11 false) ∙ take-replicate (length word) (11 - j) false (omega arith)

-- a word that is zeros
word_zero : (k n : ℕ) → 0 < 2 ^ k → word_bits k n ≡ replicate k false → n % 2 ^ k ≡ 0
word_zero k n some e =
    word_bits_same k (n % 2 ^ k) 0 (mod_below n (2 ^ k) some) some (word_bits-mod k k n (omega arith) ∙ e ∙ sym (word_bits-zero k))

-- the same at a place
word_zero_inside : (k n : ℕ) (front tail before rest : List Bool) → 0 < 2 ^ k → front ++ (word_bits k n ++ tail) ≡ before ++ (end_of_line ++ rest) → length before ≤ length front
    → length front + k ≤ length before + 11 → n % 2 ^ k ≡ 0
word_zero_inside k n front tail before rest some e after inside =
    let size : length (word_bits k n) ≡ k = length-word_bits k n in
    word_zero k n some (zeros_inside front (word_bits k n) tail before rest e after (omega arith) ∙ ap (λ m. replicate m false) size)

-- ---- octets in which no EOL stands

-- no EOL stands in octets, and the first of them, or 255 where there is none, is not 0
pub record NoEol (octets : List ℕ) (first : ℕ) : Type 0 where
  pub first_is : first ≡ get_or octets 0 255
  pub some : 0 < first
  pub none : HoldsEol (bits_of octets) → ⊥

-- bits with an EOL are 12 at least
holds_twelve : (bits before rest : List Bool) → bits ≡ before ++ (end_of_line ++ rest) → length before + 12 ≤ length bits
unfolding end_of_line
holds_twelve bits before rest e = omega (arith, ap length e, length-append before (end_of_line ++ rest), length-append end_of_line rest)

NoEol-nil : NoEol [] 255
NoEol-nil = record {
  first_is = refl;
  some = omega arith;
  none = λ (before, rest, e). omega (arith, holds_twelve (bits_of []) before rest e, ap length bits_of-nil);
}

-- An EOL that begins at the first bit of an octet needs it to be 0.
begins_first : (octet : ℕ) (octets : List ℕ) (before rest : List Bool) → octet < 256 → 0 < octet → bits_of (octet ∷ octets) ≡ before ++ (end_of_line ++ rest) → length before ≡ 0 → ⊥
begins_first octet octets before rest fits some e at =
    let zero : octet % 2 ^ 8 ≡ 0 = word_zero_inside 8 octet [] (bits_of octets) before rest (omega arith) (sym (bits_of-cons octet octets) ∙ e) (omega arith) (omega arith) in
    omega arith

-- One that begins at the second to fifth needs the low half to be 0, and the high half of the octet after.
begins_high : (octet after : ℕ) (octets : List ℕ) (before rest : List Bool) → after < 256 → bits_of (octet ∷ (after ∷ octets)) ≡ before ++ (end_of_line ++ rest)
    → 1 ≤ length before → length before ≤ 4 → (octet % 16 ≡ 0) × (after < 16)
begins_high octet after octets before rest fits e low high =
    let a : List Bool = word_bits 4 (octet / 16) in
    let b : List Bool = word_bits 4 octet in
    let c : List Bool = word_bits 4 (after / 16) in
    let d : List Bool = word_bits 4 after ++ bits_of octets in
    let first : bits_of (octet ∷ (after ∷ octets)) ≡ (a ++ b) ++ bits_of (after ∷ octets) = bits_of-cons octet (after ∷ octets) ∙ ap (λ w. w ++ bits_of (after ∷ octets)) (word_bits-add 4 4 octet) in
    let second : bits_of (after ∷ octets) ≡ c ++ d =
    bits_of-cons after octets ∙ ap (λ w. w ++ bits_of octets) (word_bits-add 4 4 after) ∙ append_assoc c (word_bits 4 after) (bits_of octets) in
    let size_a : length a ≡ 4 = length-word_bits 4 (octet / 16) in
    let size_b : length b ≡ 4 = length-word_bits 4 octet in
    let size : length (a ++ b) ≡ 8 = omega (arith, length-append a b) in
    let one : octet % 2 ^ 4 ≡ 0 = word_zero_inside 4 octet a (bits_of (after ∷ octets)) before rest (omega arith) (sym (append_assoc a b (bits_of (after ∷ octets))) ∙ sym first ∙ e) (omega arith) (omega arith) in
    let two : after / 16 % 2 ^ 4 ≡ 0 = word_zero_inside 4 (after / 16) (a ++ b) d before rest (omega arith) (ap (λ w. (a ++ b) ++ w) (sym second) ∙ sym first ∙ e) (omega arith) (omega arith) in
    (omega arith, omega arith)

-- One that begins at the sixth to eighth needs the octet after to be 0.
begins_low : (octet after : ℕ) (octets : List ℕ) (before rest : List Bool) → after < 256 → bits_of (octet ∷ (after ∷ octets)) ≡ before ++ (end_of_line ++ rest)
    → 5 ≤ length before → length before ≤ 8 → after ≡ 0
begins_low octet after octets before rest fits e low high =
    let size : length (word_bits 8 octet) ≡ 8 = length-word_bits 8 octet in
    let whole : word_bits 8 octet ++ (word_bits 8 after ++ bits_of octets) ≡ before ++ (end_of_line ++ rest) =
    ap (λ w. word_bits 8 octet ++ w) (sym (bits_of-cons after octets)) ∙ sym (bits_of-cons octet (after ∷ octets)) ∙ e in
    let zero : after % 2 ^ 8 ≡ 0 = word_zero_inside 8 after (word_bits 8 octet) (bits_of octets) before rest (omega arith) whole (omega arith) (omega arith) in
    omega arith

-- one that begins after an octet
begins_after : (octet : ℕ) (octets : List ℕ) (before rest : List Bool) → bits_of (octet ∷ octets) ≡ before ++ (end_of_line ++ rest) → 8 ≤ length before → HoldsEol (bits_of octets)
begins_after octet octets before rest e past = (
  drop 8 before,
  rest,
  sym (drop_at (word_bits 8 octet) (bits_of octets) 8 (length-word_bits 8 octet)) ∙ ap (drop 8) (sym (bits_of-cons octet octets) ∙ e) ∙ drop-append-le 8 before (end_of_line ++ rest) past,
)

-- no EOL begins in an octet
none_begins : (octet after : ℕ) (octets : List ℕ) (before rest : List Bool) → octet < 256 → after < 256 → NoEol (after ∷ octets) after
    → 0 < octet → (octet % 16 ≡ 0 → 16 ≤ after) → bits_of (octet ∷ (after ∷ octets)) ≡ before ++ (end_of_line ++ rest) → ⊥
none_begins octet after octets before rest fits next h some wide e = elim (cases_lt (length before) 8) [
  | inr past ↦ h.none (begins_after octet (after ∷ octets) before rest e past)
  | inl inside ↦ elim (cases_lt (length before) 5) [
    | inr low ↦ omega (arith, h.some, begins_low octet after octets before rest next e low (omega arith))
    | inl high ↦ elim (cases_lt (length before) 1) [
      | inl first ↦ begins_first octet (after ∷ octets) before rest fits some e (omega arith)
      | inr second ↦
          let both : (octet % 16 ≡ 0) × (after < 16) = begins_high octet after octets before rest next e second (omega arith) in
          omega (arith, wide both.0, both.1)
    ]
  ]
]

-- one octet more
NoEol-cons : (octet after : ℕ) (octets : List ℕ) → octet < 256 → get_or octets 0 0 < 256 → NoEol octets after → 0 < octet → (octet % 16 ≡ 0 → 16 ≤ after)
    → NoEol (octet ∷ octets) octet
NoEol-cons octet after [] fits next h some wide = record {
  first_is = refl;
  some = some;
  none = λ (before, rest, e). omega (arith, holds_twelve (bits_of (octet ∷ [])) before rest e, length-bits_of (octet ∷ []));
}
NoEol-cons octet after (n ∷ octets) fits next h some wide =
    let same : after ≡ n = h.first_is in
    let first : NoEol (n ∷ octets) n = subst (NoEol (n ∷ octets)) same h in
    record {
      first_is = refl;
      some = some;
      none = λ (before, rest, e). none_begins octet n octets before rest fits next first some (λ half. omega (arith, wide half, same)) e;
    }

pub NoEol-turn : (octets : List ℕ) (place after : ℕ) → 0 < place → place ≤ length octets → ((i : ℕ) → get_or octets i 0 < 256) → NoEol (drop place octets) after
    → 0 < get_or octets (place - 1) 0 → (get_or octets (place - 1) 0 % 16 ≡ 0 → 16 ≤ after) → NoEol (drop (place - 1) octets) (get_or octets (place - 1) 0)
NoEol-turn octets place after some inside fits h nonzero wide =
    let octet : ℕ = get_or octets (place - 1) 0 in
    let back : place - 1 + 1 ≡ place = omega arith in
    let split : drop (place - 1) octets ≡ octet ∷ drop place octets = drop_more octets (place - 1) 0 (omega arith) ∙ ap (λ n. octet ∷ drop n octets) back in
    let next : get_or (drop place octets) 0 0 < 256 = omega (arith, get_or-drop place octets 0 0, fits (place + 0)) in
    subst (λ (os : List ℕ). NoEol os octet) (sym split) (NoEol-cons octet after (drop place octets) (fits (place - 1)) next h nonzero wide)

-- nothing stands after all octets
pub NoEol-end : (octets : List ℕ) → NoEol (drop (length octets) octets) 255
NoEol-end octets = subst (λ (os : List ℕ). NoEol os 255) (sym (drop-length octets)) NoEol-nil

-- the same of the last octet
pub NoEol-last : (octets : List ℕ) → ((i : ℕ) → get_or octets i 0 < 256) → 0 < length octets → 0 < get_or octets (length octets - 1) 0
    → NoEol (drop (length octets - 1) octets) (get_or octets (length octets - 1) 0)
NoEol-last octets fits some last = NoEol-turn octets (length octets) 255 some (omega arith) fits (NoEol-end octets) last (λ half. omega arith)

-- one octet before a place
pub NoEol-before : (octets : List ℕ) (place : ℕ) → 0 < place → place < length octets → ((i : ℕ) → get_or octets i 0 < 256) → NoEol (drop place octets) (get_or octets place 0)
    → CountsNot (get_or octets (place - 1) 0) (get_or octets (place - 1 + 1) 0) → NoEol (drop (place - 1) octets) (get_or octets (place - 1) 0)
NoEol-before octets place some inside fits h not =
    let same : get_or octets (place - 1 + 1) 0 ≡ get_or octets place 0 = ap (λ i. get_or octets i 0) (omega arith) in
    NoEol-turn octets place (get_or octets place 0) some (omega arith) fits h not.0 (λ half. omega (arith, not.1 half, same))

-- many
pub NoEol-block : (octets : List ℕ) (first : ℕ) (n : ℕ) → ((i : ℕ) → get_or octets i 0 < 256) → first + n < length octets
    → ((i : ℕ) → first ≤ i → i < first + n → CountsNot (get_or octets i 0) (get_or octets (i + 1) 0))
    → NoEol (drop (first + n) octets) (get_or octets (first + n) 0) → NoEol (drop first octets) (get_or octets first 0)
NoEol-block octets first zero fits inside not h = subst (λ (i : ℕ). NoEol (drop i octets) (get_or octets i 0)) (omega arith) h
NoEol-block octets first (suc n) fits inside not h =
    let back : first + suc n - 1 ≡ first + n = omega arith in
    let here : NoEol (drop (first + suc n - 1) octets) (get_or octets (first + suc n - 1) 0) =
    NoEol-before octets (first + suc n) (omega arith) inside fits h (not (first + suc n - 1) (omega arith) (omega arith)) in
    NoEol-block octets first n fits (omega arith) (λ i from below. not i from (omega arith)) (subst (λ (i : ℕ). NoEol (drop i octets) (get_or octets i 0)) back here)

-- what it says where a place is known
pub NoEol-at : (octets : List ℕ) (place : ℕ) → place < length octets → 0 < get_or octets place 0 → (HoldsEol (drop (8 * place) (bits_of octets)) → ⊥)
    → NoEol (drop place octets) (get_or octets place 0)
NoEol-at octets place inside some none = record {
  first_is = sym (ap (λ os. get_or os 0 255) (drop_more octets place 0 inside));
  some = some;
  none = λ holds. none (subst HoldsEol (sym (drop-bits_of place octets (omega arith))) holds);
}

-- what it says of the bits after a place
pub none_after : (octets : List ℕ) (place from first : ℕ) → place ≤ length octets → from ≡ place → NoEol (drop place octets) first → HoldsEol (drop (8 * from) (bits_of octets)) → ⊥
none_after octets place from first inside same h holds =
    h.none (subst HoldsEol (ap (λ n. drop (8 * n) (bits_of octets)) same ∙ drop-bits_of place octets inside) holds)

-- ---- what ends with an EOL, and at most one bit after it

-- where that EOL stands
pub ends_at : (text before tag rest bits : List Bool) → text ≡ before ++ (end_of_line ++ tag) → bits ≡ text ++ rest → bits ≡ before ++ (end_of_line ++ (tag ++ rest))
ends_at text before tag rest bits ends e =
    e ∙ ap (λ t. t ++ rest) ends ∙ append_assoc before (end_of_line ++ tag) rest ∙ ap (λ t. before ++ t) (append_assoc end_of_line tag rest)

-- It begins bits only where they hold an EOL.
pub ends_hold : (text before tag rest bits : List Bool) → text ≡ before ++ (end_of_line ++ tag) → bits ≡ text ++ rest → HoldsEol bits
ends_hold text before tag rest bits ends e = (before, tag ++ rest, ends_at text before tag rest bits ends e)

-- an EOL that stands in bits after a place
holds_from : (all : List Bool) (used n : ℕ) (before rest : List Bool) → drop used all ≡ before ++ (end_of_line ++ rest) → n ≤ used + length before → HoldsEol (drop n all)
holds_from all used n before rest e le =
    let far : ℕ = used + length before - n in
    let place : n + far ≡ used + length before = omega arith in
    let there : drop far (drop n all) ≡ end_of_line ++ rest =
    drop-drop far n all ∙ ap (λ m. drop m all) place ∙ sym (drop-drop (length before) used all) ∙ ap (drop (length before)) e ∙ drop_at before (end_of_line ++ rest) (length before) refl in
    (take far (drop n all), rest, sym (take-append-drop far (drop n all)) ∙ ap (λ b. take far (drop n all) ++ b) there)

-- Where a piece brings no EOL, it began the bits before the piece.
pub begins_before : (all left piece text before tag rest : List Bool) (used n : ℕ) → drop used all ≡ left ++ piece → n ≤ (used + length left) - 13 → (HoldsEol (drop n all) → ⊥)
    → text ≡ before ++ (end_of_line ++ tag) → length tag ≤ 1 → left ++ piece ≡ text ++ rest → (more : List Bool) × (left ≡ text ++ more)
unfolding end_of_line
begins_before all left piece text before tag rest used n bits le none ends few e = elim (cases_lt (length left) (length text)) [
  | inr short ↦
      let front : take (length text) left ≡ text =
      sym (take-append-le (length text) left piece short) ∙ ap (take (length text)) e ∙ take_at text rest (length text) refl in
      (drop (length text) left, sym (take-append-drop (length text) left) ∙ ap (λ b. b ++ drop (length text) left) front)
  | inl long ↦
      let held : drop used all ≡ before ++ (end_of_line ++ (tag ++ rest)) = bits ∙ ends_at text before tag rest (left ++ piece) ends e in
      let size : length text ≡ length before + (12 + length tag) = ap length ends ∙ length-append before (end_of_line ++ tag) ∙ ap (λ m. length before + m) (length-append end_of_line tag) in
      absurd (none (holds_from all used n before (tag ++ rest) held (omega arith)))
]

-- Separators and fronts are so.
tag_short : (coding : Coding) (tag : Bool) (text : List Bool) → IsTag coding tag text → length text ≤ 1
tag_short Mh tag text is = omega (arith, ap length is.1)
tag_short Mr tag text is = omega (arith, ap length is)

pub separator_ends : (coding : Coding) (tag : Bool) (text : List Bool) → IsSeparator coding tag text
    → (before tag_text : List Bool) × (text ≡ before ++ (end_of_line ++ tag_text)) × (length tag_text ≤ 1)
unfolding end_of_line
separator_ends coding tag text (zeros, tag_text, many, is, e) =
    let whole : zeros - 11 + 11 ≡ zeros = omega arith in
    let fill : replicate zeros false ≡ replicate (zeros - 11) false ++ replicate 11 false = ap (λ n. replicate n false) (sym whole) ∙ sym (replicate-append-replicate (zeros - 11) 11 false) in (
      replicate (zeros - 11) false,
      tag_text,
      e ∙ ap (λ z. z ++ true ∷ tag_text) fill ∙ append_assoc (replicate (zeros - 11) false) (replicate 11 false) (true ∷ tag_text)
          ∙ ap (λ b. replicate (zeros - 11) false ++ b) (sym (append_assoc (replicate 11 false) (true ∷ []) tag_text)),
      tag_short coding tag tag_text is,
    )

pub front_ends : (coding : Coding) (tag : Bool) (text : List Bool) → IsFront coding tag text
    → (before tag_text : List Bool) × (text ≡ before ++ (end_of_line ++ tag_text)) × (length tag_text ≤ 1)
front_ends coding tag text is =
    let before : List Bool = is.ends.0 in
    (before, is.tag_text, is.text_is ∙ ap (λ b. b ++ is.tag_text) is.ends.1 ∙ append_assoc before end_of_line is.tag_text, tag_short coding tag is.tag_text is.is_tag)
