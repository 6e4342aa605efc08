-- Where the first EOL of octets ends, octet by octet, and what stands before it.
use Rattle.std.proofs.Common.{◌≡◌, ℕ, zero, suc, ◌+◌, ◌-◌, ◌*◌, ◌/◌, ◌%◌, ◌^◌, ◌<◌, ◌≤◌, ◌==◌, Bool, true, false, List, [], ◌∷◌, ◌++◌, length, take, drop, get_or, replicate, min, max, None, refl, sym, ◌∙◌, ap, subst, arith, append_assoc, append-nil, length-append, length-drop, inl, inr}
use Rattle.std.proofs.lemmas.List.{take_more, take-append-drop, length-take-le}
use Rattle.std.proofs.Math.Seq.{take-add}
use Rattle.std.proofs.Math.Nat.{pow-suc}
use Rattle.std.proofs.lemmas.Bool.{cases_lt}
use Rattle.std.proofs.lemmas.Nat.{leading_top}
use Rattle.std.specs.Int.Count.{count_leading_zeros, count_trailing_zeros, under}
use Rattle.fax_bits.specs.Bits.{bit, word_bits, bits_of}
use Rattle.fax_bits.proofs.BitsLemmas.{bits_of-nil, bits_of-cons, bits_of-append, length-bits_of, take-bits_of, length-word_bits, word_bits-add, word_bits-zero}
use Rattle.fax_bits.proofs.ZerosLemmas.{word_bits-top}
use Rattle.fax_runcodes.specs.declared.format.Coding.{Coding}
use Rattle.fax_runcodes.specs.Rows.{Elements}
use Rattle.fax_pagestore.specs.PageTexts.{end_of_line}
use Rattle.fax_pagestore.specs.Ends.{HoldsEol, BeginNoEol}
use Rattle.fax_pagestore.specs.Readers.{IsReadUpTo}
use Rattle.fax_pagestore.proofs.FrontLemmas.{FewZeros, zeros_after, FewZeros-zeros, FewZeros-no_eol}
use Rattle.fax_pagestore.proofs.BeforeEolLemmas.{after_front, within, between}

-- ---- bits one after the other, with zeros before them

FewZeros-append : (n : ℕ) (s t : List Bool) → FewZeros n s → FewZeros (zeros_after n s) t → FewZeros n (s ++ t)
FewZeros-append n [] t few rest = rest
FewZeros-append n (true ∷ s) t few rest = (few.0, FewZeros-append 0 s t few.1 rest)
FewZeros-append n (false ∷ s) t few rest = FewZeros-append (suc n) s t few rest

zeros_after-append : (n : ℕ) (s t : List Bool) → zeros_after n (s ++ t) ≡ zeros_after (zeros_after n s) t
zeros_after-append n [] t = refl
zeros_after-append n (true ∷ s) t = zeros_after-append 0 s t
zeros_after-append n (false ∷ s) t = zeros_after-append (suc n) s t

-- eleven bits at most hold no EOL
FewZeros-short : (n : ℕ) (s : List Bool) → n + length s ≤ 11 → FewZeros n s
FewZeros-short n [] le = tt
FewZeros-short n (true ∷ s) le = (omega arith, FewZeros-short 0 s (omega arith))
FewZeros-short n (false ∷ s) le = FewZeros-short (suc n) s (omega arith)

-- after eleven zeros there are zeros alone, however many stand before
FewZeros-full : (m n : ℕ) (s : List Bool) → 11 ≤ m → FewZeros m s → FewZeros n s
FewZeros-full m n [] full few = tt
FewZeros-full m n (true ∷ s) full few = absurd (omega (arith, few.0))
FewZeros-full m n (false ∷ s) full few = FewZeros-full (suc m) (suc n) s (omega arith) few

-- ---- an octet

octet_few : (zeros octet : ℕ) → octet < 256 → 0 < octet → zeros + count_leading_zeros 8 octet < 11 → FewZeros zeros (word_bits 8 octet)
octet_few zeros octet fits some few =
    let top = leading_top 8 octet some (omega arith) in
    let j : ℕ = top.0 in
    let z : ℕ = count_leading_zeros 8 octet in
    let size : z + suc j ≡ 8 = top.1 in
    let word : word_bits 8 octet ≡ replicate z false ++ true ∷ word_bits j octet = ap (λ n. word_bits n octet) (sym size) ∙ word_bits-top z j octet top.2 top.3 in
    subst (FewZeros zeros) (sym word)
    (FewZeros-zeros zeros z (true ∷ word_bits j octet) (few, FewZeros-short 0 (word_bits j octet) (omega (arith, length-word_bits j octet))))

last_bit : (n : ℕ) → word_bits 1 n ≡ (n % 2 == 1) ∷ []
unfolding bit word_bits
last_bit n = let whole : n / 2 ^ 0 ≡ n = omega arith in ap (λ m. (m % 2 == 1) ∷ []) whole

zeros_after-last : (n z t d : ℕ) → n % 2 ≡ d → (d ≡ 0 → z ≡ t) → zeros_after z ((n % 2 == 1) ∷ []) ≡ under d t
zeros_after-last n z t zero e same = ap (λ m. zeros_after z ((m == 1) ∷ [])) e ∙ ap suc (same refl)
zeros_after-last n z t (suc zero) e same = ap (λ m. zeros_after z ((m == 1) ∷ [])) e
zeros_after-last n z t (suc (suc d)) e same = absurd (omega arith)

-- the zeros at the end of a word that is not 0
zeros_of_word : (k n z : ℕ) → 0 < n → n < 2 ^ k → zeros_after z (word_bits k n) ≡ count_trailing_zeros k n
unfolding count_trailing_zeros
zeros_of_word zero n z some fits = absurd (omega arith)
zeros_of_word (suc k) n z some fits =
    let before : ℕ = zeros_after z (word_bits k (n / 2)) in
    let next : suc k ≡ k + 1 = omega arith in
    let split : word_bits (suc k) n ≡ word_bits k (n / 2) ++ word_bits 1 n = ap (λ m. word_bits m n) next ∙ word_bits-add k 1 n in
    ap (zeros_after z) split ∙ zeros_after-append z (word_bits k (n / 2)) (word_bits 1 n) ∙ ap (zeros_after before) (last_bit n)
    ∙ zeros_after-last n before (count_trailing_zeros k (n / 2)) (n % 2) refl
    (λ even. zeros_of_word k (n / 2) z (omega arith) (omega (arith, pow-suc 2 k)))

-- ---- octets gone over

-- No EOL ends in the octets before a place, and so many zeros stand at their end, of which eleven are counted.
pub record NoneSoFar (octets : List ℕ) (place zeros : ℕ) : Type 0 where
  pub few : zeros ≤ 11
  pub free : (bits : List Bool) → FewZeros zeros bits → FewZeros 0 (bits_of (take place octets) ++ bits)

pub NoneSoFar-none : (octets : List ℕ) → NoneSoFar octets 0 0
NoneSoFar-none octets = record {
  few = omega arith;
  free = λ bits h. subst (λ b. FewZeros 0 (b ++ bits)) (sym bits_of-nil) h;
}

-- one octet more
bits_with : (octets : List ℕ) (place : ℕ) → place < length octets → bits_of (take (place + 1) octets) ≡ bits_of (take place octets) ++ word_bits 8 (get_or octets place 0)
bits_with octets place inside =
    let octet : ℕ = get_or octets place 0 in
    ap bits_of (take_more octets place 0 inside) ∙ bits_of-append (take place octets) (octet ∷ [])
    ∙ ap (λ b. bits_of (take place octets) ++ b) (bits_of-cons octet [] ∙ ap (λ b. word_bits 8 octet ++ b) bits_of-nil ∙ append-nil (word_bits 8 octet))

NoneSoFar-more : (octets : List ℕ) (place count next : ℕ) → place < length octets → NoneSoFar octets place count → next ≤ 11
    → ((bits : List Bool) → FewZeros next bits → FewZeros count (word_bits 8 (get_or octets place 0) ++ bits)) → NoneSoFar octets (place + 1) next
NoneSoFar-more octets place count next inside so few step = record {
  few = few;
  free = λ bits h.
      let octet : ℕ = get_or octets place 0 in
      let parts : bits_of (take (place + 1) octets) ++ bits ≡ bits_of (take place octets) ++ (word_bits 8 octet ++ bits) =
      ap (λ b. b ++ bits) (bits_with octets place inside) ∙ append_assoc (bits_of (take place octets)) (word_bits 8 octet) bits in
      subst (FewZeros 0) (sym parts) (so.free (word_bits 8 octet ++ bits) (step bits h));
}

pub NoneSoFar-zero : (octets : List ℕ) (place zeros next : ℕ) → place < length octets → get_or octets place 0 ≡ 0 → next ≡ min (zeros + 8) 11
    → NoneSoFar octets place zeros → NoneSoFar octets (place + 1) next
NoneSoFar-zero octets place zeros next inside none is so =
    NoneSoFar-more octets place zeros next inside so (omega arith) (λ bits h.
    let word : word_bits 8 (get_or octets place 0) ≡ replicate 8 false = ap (word_bits 8) none ∙ word_bits-zero 8 in
    let after : FewZeros (zeros + 8) bits = elim (cases_lt (zeros + 8) 11) [
      | inl less ↦ let same : next ≡ zeros + 8 = omega arith in subst (λ n. FewZeros n bits) same h
      | inr full ↦ FewZeros-full next (zeros + 8) bits (omega arith) h
    ] in
    subst (λ w. FewZeros zeros (w ++ bits)) (sym word) (FewZeros-zeros zeros 8 bits after))

pub NoneSoFar-octet : (octets : List ℕ) (place zeros : ℕ) → place < length octets → get_or octets place 0 < 256 → 0 < get_or octets place 0
    → zeros + count_leading_zeros 8 (get_or octets place 0) < 11 → count_trailing_zeros 8 (get_or octets place 0) ≤ 8
    → NoneSoFar octets place zeros → NoneSoFar octets (place + 1) (count_trailing_zeros 8 (get_or octets place 0))
NoneSoFar-octet octets place zeros inside fits some few le so =
    let octet : ℕ = get_or octets place 0 in
    NoneSoFar-more octets place zeros (count_trailing_zeros 8 octet) inside so (omega arith) (λ bits h.
    FewZeros-append zeros (word_bits 8 octet) bits (octet_few zeros octet fits some few)
    (subst (λ n. FewZeros n bits) (sym (zeros_of_word 8 octet zeros some (omega arith))) h))

pub NoneSoFar-no_eol : (octets : List ℕ) (place count : ℕ) → NoneSoFar octets place count → HoldsEol (bits_of (take place octets)) → ⊥
NoneSoFar-no_eol octets place count so (before, rest, e) =
    let text : List Bool = bits_of (take place octets) in
    FewZeros-no_eol text (before ++ end_of_line) rest (subst (FewZeros 0) (append-nil text) (so.free [] tt)) (before, refl) (e ∙ sym (append_assoc before end_of_line rest))

-- ---- what stands before the first EOL

length-eol : length end_of_line ≡ 12
unfolding end_of_line
length-eol = refl

-- none begins in the octets before the two before the one in which the first one ends
pub none_begins : (octets : List ℕ) (place passed : ℕ) → place ≤ length octets → passed ≤ place - 2 → (HoldsEol (bits_of (take place octets)) → ⊥)
    → BeginNoEol (take (8 * passed) (bits_of octets)) (drop (8 * passed) (bits_of octets))
none_begins octets place passed inside far none = λ more front rest e.
    let bits : List Bool = bits_of octets in
    let text : List Bool = bits_of (take place octets) in
    let size : length text ≡ 8 * place = length-bits_of (take place octets) ∙ ap (λ n. 8 * n) (length-take-le place octets inside) in
    let before : length (take (8 * passed) bits) ≡ 8 * passed = length-take-le (8 * passed) bits (omega (arith, length-bits_of octets)) in
    elim (cases_lt (length front) (8 * passed)) [
      | inr after ↦ omega arith
      | inl early ↦
          let begins : text ++ drop (8 * place) bits ≡ bits = ap (λ t. t ++ drop (8 * place) bits) (sym (take-bits_of place octets inside)) ∙ take-append-drop (8 * place) bits in
          let whole : text ++ (drop (8 * place) bits ++ more) ≡ (front ++ end_of_line) ++ rest =
          sym (append_assoc text (drop (8 * place) bits) more) ∙ ap (λ b. b ++ more) (begins ∙ sym (take-append-drop (8 * passed) bits))
          ∙ append_assoc (take (8 * passed) bits) (drop (8 * passed) bits) more ∙ e ∙ sym (append_assoc front end_of_line rest) in
          let short : length (front ++ end_of_line) ≤ length text = omega (arith, length-append front end_of_line, length-eol) in
          let here = within text (drop (8 * place) bits ++ more) (front ++ end_of_line) rest whole short in
          absurd (none (front, drop (length (front ++ end_of_line)) text, here ∙ append_assoc front end_of_line (drop (length (front ++ end_of_line)) text)))
    ]

-- bits before which none begins are passed, where no EOL was
pub none_passed : (coding : Coding) (width : ℕ) (all held : List ℕ) (rows : List Elements) (used q place : ℕ) → place ≡ max used q
    → BeginNoEol (take q (bits_of held)) (drop q (bits_of held))
    → IsReadUpTo coding width all rows None (drop used (bits_of held)) → IsReadUpTo coding width all rows None (drop place (bits_of held))
none_passed coding width all held rows used q place is none read = elim (cases_lt used q) [
  | inr past ↦ let same : used ≡ place = omega arith in subst (λ n. IsReadUpTo coding width all rows None (drop n (bits_of held))) same read
  | inl lt ↦
      let same : q ≡ place = omega arith in
      let bits : List Bool = bits_of held in
      let gone : List Bool = take (q - used) (drop used bits) in
      let left : List Bool = drop q bits in
      let before : List Bool = read.1 in
      let split : drop used bits ≡ gone ++ left = between bits used q (omega arith) in
      let begin : BeginNoEol before (gone ++ left) = subst (BeginNoEol before) split read.3 in
      let far : used + (q - used) ≡ q = omega arith in
      let start : take q bits ≡ take used bits ++ gone = ap (λ n. take n bits) (sym far) ∙ take-add used (q - used) bits in
      let after : BeginNoEol (before ++ gone) left = λ more front rest e.
      let whole : before ++ ((gone ++ left) ++ more) ≡ front ++ (end_of_line ++ rest) =
      ap (λ b. before ++ b) (append_assoc gone left more) ∙ sym (append_assoc before gone (left ++ more)) ∙ e in
      let at : length before ≤ length front = begin more front rest whole in
      let own : List Bool = drop (length before) front in
      let there : take q bits ++ (left ++ more) ≡ (take used bits ++ own) ++ (end_of_line ++ rest) =
      ap (λ b. b ++ (left ++ more)) start ∙ append_assoc (take used bits) gone (left ++ more)
      ∙ ap (λ b. take used bits ++ b) (sym (append_assoc gone left more) ∙ after_front before ((gone ++ left) ++ more) front (end_of_line ++ rest) whole at)
      ∙ sym (append_assoc (take used bits) own (end_of_line ++ rest)) in
      let long : length (take q bits) ≤ length (take used bits ++ own) = none more (take used bits ++ own) rest there in
      omega (arith, ap length start, length-append (take used bits) gone, length-append (take used bits) own, length-drop (length before) front, length-append before gone) in
      subst (λ n. IsReadUpTo coding width all rows None (drop n bits)) same
      (read.0, before ++ gone, read.2 ∙ ap (λ b. before ++ b) split ∙ sym (append_assoc before gone left), after)
]
