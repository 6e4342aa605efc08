-- What is passed of a page up to its first EOL: zeros, the 1s after them, and the tag of the EOL.
use Rattle.std.proofs.Common.{◌≡◌, inl, inr, IsTrue, ◌==◌, ◌^◌, ℕ, zero, suc, ◌+◌, ◌-◌, ◌<◌, ◌≤◌, Bool, true, false, List, [], ◌∷◌, ◌++◌, length, take, drop, min, nat_lt, replicate, refl, sym, ◌∙◌, ap, subst, arith, append_assoc, append-nil, add-zero, length-append}
use Rattle.std.proofs.lemmas.List.{length-replicate, take_at, nil_from_length, replicate-append-replicate, take-append-le, take-append-drop, take_all}
use Rattle.std.proofs.lemmas.Bool.{cases_lt, lt-ltb}
use Rattle.fax_bits.specs.Reading.{Place, Passes}
use Rattle.fax_bits.proofs.ReadingLemmas.{Passes-none, Passes-then}
use Rattle.fax_bits.specs.Bits.{bit, word_bits}
use Rattle.fax_runcodes.specs.declared.format.Coding.{Coding}
use Rattle.fax_runcodes.specs.declared.format.Coding.TheVariants.{Mr}
use Rattle.fax_pagestore.specs.PageTexts.{end_of_line, EndsWithEol, IsTag, IsSeparator, IsFront}
use Rattle.fax_pagestore.specs.Ends.{HoldsNoTaggedEol}
use Rattle.fax_pagestore.specs.PageFaults.{LineBegins}

-- ---- zeros up to a 1

-- what stands after the zeros, where bits are left
one_ahead : (bits : List Bool) → ((rest : List Bool) → bits ≡ false ∷ rest → ⊥) → 1 ≤ length bits → (rest : List Bool) × (bits ≡ true ∷ rest)
one_ahead [] stops some = absurd (omega arith)
one_ahead (true ∷ rest) stops some = (rest, refl)
one_ahead (false ∷ rest) stops some = absurd (stops rest refl)

-- Where zeros were passed up to a 1 or the end, bits that are left begin with a 1.
pub zeros_and_one : (a b : Place) (zeros : ℕ) → Passes a b (replicate zeros false) → ((rest : List Bool) → b.left ≡ false ∷ rest → ⊥) → 1 ≤ length b.left
    → (rest : List Bool) × (a.left ≡ replicate zeros false ++ true ∷ rest)
zeros_and_one a b zeros p stops some =
    let one : (rest : List Bool) × (b.left ≡ true ∷ rest) = one_ahead b.left stops some in
    (one.0, p.bits ∙ ap (λ bits. replicate zeros false ++ bits) one.1)

-- The 1 passed too.
pub Passes-zeros_one : (a b c : Place) (zeros : ℕ) → Passes a b (replicate zeros false) → ((rest : List Bool) → b.left ≡ false ∷ rest → ⊥) → 1 ≤ length b.left
    → Passes b c (take 1 b.left) → Passes a c (replicate zeros false ++ true ∷ [])
Passes-zeros_one a b c zeros p stops some q =
    let one : (rest : List Bool) × (b.left ≡ true ∷ rest) = one_ahead b.left stops some in
    Passes-then a b c (replicate zeros false) (true ∷ []) p (subst (λ bits. Passes b c (take 1 bits)) one.1 q)

-- Zeros that are followed by no further zero are all zeros before a 1.
one_after : (a b : ℕ) (x y : List Bool) → replicate a false ++ x ≡ replicate b false ++ true ∷ y → ((rest : List Bool) → x ≡ false ∷ rest → ⊥) → (a ≡ b) × (x ≡ true ∷ y)
one_after zero zero x y e stops = (refl, e)
one_after zero (suc b) x y e stops = absurd (stops (replicate b false ++ true ∷ y) e)
one_after (suc a) zero x y e stops = cc
one_after (suc a) (suc b) x y e stops =
    let tails : replicate a false ++ x ≡ replicate b false ++ true ∷ y = cc in
    let more : (a ≡ b) × (x ≡ true ∷ y) = one_after a b x y tails stops in
    (ap suc more.0, more.1)

-- Where a line begins fewer than 11 zeros were passed, and a 1 follows.
pub line_zeros : (a b : Place) (zeros : ℕ) → Passes a b (replicate zeros false) → ((rest : List Bool) → b.left ≡ false ∷ rest → ⊥) → LineBegins a.left
    → (zeros < 11) × (1 ≤ length b.left)
line_zeros a b zeros p stops (z, rest, few, e) =
    let same : (zeros ≡ z) × (b.left ≡ true ∷ rest) = one_after zeros z b.left rest (sym p.bits ∙ e) stops in
    let size : length b.left ≡ suc (length rest) = ap length same.1 in
    (omega (arith, same.0), omega arith)

-- One number of zeros comes before a 1.
pub zeros_before_one : (a b : ℕ) (x y : List Bool) → replicate a false ++ true ∷ x ≡ replicate b false ++ true ∷ y → a ≡ b
zeros_before_one a b x y e = (one_after a b (true ∷ x) y e (λ rest h. cc)).0

-- Bits that begin with so many zeros have no 1 among them.
pub no_one_in_zeros : (n z : ℕ) (rest : List Bool) → z < n → take n (replicate z false ++ true ∷ rest) ≡ replicate n false → ⊥
no_one_in_zeros zero z rest lt e = absurd (omega arith)
no_one_in_zeros (suc n) zero rest lt e = cc
no_one_in_zeros (suc n) (suc z) rest lt e =
    let tails : take n (replicate z false ++ true ∷ rest) ≡ replicate n false = cc in
    no_one_in_zeros n z rest (omega arith) tails

pub no_one_in_window : (bits : List Bool) → take (min 56 (length bits)) bits ≡ replicate (min 56 (length bits)) false → LineBegins bits → ⊥
no_one_in_window bits zeros (z, rest, few, e) =
    let size : length bits ≡ length (replicate z false) + length (true ∷ rest) = ap length e ∙ length-append (replicate z false) (true ∷ rest) in
    let front : length (replicate z false) ≡ z = length-replicate z false in
    no_one_in_zeros (min 56 (length bits)) z rest (omega arith) (ap (take (min 56 (length bits))) (sym e) ∙ zeros)

-- Where a line begins a window begins with fewer than 11 zeros.
pub few_zeros : (zeros : ℕ) (bits : List Bool) → (zeros < 56 → (rest : List Bool) × (bits ≡ replicate zeros false ++ true ∷ rest))
    → (56 ≤ zeros → LineBegins bits → ⊥) → LineBegins bits → IsTrue (nat_lt zeros 11)
few_zeros zeros bits one none begins = elim (cases_lt zeros 56) [
  | inl inside ↦
      let at = one inside in
      let same : zeros ≡ begins.0 = zeros_before_one zeros begins.0 at.0 begins.1 (sym at.1 ∙ begins.3) in
      lt-ltb zeros 11 (omega (arith, same, begins.2))
  | inr past ↦ absurd (none past begins)
]

-- The zeros of a window and the 1 after them passed.
pub Passes-window : (a b : Place) (zeros : ℕ) → (rest : List Bool) × (a.left ≡ replicate zeros false ++ true ∷ rest) → Passes a b (take (zeros + 1) a.left)
    → Passes a b (replicate zeros false ++ true ∷ [])
Passes-window a b zeros (rest, e) p =
    let size : length (replicate zeros false ++ true ∷ []) ≡ zeros + 1 = length-append (replicate zeros false) (true ∷ []) ∙ ap (λ n. n + 1) (length-replicate zeros false) in
    subst (Passes a b)
    (ap (take (zeros + 1)) (e ∙ sym (append_assoc (replicate zeros false) (true ∷ []) rest)) ∙ take_at (replicate zeros false ++ true ∷ []) rest (zeros + 1) size)
    p

-- What a test for one more bit says where it fails.
pub none_left : (test : Bool) (n : ℕ) → (1 ≤ n → IsTrue test) → test ≡ false → n < 1
none_left test n some fails = elim (cases_lt n 1) [
  | inl none ↦ none
  | inr one ↦ let holds : test ≡ true = some one in cc
]

-- Where nothing is left only zeros were there.
pub only_zeros : (a b : Place) (zeros : ℕ) → Passes a b (replicate zeros false) → length b.left < 1 → a.left ≡ replicate zeros false
only_zeros a b zeros p none =
    p.bits ∙ ap (λ bits. replicate zeros false ++ bits) (nil_from_length b.left (omega arith)) ∙ append-nil (replicate zeros false)

-- Fewer bits are left once zeros and a 1 were passed.
pub zeros_one_shorter : (a b : Place) (zeros : ℕ) → Passes a b (replicate zeros false ++ true ∷ []) → length b.left < length a.left
zeros_one_shorter a b zeros p =
    let size : length a.left ≡ length (replicate zeros false ++ true ∷ []) + length b.left = ap length p.bits ∙ length-append (replicate zeros false ++ true ∷ []) b.left in
    let one : length (replicate zeros false ++ true ∷ []) ≡ length (replicate zeros false) + 1 = length-append (replicate zeros false) (true ∷ []) in
    omega arith

-- ---- bits with no EOL in them

-- each 1 comes after fewer than 11 zeros, where so many zeros come before the bits
abbrev pub FewZeros : ℕ → List Bool → Type 0
FewZeros n [] = Unit {0}
FewZeros n (true ∷ bits) = (n < 11) × FewZeros 0 bits
FewZeros n (false ∷ bits) = FewZeros (suc n) bits

-- how many zeros bits end with, where so many come before them
abbrev pub zeros_after : ℕ → List Bool → ℕ
zeros_after n [] = n
zeros_after n (true ∷ bits) = zeros_after 0 bits
zeros_after n (false ∷ bits) = zeros_after (suc n) bits

FewZeros-after : (n : ℕ) (s t : List Bool) → FewZeros n (s ++ t) → FewZeros (zeros_after n s) t
FewZeros-after n [] t h = h
FewZeros-after n (true ∷ s) t h = FewZeros-after 0 s t h.1
FewZeros-after n (false ∷ s) t h = FewZeros-after (suc n) s t h

FewZeros-after_zeros : (n zeros : ℕ) (t : List Bool) → FewZeros n (replicate zeros false ++ t) → FewZeros (n + zeros) t
FewZeros-after_zeros n zero t h = subst (λ k. FewZeros k t) (sym (add-zero n)) h
FewZeros-after_zeros n (suc zeros) t h =
    let same : suc n + zeros ≡ n + suc zeros = omega arith in
    subst (λ k. FewZeros k t) same (FewZeros-after_zeros (suc n) zeros t h)

pub FewZeros-zeros : (n zeros : ℕ) (t : List Bool) → FewZeros (n + zeros) t → FewZeros n (replicate zeros false ++ t)
FewZeros-zeros n zero t h = subst (λ k. FewZeros k t) (add-zero n) h
FewZeros-zeros n (suc zeros) t h =
    let same : n + suc zeros ≡ suc n + zeros = omega arith in
    FewZeros-zeros (suc n) zeros t (subst (λ k. FewZeros k t) same h)

-- no front of such bits ends with an EOL
pub FewZeros-no_eol : (text front rest : List Bool) → FewZeros 0 text → EndsWithEol front → text ≡ front ++ rest → ⊥
unfolding end_of_line
FewZeros-no_eol text front rest few (before, e) whole =
    let bits : text ≡ before ++ (replicate 11 false ++ (true ∷ rest)) = whole ∙ ap (λ b. b ++ rest) e ∙ append_assoc before (replicate 11 false ++ true ∷ []) rest in
    let after : FewZeros (zeros_after 0 before) (replicate 11 false ++ (true ∷ rest)) = FewZeros-after 0 before (replicate 11 false ++ (true ∷ rest)) (subst (FewZeros 0) bits few) in
    let one : FewZeros (zeros_after 0 before + 11) (true ∷ rest) = FewZeros-after_zeros (zeros_after 0 before) 11 (true ∷ rest) after in
    omega (arith, one.0)

-- ---- the front that is being passed

-- from old to new bits were passed in which there is no EOL, and which end with a 1 if any
pub record FrontSoFar (old new : Place) : Type 0 where
  pub text : List Bool
  pub passes : Passes old new text
  pub free : (bits : List Bool) → FewZeros 0 bits → FewZeros 0 (text ++ bits)

pub FrontSoFar-none : (p : Place) → FrontSoFar p p
FrontSoFar-none p = record { text = []; passes = Passes-none p; free = λ bits h. h }

-- with zeros and a 1 after them
after_text : (text : List Bool) (zeros : ℕ) (bits : List Bool) → (text ++ (replicate zeros false ++ true ∷ [])) ++ bits ≡ text ++ (replicate zeros false ++ (true ∷ bits))
after_text text zeros bits =
    append_assoc text (replicate zeros false ++ true ∷ []) bits ∙ ap (λ b. text ++ b) (append_assoc (replicate zeros false) (true ∷ []) bits)

pub FrontSoFar-more : (old mid new : Place) (zeros : ℕ) → FrontSoFar old mid → Passes mid new (replicate zeros false ++ true ∷ []) → zeros < 11 → FrontSoFar old new
FrontSoFar-more old mid new zeros r p few = record {
  text = r.text ++ (replicate zeros false ++ true ∷ []);
  passes = Passes-then old mid new r.text (replicate zeros false ++ true ∷ []) r.passes p;
  free = λ bits h. subst (FewZeros 0) (sym (after_text r.text zeros bits))
      (r.free (replicate zeros false ++ (true ∷ bits)) (FewZeros-zeros 0 zeros (true ∷ bits) (omega arith, h)));
}

-- with only zeros after them there is no EOL
with_zeros : (old new : Place) (zeros : ℕ) (r : FrontSoFar old new) → FewZeros 0 (r.text ++ replicate zeros false)
with_zeros old new zeros r = r.free (replicate zeros false) (subst (FewZeros 0) (append-nil (replicate zeros false)) (FewZeros-zeros 0 zeros [] tt))

-- the front ends with 11 zeros and a 1
pub front_ends : (text : List Bool) (zeros : ℕ) → 11 ≤ zeros → EndsWithEol (text ++ (replicate zeros false ++ true ∷ []))
unfolding end_of_line
front_ends text zeros enough =
    let size : zeros - 11 + 11 ≡ zeros = omega arith in
    let parts : replicate zeros false ≡ replicate (zeros - 11) false ++ replicate 11 false =
    ap (λ k. replicate k false) (sym size) ∙ sym (replicate-append-replicate (zeros - 11) 11 false) in (
      text ++ replicate (zeros - 11) false,
      ap (λ b. text ++ (b ++ true ∷ [])) parts
          ∙ ap (λ b. text ++ b) (append_assoc (replicate (zeros - 11) false) (replicate 11 false) (true ∷ []))
          ∙ sym (append_assoc text (replicate (zeros - 11) false) (replicate 11 false ++ true ∷ [])),
    )

-- no shorter front does
front_shortest : (old mid : Place) (zeros : ℕ) (r : FrontSoFar old mid) (k : ℕ) → k < length (r.text ++ (replicate zeros false ++ true ∷ []))
    → EndsWithEol (take k (r.text ++ (replicate zeros false ++ true ∷ []))) → ⊥
front_shortest old mid zeros r k lt ends =
    let before : List Bool = r.text ++ replicate zeros false in
    let whole : r.text ++ (replicate zeros false ++ true ∷ []) ≡ before ++ true ∷ [] = sym (append_assoc r.text (replicate zeros false) (true ∷ [])) in
    let size : length (r.text ++ (replicate zeros false ++ true ∷ [])) ≡ length before + 1 = ap length whole ∙ length-append before (true ∷ []) in
    let same : take k (r.text ++ (replicate zeros false ++ true ∷ [])) ≡ take k before = ap (take k) whole ∙ take-append-le k before (true ∷ []) (omega arith) in
    FewZeros-no_eol before (take k before) (drop k before) (with_zeros old mid zeros r) (subst EndsWithEol same ends) (sym (take-append-drop k before))

-- The front, once 11 zeros, a 1 and the tag were passed.
pub IsFront-from : (coding : Coding) (tag : Bool) (old mid last new : Place) (zeros : ℕ) → FrontSoFar old mid → Passes mid last (replicate zeros false ++ true ∷ []) → 11 ≤ zeros
    → (text : List Bool) × IsTag coding tag text × Passes last new text → (front : List Bool) × IsFront coding tag front × Passes old new front
IsFront-from coding tag old mid last new zeros r p enough (text, is, q) =
    let front : List Bool = r.text ++ (replicate zeros false ++ true ∷ []) in (
      front ++ text,
      record { front = front; tag_text = text; text_is = refl; ends = front_ends r.text zeros enough; shortest = front_shortest old mid zeros r; is_tag = is },
      Passes-then old last new front text (Passes-then old mid last r.text (replicate zeros false ++ true ∷ []) r.passes p) q,
    )

-- There is no EOL where only zeros are left.
pub no_front : (old mid new : Place) (zeros : ℕ) → FrontSoFar old mid → Passes mid new (replicate zeros false) → length new.left < 1
    → (coding : Coding) → HoldsNoTaggedEol coding old.left
no_front old mid new zeros r p none coding tag before tag_text rest is e =
    let bits : old.left ≡ r.text ++ replicate zeros false = r.passes.bits ∙ ap (λ b. r.text ++ b) (only_zeros mid new zeros p none) in
    let whole : r.text ++ replicate zeros false ≡ (before ++ end_of_line) ++ (tag_text ++ rest) = sym bits ∙ e ∙ sym (append_assoc before end_of_line (tag_text ++ rest)) in
    FewZeros-no_eol (r.text ++ replicate zeros false) (before ++ end_of_line) (tag_text ++ rest) (with_zeros old mid zeros r) (before, refl) whole

-- what begins bits that end with one more bit, and leaves some of them, begins the bits without it
front_before : (front rest before : List Bool) (b : Bool) → 0 < length rest → front ++ rest ≡ before ++ b ∷ [] → take (length front) before ≡ front
front_before front rest before b some e =
    let size : length front + length rest ≡ length before + 1 = sym (length-append front rest) ∙ ap length e ∙ length-append before (b ∷ []) in
    sym (take-append-le (length front) before (b ∷ []) (omega arith)) ∙ ap (take (length front)) (sym e) ∙ take-append-le (length front) front rest (omega arith) ∙ take_all (length front) front (omega arith)

-- Nor is there one with its tag where nothing is left after the first EOL, and its tag is missing.
pub no_tag : (old mid new : Place) (zeros : ℕ) → FrontSoFar old mid → Passes mid new (replicate zeros false ++ true ∷ [])
    → (coding : Coding) → (coding ≡ Mr) × (new.left ≡ []) → HoldsNoTaggedEol coding old.left
no_tag old mid new zeros r p coding (mr, none) tag front tag_text rest is e =
    let before : List Bool = r.text ++ replicate zeros false in
    let begin : List Bool = front ++ end_of_line in
    let bits : old.left ≡ before ++ true ∷ [] =
    r.passes.bits ∙ ap (λ b. r.text ++ b) (p.bits ∙ ap (λ b. (replicate zeros false ++ true ∷ []) ++ b) none ∙ append-nil (replicate zeros false ++ true ∷ []))
    ∙ sym (append_assoc r.text (replicate zeros false) (true ∷ [])) in
    let tagged : tag_text ≡ tag ∷ [] = subst (λ (c : Coding). IsTag c tag tag_text) mr is in
    let whole : begin ++ (tag ∷ rest) ≡ before ++ true ∷ [] =
    ap (λ b. begin ++ (b ++ rest)) (sym tagged) ∙ append_assoc front end_of_line (tag_text ++ rest) ∙ sym e ∙ bits in
    let begins : take (length begin) before ≡ begin = front_before begin (tag ∷ rest) before true (omega arith) whole in
    FewZeros-no_eol before begin (drop (length begin) before) (with_zeros old mid zeros r) (front, refl)
    (sym (take-append-drop (length begin) before) ∙ ap (λ b. b ++ drop (length begin) before) begins)

-- ---- a tag

-- a word of one bit
pub one_bit : (w : ℕ) → w < 2 ^ 1 → word_bits 1 w ≡ (w == 1) ∷ []
unfolding bit word_bits
one_bit zero lt = refl
one_bit (suc zero) lt = refl
one_bit (suc (suc w)) lt = absurd (omega arith)

-- A separator, once 11 zeros, a 1 and the tag were passed.
pub IsSeparator-from : (coding : Coding) (tag : Bool) (old last new : Place) (zeros : ℕ) → Passes old last (replicate zeros false ++ true ∷ []) → 11 ≤ zeros
    → (text : List Bool) × IsTag coding tag text × Passes last new text → (separator : List Bool) × IsSeparator coding tag separator × Passes old new separator
IsSeparator-from coding tag old last new zeros p enough (text, is, q) = (
  (replicate zeros false ++ true ∷ []) ++ text,
  (zeros, text, enough, is, append_assoc (replicate zeros false) (true ∷ []) text),
  Passes-then old last new (replicate zeros false ++ true ∷ []) text p q,
)
