-- Long fill means nothing by the number of its zeros.
use Rattle.std.proofs.Common.{◌≡◌, ◌↔◌, ℕ, zero, suc, ◌+◌, ◌*◌, ◌≤◌, false, List, [], ◌∷◌, ◌++◌, Option, Some, None, replicate, refl, sym, ◌∙◌, ap, subst, arith, inl, inr, append_assoc, append-nil}
use Rattle.std.proofs.lemmas.List.{replicate-append-replicate}
use Rattle.std.proofs.lemmas.Bool.{cases_lt}
use Rattle.fax_bits.specs.Bits.{bits_of}
use Rattle.fax_bits.proofs.BitsLemmas.{bits_of-nil, bits_of-cons, bits_of-append, word_bits-zero}
use Rattle.fax_runcodes.specs.declared.format.Coding.{Coding}
use Rattle.fax_runcodes.specs.Rows.{Elements}
use Rattle.fax_pagestore.specs.declared.fault.PageFault.{PageFault}
use Rattle.fax_pagestore.specs.PageTexts.{MeansRows}
use Rattle.fax_pagestore.specs.PageFaults.{FailsPage}
use Rattle.fax_pagestore.specs.Fill.{zeros_with, kept_octet, less_fill}
use Rattle.fax_pagestore.specs.PageLaws.{FillIsFree}
use Rattle.fax_pagestore.specs.Readers.{AreJudged}
use Rattle.fax_pagestore.proofs.FillLemmas.{less_fill-none, kept-some, kept-none, zeros-some, zeros-more, zeros-most}
use Rattle.fax_pagestore.proofs.AlikePages.{DifferOnce, DifferOnce-swap, MeansRows-alike, FailsPage-alike}

-- ---- one octet of zeros more

zero_octets : (n : ℕ) → bits_of (replicate n 0) ≡ replicate (8 * n) false
zero_octets zero = bits_of-nil
zero_octets (suc n) =
    let size : 8 + 8 * n ≡ 8 * suc n = omega arith in
    bits_of-cons 0 (replicate n 0) ∙ ap (λ w. w ++ bits_of (replicate n 0)) (word_bits-zero 8) ∙ ap (λ b. replicate 8 false ++ b) (zero_octets n)
    ∙ replicate-append-replicate 8 (8 * n) false ∙ ap (λ k. replicate k false) size

-- the bits of octets of zeros between others
bits_between : (before after : List ℕ) (n : ℕ) → bits_of ((before ++ replicate n 0) ++ after) ≡ bits_of before ++ (replicate (8 * n) false ++ bits_of after)
bits_between before after n =
    ap bits_of (append_assoc before (replicate n 0) after) ∙ bits_of-append before (replicate n 0 ++ after)
    ∙ ap (λ b. bits_of before ++ b) (bits_of-append (replicate n 0) after ∙ ap (λ b. b ++ bits_of after) (zero_octets n))

-- octets end with so many of zeros
abbrev EndWithZeros : ℕ → List ℕ → Type 0
EndWithZeros n octets = (before : List ℕ) × (octets ≡ before ++ replicate n 0)

one_more : (n : ℕ) (before after octets : List ℕ) → 4 ≤ n → octets ≡ before ++ replicate n 0 → DifferOnce (bits_of (octets ++ after)) (bits_of (octets ++ 0 ∷ after))
one_more n before after octets many e =
    let more : octets ++ 0 ∷ after ≡ (before ++ replicate (n + 1) 0) ++ after =
    sym (append_assoc octets (0 ∷ []) after) ∙ ap (λ os. (os ++ 0 ∷ []) ++ after) e
    ∙ ap (λ os. os ++ after) (append_assoc before (replicate n 0) (0 ∷ []) ∙ ap (λ os. before ++ os) (replicate-append-replicate n 1 0)) in
    inr (record {
      before = bits_of before;
      m = 8 * n;
      n = 8 * (n + 1);
      rest = bits_of after;
      many = omega (arith, many);
      as_many = omega (arith, many);
      a_is = ap (λ os. bits_of (os ++ after)) e ∙ bits_between before after n;
      b_is = ap bits_of more ∙ bits_between before after (n + 1);
    })

-- ---- all of them

-- what holds of octets, whatever the number of zeros of long fill
abbrev IsFree : (List ℕ → Type 0) → Type 0
IsFree Holds = (octets others : List ℕ) → DifferOnce (bits_of octets) (bits_of others) → Holds octets → Holds others

swap : (octets others : List ℕ) → DifferOnce (bits_of octets) (bits_of others) → DifferOnce (bits_of others) (bits_of octets)
swap octets others differ = DifferOnce-swap (bits_of octets) (bits_of others) differ

abbrev IsSame : (List ℕ → Type 0) → List ℕ → List ℕ → Type 0
IsSame Holds octets others = Holds octets ↔ Holds others

-- an octet that is kept
one_kept : (Holds : List ℕ → Type 0) (octet : ℕ) (octets front : List ℕ) (count : ℕ) → kept_octet count octet ≡ octet ∷ []
    → IsSame Holds ((front ++ octet ∷ []) ++ less_fill (zeros_with count octet) octets) ((front ++ octet ∷ []) ++ octets)
    → IsSame Holds (front ++ less_fill count (octet ∷ octets)) (front ++ octet ∷ octets)
unfolding less_fill
one_kept Holds octet octets front count is same =
    let less : List ℕ = less_fill (zeros_with count octet) octets in
    let a : front ++ less_fill count (octet ∷ octets) ≡ (front ++ octet ∷ []) ++ less = ap (λ os. front ++ (os ++ less)) is ∙ sym (append_assoc front (octet ∷ []) less) in
    let b : front ++ octet ∷ octets ≡ (front ++ octet ∷ []) ++ octets = sym (append_assoc front (octet ∷ []) octets) in
    subst (λ os. IsSame Holds os (front ++ octet ∷ octets)) (sym a) (subst (IsSame Holds ((front ++ octet ∷ []) ++ less)) (sym b) same)

-- an octet of zeros that is not
one_dropped : (Holds : List ℕ → Type 0) → IsFree Holds → (octets front before : List ℕ) (count : ℕ) → 4 ≤ count → front ≡ before ++ replicate count 0
    → IsSame Holds (front ++ less_fill count octets) (front ++ octets) → IsSame Holds (front ++ less_fill count (0 ∷ octets)) (front ++ 0 ∷ octets)
unfolding less_fill
one_dropped Holds free octets front before count many e same =
    let differ = one_more count before octets front many e in
    let less : less_fill count (0 ∷ octets) ≡ less_fill count octets =
    ap (λ os. os ++ less_fill (zeros_with count 0) octets) (kept-none count 0 refl many) ∙ ap (λ z. less_fill z octets) (sym (zeros-most count 0 refl many)) in (
      λ holds. free (front ++ octets) (front ++ 0 ∷ octets) differ (same.0 (subst (λ os. Holds (front ++ os)) less holds)),
      λ holds. subst (λ os. Holds (front ++ os)) (sym less) (same.1 (free (front ++ 0 ∷ octets) (front ++ octets) (swap (front ++ octets) (front ++ 0 ∷ octets) differ) holds)),
    )

-- after octets with so many of zeros at their end
same_after : (Holds : List ℕ → Type 0) → IsFree Holds → (octets front : List ℕ) (count : ℕ) → EndWithZeros count front → IsSame Holds (front ++ less_fill count octets) (front ++ octets)
same_after Holds free [] front count ends =
    let e : front ++ less_fill count [] ≡ front ++ [] = ap (λ os. front ++ os) (less_fill-none count) in
    (subst Holds e, subst Holds (sym e))
same_after Holds free (suc n ∷ octets) front count ends =
    let more : List ℕ = front ++ suc n ∷ [] in
    let some : suc n ≡ 0 → ⊥ = λ e. omega (arith, e) in
    one_kept Holds (suc n) octets front count (kept-some count (suc n) (λ e. absurd (some e)))
    (same_after Holds free octets more (zeros_with count (suc n)) (subst (λ z. EndWithZeros z more) (zeros-some count (suc n) some) (more, sym (append-nil more))))
same_after Holds free (zero ∷ octets) front count (before, e) = elim (cases_lt count 4) [
  | inl few ↦
      let more : List ℕ = front ++ 0 ∷ [] in
      let ends : more ≡ before ++ replicate (count + 1) 0 =
      ap (λ os. os ++ 0 ∷ []) e ∙ append_assoc before (replicate count 0) (0 ∷ []) ∙ ap (λ os. before ++ os) (replicate-append-replicate count 1 0) in
      one_kept Holds 0 octets front count (kept-some count 0 (λ _. few))
      (same_after Holds free octets more (zeros_with count 0) (subst (λ z. EndWithZeros z more) (zeros-more count 0 refl few) (before, ends)))
  | inr many ↦ one_dropped Holds free octets front before count many e (same_after Holds free octets front count (before, e))
]

pub fill_is_free : FillIsFree
fill_is_free width coding octets = (
  λ rows. same_after (λ os. MeansRows width coding os rows) (λ os others differ. MeansRows-alike width coding os others rows differ) octets [] 0 ([], refl),
  λ fault. same_after (λ os. FailsPage width coding os fault) (λ os others differ. FailsPage-alike width coding os others fault differ) octets [] 0 ([], refl),
)

-- So octets are what they are without long fill.
pub judged_with_fill : (coding : Coding) (width : ℕ) (octets : List ℕ) (rows : List Elements) (fault : Option PageFault)
    → AreJudged coding width (less_fill 0 octets) rows fault → AreJudged coding width octets rows fault
judged_with_fill coding width octets rows None means = ((fill_is_free width coding octets).0 rows).0 means
judged_with_fill coding width octets rows (Some fault) fails = ((fill_is_free width coding octets).1 fault).0 fails
