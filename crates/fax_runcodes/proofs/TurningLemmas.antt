-- Elements that turn at places after the changes so far.
use Rattle.std.proofs.Common.{◌≡◌, ℕ, zero, suc, ◌+◌, ◌-◌, ◌<◌, ◌≤◌, List, [], ◌∷◌, ◌++◌, length, take, drop, replicate, slice_index_or, get_or, Contains, IsTrue, refl, sym, ◌∙◌, ap, subst, arith, inl, inr, take_at, append-nil}
use Rattle.std.proofs.lemmas.Bool.{cases_lt, cases_eq, false≢true}
use Rattle.std.proofs.lemmas.List.{get_or-drop, get_or-replicate, take-append-drop, drop_at}
use Rattle.std.proofs.Math.Seq.{take-length}
use Rattle.fax_runcodes.specs.declared.Colour.{Colour}
use Rattle.fax_runcodes.specs.declared.Colour.TheVariants.{White}
use Rattle.fax_runcodes.specs.Rows.{Elements, other, colour_at, colour_before, is_changing}
use Rattle.fax_runcodes.specs.Painted.{painted, AreRising}
use Rattle.fax_runcodes.proofs.PaintedLemmas.{colour_then, rising_le, rising_lower, rising_join, painted-extend, painted-join, painted-turn, length-painted_all}
use Rattle.fax_runcodes.proofs.ChangesOfRow.{painted_are_changes, differ-same}

-- rising places that all lie before one rise up to it
rising_up_to : (from : ℕ) (ps : List ℕ) (end place : ℕ) → AreRising from ps end → from ≤ place → ((p : ℕ) → Contains ps p → p < place) → AreRising from ps place
unfolding AreRising
rising_up_to from [] end place r le before = le
rising_up_to from (p ∷ ps) end place r le before = (
  r.0,
  rising_up_to (p + 1) ps end place r.1 (let here : p < place = before p (0, omega arith, refl) in omega arith) (λ q (k, within, e). before q (suc k, omega arith, e)),
)

-- ---- elements that have one colour from a place on
module _ (ps : List ℕ) (end place : ℕ) (rising : AreRising 0 ps end) (low : place < length (painted White 0 ps end)) where
  abbrev pub row : Elements
  row = painted White 0 ps end

  size : length row ≡ end
  size = length-painted_all ps end rising

  within : place < end
  within = omega (arith, size)

  module _ (same_colour : drop place row ≡ replicate (length row - place) (colour_before row place)) where
    same : drop place row ≡ replicate (end - place) (colour_before row place)
    same = same_colour ∙ ap (λ (n : ℕ). replicate (n - place) (colour_before row place)) size

    abbrev pub colour : Colour
    colour = colour_before row place

    here : (k : ℕ) → place ≤ k → k < end → colour_at row k ≡ colour
    here k low high =
        let sum : place + (k - place) ≡ k = omega arith in
        sym (ap (colour_at row) sum) ∙ sym (get_or-drop place row (k - place) White) ∙ ap (λ (es : Elements). colour_at es (k - place)) same
        ∙ get_or-replicate (end - place) (k - place) colour White (omega (arith, within))

    -- the element before one of them has their colour too
    before_here : (k : ℕ) → place ≤ k → k < end → colour_before row k ≡ colour
    before_here zero low high = let none : place ≡ 0 = omega arith in ap (colour_before row) (sym none)
    before_here (suc k) low high = elim (cases_eq place (suc k)) [
      | inl at ↦ ap (colour_before row) (sym at)
      | inr apart ↦ here k (omega arith) (omega arith)
    ]

    -- so none of the changes lies there
    changes_before : (p : ℕ) → Contains ps p → p < place
    changes_before p there =
        let at : (p < length row) × IsTrue (is_changing row p) = ((painted_are_changes ps end rising).all p).0 there in
        elim (cases_lt p place) [
          | inl left ↦ left
          | inr right ↦
              let one = here p right (omega (arith, size, at.0)) in
              let two = before_here p right (omega (arith, size, at.0)) in
              absurd (false≢true (sym (differ-same colour) ∙ (rw (one, two) at at.1)))
        ]

    pub changes_rise : AreRising 0 ps place
    changes_rise = rising_up_to 0 ps end place rising (omega arith) changes_before

    parts : row ≡ painted White 0 ps place ++ replicate (end - place) (colour_then White ps)
    parts =
        let sum : place + (end - place) ≡ end = omega (arith, within) in
        ap (λ (n : ℕ). painted White 0 ps n) (sym sum) ∙ painted-extend White 0 ps place (end - place) changes_rise

    pub in_front : take place row ≡ painted White 0 ps place
    in_front = ap (take place) parts ∙ take_at (painted White 0 ps place) (replicate (end - place) (colour_then White ps)) place (length-painted_all ps place changes_rise)

    pub colour_is : colour_then White ps ≡ colour_before row place
    colour_is =
        let rest : drop place row ≡ replicate (end - place) (colour_then White ps) =
        ap (drop place) parts ∙ drop_at (painted White 0 ps place) (replicate (end - place) (colour_then White ps)) place (length-painted_all ps place changes_rise) in
        sym (get_or-replicate (end - place) 0 (colour_then White ps) White (omega (arith, within)))
        ∙ ap (λ (es : Elements). colour_at es 0) (sym rest ∙ same)
        ∙ get_or-replicate (end - place) 0 colour White (omega (arith, within))

    -- the changes and more after them
    pub turned : (qs : List ℕ) → painted White 0 (ps ++ place ∷ qs) end ≡ take place row ++ painted (other (colour_before row place)) place qs end
    turned qs =
        painted-turn White 0 ps place qs end
        ∙ ap (λ (es : Elements). es ++ painted (other (colour_then White ps)) place qs end) (sym in_front)
        ∙ ap (λ (c : Colour). take place row ++ painted (other c) place qs end) colour_is

    pub turned_rise : (qs : List ℕ) → AreRising (place + 1) qs end → AreRising 0 (ps ++ place ∷ qs) end
    unfolding AreRising
    turned_rise qs r = rising_join 0 ps place (place ∷ qs) end changes_rise (omega arith, r)

    pub turned_one : painted White 0 (ps ++ place ∷ []) end ≡ take place row ++ replicate (length row - place) (other (colour_before row place))
    unfolding painted
    turned_one = turned [] ∙ ap (λ (n : ℕ). take place row ++ replicate (n - place) (other (colour_before row place))) (sym size)

    pub turned_one_rises : AreRising 0 (ps ++ place ∷ []) end
    unfolding AreRising
    turned_one_rises = turned_rise [] (omega (arith, within))

-- ---- at several places
pub record Turned (ps places : List ℕ) (end : ℕ) : Type 0 where
  pub rising : AreRising 0 (ps ++ places) end
  pub row_is : let row : Elements = painted White 0 ps end in
      let first : ℕ = slice_index_or places 0 (length row) in
      painted White 0 (ps ++ places) end ≡ take first row ++ painted (colour_before row first) first places (length row)

pub turned_at_all : (ps places : List ℕ) (end : ℕ) → AreRising 0 ps end → AreRising 0 places (length (painted White 0 ps end))
    → (let row : Elements = painted White 0 ps end in
    let first : ℕ = slice_index_or places 0 (length row) in
    drop first row ≡ replicate (length row - first) (colour_before row first))
    → Turned ps places end
unfolding painted AreRising
turned_at_all ps [] end r s same =
    let row : Elements = painted White 0 ps end in
    let none : length row - length row ≡ 0 = omega arith in
    record {
      rising = rw append-nil r;
      row_is = rw (append-nil, none, take-length, append-nil) refl;
    }
turned_at_all ps (p ∷ qs) end r s same =
    let row : Elements = painted White 0 ps end in
    let size : length row ≡ end = length-painted_all ps end r in
    let past : p + 1 ≤ length row = rising_le (p + 1) qs (length row) s.1 in
    let none : p - p ≡ 0 = omega arith in
    record {
      rising = turned_rise ps end p r (omega arith) same qs (subst (λ (n : ℕ). AreRising (p + 1) qs n) size s.1);
      row_is = rw none (turned ps end p r (omega arith) same qs ∙ ap (λ (n : ℕ). take p row ++ painted (other (colour_before row p)) p qs n) (sym size));
    }

-- ---- fewer elements

-- rising places from an index on
pub rising_after : (from : ℕ) (ps : List ℕ) (end i : ℕ) → AreRising from ps end → AreRising from (drop i ps) end
unfolding AreRising
rising_after from ps end zero r = r
rising_after from [] end (suc i) r = r
rising_after from (p ∷ ps) end (suc i) r = let here : from ≤ p = r.0 in rising_lower (p + 1) from (drop i ps) end (omega arith) (rising_after (p + 1) ps end i r.1)

-- the changes before a place paint the elements before it
pub shortened : (ps : List ℕ) (end n i : ℕ) → AreRising 0 (take i ps) n → AreRising n (drop i ps) end → painted White 0 (take i ps) n ≡ take n (painted White 0 ps end)
shortened ps end n i r s =
    let join : painted White 0 (take i ps ++ drop i ps) end ≡ painted White 0 (take i ps) n ++ painted (colour_then White (take i ps)) n (drop i ps) end = painted-join White 0 (take i ps) n (drop i ps) end r s in
    let whole : take i ps ++ drop i ps ≡ ps = take-append-drop i ps in
    sym (take_at (painted White 0 (take i ps) n) (painted (colour_then White (take i ps)) n (drop i ps) end) n (length-painted_all (take i ps) n r))
    ∙ ap (take n) (sym join ∙ ap (λ (qs : List ℕ). painted White 0 qs end) whole)

-- rising places as far as one before a place
rising_take : (from : ℕ) (ps : List ℕ) (end i n : ℕ) → i < length ps → get_or ps i 0 < n → AreRising from ps end → AreRising from (take (suc i) ps) n
unfolding AreRising
rising_take from [] end i n within below r = absurd (omega arith)
rising_take from (p ∷ ps) end zero n within below r = (r.0, omega arith)
rising_take from (p ∷ ps) end (suc i) n within below r = (r.0, rising_take (p + 1) ps end i n (omega arith) below r.1)

pub rising_below : (ps : List ℕ) (end i n : ℕ) → i ≤ length ps → (0 < i → get_or ps (i - 1) 0 < n) → AreRising 0 ps end → AreRising 0 (take i ps) n
unfolding AreRising
rising_below ps end zero n within below r = omega arith
rising_below ps end (suc i) n within below r =
    let last : suc i - 1 ≡ i = omega arith in
    rising_take 0 ps end i n (omega arith) (subst (λ (k : ℕ). get_or ps k 0 < n) last (below (omega arith))) r
