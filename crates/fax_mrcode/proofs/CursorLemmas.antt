-- b1 and b2 by the changing places of the reference.
use Rattle.std.proofs.Common.{◌≡◌, ℕ, zero, suc, ◌+◌, ◌-◌, ◌%◌, ◌<◌, ◌≤◌, Bool, true, false, ◌&&◌, List, Contains, IsTrue, length, get_or, slice_index, slice_index_or, refl, sym, ◌∙◌, ap, ap₂, arith, inl, inr, leb}
use Rattle.std.proofs.lemmas.List.{get_or_default, get_or_past}
use Rattle.std.proofs.lemmas.Bool.{cases_eq, cases_lt, and_parts, le-leb, lt-leb}
use Rattle.std.specs.List.Sorted.{IsStrictlyIncreasing, IsPartitionPoint}
use Rattle.fax_runcodes.specs.declared.Colour.{Colour}
use Rattle.fax_runcodes.specs.declared.Colour.TheVariants.{White, Black}
use Rattle.fax_runcodes.specs.Rows.{Elements, other, differ, colour_at, colour_before, is_changing, first_place}
use Rattle.fax_runcodes.specs.Painted.{painted, AreRising, colour_after_changes}
use Rattle.fax_runcodes.proofs.PaintedLemmas.{after_even, after_odd, length-painted_all}
use Rattle.fax_runcodes.proofs.ChangesOfRow.{rising_strictly, painted-count, painted_are_changes}
use Rattle.fax_mrcode.specs.Places.{b1, b2}
use Rattle.fax_mrcode.specs.Starts.{IsCursor, IsIndexOfB1}
use Rattle.fax_mrcode.proofs.PlaceLemmas.{IsFirst, first_place_is, first_place_past, differ_true}

-- ---- colours
pub other_apart : (colour : Colour) → other colour ≡ colour → ⊥
other_apart White e = cc
other_apart Black e = cc

pub other_twice : (colour : Colour) → other (other colour) ≡ colour
other_twice White = refl
other_twice Black = refl

other_one : (a b : Colour) → other a ≡ other b → a ≡ b
other_one a b e = sym (other_twice a) ∙ ap other e ∙ other_twice b

differ_other : (colour : Colour) → differ (other colour) colour ≡ true
differ_other White = refl
differ_other Black = refl

pub colour_after-more : (n : ℕ) → colour_after_changes (n + 1) ≡ other (colour_after_changes n)
colour_after-more n = elim (cases_eq (n % 2) 0) [
  | inl even ↦ after_odd (n + 1) (λ h. omega arith) ∙ ap other (sym (after_even n even))
  | inr odd ↦ after_even (n + 1) (omega arith) ∙ ap other (sym (after_odd n odd))
]

pub colour_after-two : (n : ℕ) → colour_after_changes (n + 2) ≡ colour_after_changes n
colour_after-two n =
    let two : n + 2 ≡ n + 1 + 1 = omega arith in
    ap colour_after_changes two ∙ colour_after-more (n + 1) ∙ ap other (colour_after-more n) ∙ other_twice (colour_after_changes n)

-- ---- the cursor
pub IsCursor-first : (changes : List ℕ) → IsCursor changes White 0 0
IsCursor-first changes = record { parity = refl; passed = λ k lt. absurd (omega arith); few = omega arith }

-- past a change that lies no further right than a0
pub IsCursor-more : (changes : List ℕ) (colour : Colour) (from index : ℕ) → IsCursor changes colour from index
    → index < length changes → slice_index changes index < from → IsCursor changes colour from (index + 2)
IsCursor-more changes colour from index c within here = record {
  parity = colour_after-two index ∙ c.parity;
  passed = λ k lt inside same. elim (cases_lt k index) [
    | inl below ↦ c.passed k below inside same
    | inr from_here ↦ elim (cases_eq k index) [
      | inl at ↦ rw at here
      | inr apart ↦
          let next : k ≡ index + 1 = omega arith in
          absurd (other_apart colour (sym (ap colour_after_changes next ∙ colour_after-more index ∙ ap other c.parity) ∙ same))
    ]
  ];
  few = omega arith;
}

-- a0 further right
pub IsCursor-right : (changes : List ℕ) (colour : Colour) (from right index : ℕ) → from ≤ right → IsCursor changes colour from index → IsCursor changes colour right index
IsCursor-right changes colour from right index le c = record {
  parity = c.parity;
  passed = λ k lt inside same. (let left : slice_index changes k < from = c.passed k lt inside same in omega arith);
  few = c.few;
}

-- ---- rising places
rising_pairs : (ps : List ℕ) → IsStrictlyIncreasing ps → (k d : ℕ) → k + d + 1 < length ps → slice_index ps k < slice_index ps (k + d + 1)
rising_pairs ps r k zero within =
    let place : k + 0 ≡ k = omega arith in
    rw place (r k (omega arith))
rising_pairs ps r k (suc d) within =
    let one : slice_index ps k < slice_index ps (k + d + 1) = rising_pairs ps r k d (omega arith) in
    let two : slice_index ps (k + d + 1) < slice_index ps (k + d + 1 + 1) = r (k + d + 1) (omega arith) in
    let place : k + suc d ≡ k + d + 1 = omega arith in
    rw place (omega arith)

pub rising_below : (ps : List ℕ) (end k j : ℕ) → AreRising 0 ps end → k < j → j < length ps → slice_index ps k < slice_index ps j
rising_below ps end k j r lt within =
    let d : ℕ = j - k - 1 in
    let place : k + d + 1 ≡ j = omega arith in
    let pair : slice_index ps k < slice_index ps (k + d + 1) = rising_pairs ps (rising_strictly ps end r) k d (omega arith) in
    rw place at pair

pub rising_up_to : (ps : List ℕ) (end k j : ℕ) → AreRising 0 ps end → k ≤ j → j < length ps → slice_index ps k ≤ slice_index ps j
rising_up_to ps end k j r le within = elim (cases_eq k j) [
  | inl same ↦ rw same (omega arith)
  | inr apart ↦ let lt : slice_index ps k < slice_index ps j = rising_below ps end k j r (omega arith) within in omega arith
]

-- a1 at b1 or right of it: the next change
pub IsCursor-on : (ps : List ℕ) (end : ℕ) (colour : Colour) (from index next : ℕ) → AreRising 0 ps end → IsCursor ps colour from index → index < length ps
    → from ≤ next → slice_index ps index < next → IsCursor ps (other colour) next (index + 1)
IsCursor-on ps end colour from index next r c inside low here = record {
  parity = colour_after-more index ∙ ap other c.parity;
  passed = λ k lt within same. (
      let before : slice_index ps k ≤ slice_index ps index = rising_up_to ps end k index r (omega arith) inside in
      omega arith);
  few = omega arith;
}

-- a1 left of b1: the change before it, which may lie right of a1
pub IsCursor-back : (ps : List ℕ) (end : ℕ) (colour : Colour) (from index next : ℕ) → AreRising 0 ps end → IsCursor ps colour from index → 0 < index
    → from ≤ next → IsCursor ps (other colour) next (index - 1)
IsCursor-back ps end colour from index next r c some low =
    let back : index - 1 + 1 ≡ index = omega arith in
    let parity : colour_after_changes (index - 1) ≡ other colour = other_one (colour_after_changes (index - 1)) (other colour) (sym (colour_after-more (index - 1)) ∙ ap colour_after_changes back ∙ c.parity ∙ sym (other_twice colour)) in
    record {
      parity = parity;
      passed = λ k lt within same. elim (cases_lt (k + 1) (length ps)) [
        | inl inside ↦
            let one : slice_index ps k < slice_index ps (k + 1) = rising_below ps end k (k + 1) r (omega arith) inside in
            let colour_is : colour_after_changes (k + 1) ≡ colour = colour_after-more k ∙ ap other same ∙ other_twice colour in
            let two : slice_index ps (k + 1) < from = c.passed (k + 1) (omega arith) inside colour_is in
            omega arith
        | inr past ↦
            let few : index ≤ length ps + 1 = c.few in
            let near : k + 1 ≡ index - 1 = omega arith in
            absurd (other_apart (other colour) (sym (colour_after-more k ∙ ap other same) ∙ ap colour_after_changes near ∙ parity))
      ];
      few = omega (arith, c.few);
    }

-- a1 left of the first change: the second, as the first is of the other kind
pub IsCursor-second : (ps : List ℕ) (colour : Colour) (from next : ℕ) → IsCursor ps colour from 0 → IsCursor ps (other colour) next 1
IsCursor-second ps colour from next c = record {
  parity = colour_after-more 0 ∙ ap other c.parity;
  passed = λ k lt within same. (
      let none : k ≡ 0 = omega arith in
      absurd (other_apart colour (sym (ap colour_after_changes (sym none) ∙ same) ∙ c.parity)));
  few = omega arith;
}

-- ---- places of the reference

-- of first places there is one
first_one : (test : ℕ → Bool) (from end p q : ℕ) → IsFirst test from end p → IsFirst test from end q → p ≡ q
first_one test from end p q f g = elim (cases_eq p q) [
  | inl same ↦ same
  | inr apart ↦ elim (cases_lt p q) [
    | inl left ↦
        let no : test p ≡ false = g.none p f.low left in
        let high : q ≤ end = g.high in
        let yes : test p ≡ true = f.found (omega arith) in
        cc
    | inr right ↦
        let no : test q ≡ false = f.none q g.low (omega arith) in
        let high : p ≤ end = f.high in
        let yes : test q ≡ true = g.found (omega arith) in
        cc
  ]
]

false_if : (b : Bool) → (b ≡ true → ⊥) → b ≡ false
false_if true h = absurd (h refl)
false_if false h = refl

both_true : (a b : Bool) → a ≡ true → b ≡ true → (a && b) ≡ true
both_true true b p q = q
both_true false b p q = absurd (cc)

module _ (ps : List ℕ) (width : ℕ) (rising : AreRising 0 ps width) where
  pub size : length (painted White 0 ps width) ≡ width
  size = length-painted_all ps width rising

  -- a changing place lies within the width, and is changing
  place_is : (j : ℕ) → j < length ps → (slice_index ps j < width) × (is_changing (painted White 0 ps width) (slice_index ps j) ≡ true)
  place_is j inside =
      let at : (slice_index ps j < length (painted White 0 ps width)) × IsTrue (is_changing (painted White 0 ps width) (slice_index ps j)) =
      ((painted_are_changes ps width rising).all (slice_index ps j)).0 (j, inside, get_or_default ps j (slice_index ps j) 0 inside) in
      (omega (arith, size), at.1)

  -- and each changing place is one of them
  index_of : (place : ℕ) → place < width → is_changing (painted White 0 ps width) place ≡ true → (j : ℕ) × (j < length ps) × (slice_index ps j ≡ place)
  index_of place below is =
      let at : Contains ps place = ((painted_are_changes ps width rising).all place).1 (omega (arith, size), is) in
      (at.0, at.1, get_or_default ps at.0 0 place at.1 ∙ at.2)

  pub place_le : (j : ℕ) → slice_index_or ps j width ≤ width
  place_le j = elim (cases_lt j (length ps)) [
    | inl inside ↦
        let here : slice_index_or ps j width ≡ slice_index ps j = get_or_default ps j width 0 inside in
        let is = place_is j inside in
        omega (arith, is.0)
    | inr past ↦ let here : slice_index_or ps j width ≡ width = get_or_past ps j width past in omega arith
  ]

  -- b1 and b2 lie right of a0
  pub b1_right : (colour : Colour) (from index : ℕ) → from ≤ width → IsIndexOfB1 ps colour from index → from ≤ slice_index_or ps index width
  b1_right colour from index le at = elim (cases_lt index (length ps)) [
    | inl inside ↦
        let here : slice_index_or ps index width ≡ slice_index ps index = get_or_default ps index width 0 inside in
        let right : from ≤ slice_index ps index = at.right inside in
        omega arith
    | inr past ↦ let here : slice_index_or ps index width ≡ width = get_or_past ps index width past in omega arith
  ]

  pub b2_right : (colour : Colour) (from index : ℕ) → from ≤ width → IsIndexOfB1 ps colour from index → from ≤ slice_index_or ps (index + 1) width
  b2_right colour from index le at = elim (cases_lt (index + 1) (length ps)) [
    | inl inside ↦
        let here : slice_index_or ps (index + 1) width ≡ slice_index ps (index + 1) = get_or_default ps (index + 1) width 0 inside in
        let right : from ≤ slice_index ps index = at.right (omega arith) in
        let order : slice_index ps index < slice_index ps (index + 1) = rising_below ps width index (index + 1) rising (omega arith) inside in
        omega arith
    | inr past ↦ let here : slice_index_or ps (index + 1) width ≡ width = get_or_past ps (index + 1) width past in omega arith
  ]

  -- after a change the colour is the other one
  colour_at_change : (j : ℕ) → j < length ps → colour_at (painted White 0 ps width) (slice_index ps j) ≡ other (colour_after_changes j)
  colour_at_change j inside =
      let point : IsPartitionPoint (λ p. leb p (slice_index ps j) ≡ true) (λ p. leb p (slice_index ps j) ≡ false) ps (j + 1) = (
        λ k d low high. (
            let le : slice_index ps k ≤ slice_index ps j = rising_up_to ps width k j rising (omega arith) inside in
            let same : get_or ps k d ≡ slice_index ps k = get_or_default ps k d 0 (omega arith) in
            le-leb (get_or ps k d) (slice_index ps j) (omega arith)),
        λ k d low high. (
            let lt : slice_index ps j < slice_index ps k = rising_below ps width j k rising (omega arith) high in
            let same : get_or ps k d ≡ slice_index ps k = get_or_default ps k d 0 high in
            lt-leb (get_or ps k d) (slice_index ps j) (omega arith)),
      ) in
      painted-count ps width (slice_index ps j) (j + 1) White rising (place_is j inside).0 (omega arith) point ∙ colour_after-more j

  -- the first change from a place on, of those that change the colour
  first_change : (colour : Colour) (from index : ℕ) → from ≤ width → IsIndexOfB1 ps colour from index
      → IsFirst (λ place. is_changing (painted White 0 ps width) place && differ (colour_at (painted White 0 ps width) place) colour) from width (slice_index_or ps index width)
  first_change colour from index le at =
      let kept : (k : ℕ) → from ≤ k → k < slice_index_or ps index width → k < width → (is_changing (painted White 0 ps width) k && differ (colour_at (painted White 0 ps width) k) colour) ≡ true → ⊥ =
      λ k low left below yes. (
      let parts = and_parts (is_changing (painted White 0 ps width) k) (differ (colour_at (painted White 0 ps width) k) colour) yes in
      let j : (j : ℕ) × (j < length ps) × (slice_index ps j ≡ k) = index_of k below parts.0 in
      let after : colour_at (painted White 0 ps width) k ≡ other colour = differ_true (colour_at (painted White 0 ps width) k) colour parts.1 in
      let same : colour_after_changes j.0 ≡ colour = other_one (colour_after_changes j.0) colour (sym (colour_at_change j.0 j.1) ∙ ap (colour_at (painted White 0 ps width)) j.2 ∙ after) in
      elim (cases_lt j.0 index) [
        | inl before ↦ let passed : slice_index ps j.0 < from = at.cursor.passed j.0 before j.1 same in omega (arith, j.2)
        | inr after_it ↦
            let order : slice_index ps index ≤ slice_index ps j.0 = rising_up_to ps width index j.0 rising after_it j.1 in
            let here : slice_index_or ps index width ≡ slice_index ps index = get_or_default ps index width 0 (omega (arith, j.1)) in
            omega (arith, j.2)
      ]) in
      elim (cases_lt index (length ps)) [
        | inl inside ↦
            let here : slice_index_or ps index width ≡ slice_index ps index = get_or_default ps index width 0 inside in
            let is = place_is index inside in
            let right : from ≤ slice_index ps index = at.right inside in
            let there : colour_at (painted White 0 ps width) (slice_index ps index) ≡ other colour = colour_at_change index inside ∙ ap other at.cursor.parity in
            record {
              low = omega arith;
              high = omega (arith, is.0);
              none = λ k low left. false_if (is_changing (painted White 0 ps width) k && differ (colour_at (painted White 0 ps width) k) colour) (kept k low left (omega (arith, is.0)));
              found = λ lt. rw here (both_true (is_changing (painted White 0 ps width) (slice_index ps index)) (differ (colour_at (painted White 0 ps width) (slice_index ps index)) colour) is.1 (ap (λ c. differ c colour) there ∙ differ_other colour));
            }
        | inr past ↦
            let here : slice_index_or ps index width ≡ width = get_or_past ps index width past in
            record {
              low = omega arith;
              high = omega arith;
              none = λ k low left. false_if (is_changing (painted White 0 ps width) k && differ (colour_at (painted White 0 ps width) k) colour) (kept k low left (omega arith));
              found = λ lt. absurd (omega arith);
            }
      ]

  pub b1_is : (row : Elements) (colour : Colour) (from index : ℕ) → length row ≡ width → colour_before row from ≡ colour → from ≤ width → IsIndexOfB1 ps colour from index
      → b1 (painted White 0 ps width) row from ≡ slice_index_or ps index width
  unfolding b1
  b1_is row colour from index wide same le at =
      ap₂ (λ (c : Colour) (n : ℕ). first_place (λ place. is_changing (painted White 0 ps width) place && differ (colour_at (painted White 0 ps width) place) c) from n) same wide
      ∙ first_one (λ place. is_changing (painted White 0 ps width) place && differ (colour_at (painted White 0 ps width) place) colour) from width
      (first_place (λ place. is_changing (painted White 0 ps width) place && differ (colour_at (painted White 0 ps width) place) colour) from width) (slice_index_or ps index width)
      (first_place_is (λ place. is_changing (painted White 0 ps width) place && differ (colour_at (painted White 0 ps width) place) colour) from width le)
      (first_change colour from index le at)

  -- the change after one
  next_change : (index : ℕ) → index < length ps → IsFirst (is_changing (painted White 0 ps width)) (slice_index ps index + 1) width (slice_index_or ps (index + 1) width)
  next_change index inside =
      let kept : (k : ℕ) → slice_index ps index + 1 ≤ k → k < slice_index_or ps (index + 1) width → k < width → is_changing (painted White 0 ps width) k ≡ true → ⊥ =
      λ k low left below yes. (
      let j : (j : ℕ) × (j < length ps) × (slice_index ps j ≡ k) = index_of k below yes in
      elim (cases_lt index j.0) [
        | inl later ↦
            let order : slice_index ps (index + 1) ≤ slice_index ps j.0 = rising_up_to ps width (index + 1) j.0 rising (omega arith) j.1 in
            let here : slice_index_or ps (index + 1) width ≡ slice_index ps (index + 1) = get_or_default ps (index + 1) width 0 (omega (arith, j.1)) in
            omega (arith, j.2)
        | inr no_later ↦
            let order : slice_index ps j.0 ≤ slice_index ps index = rising_up_to ps width j.0 index rising no_later inside in
            omega (arith, j.2)
      ]) in
      elim (cases_lt (index + 1) (length ps)) [
        | inl more ↦
            let here : slice_index_or ps (index + 1) width ≡ slice_index ps (index + 1) = get_or_default ps (index + 1) width 0 more in
            let is = place_is (index + 1) more in
            let lt : slice_index ps index < slice_index ps (index + 1) = rising_below ps width index (index + 1) rising (omega arith) more in
            record {
              low = omega arith;
              high = omega (arith, is.0);
              none = λ k low left. false_if (is_changing (painted White 0 ps width) k) (kept k low left (omega (arith, is.0)));
              found = λ below. rw here is.1;
            }
        | inr last ↦
            let here : slice_index_or ps (index + 1) width ≡ width = get_or_past ps (index + 1) width last in
            let is = place_is index inside in
            record {
              low = omega (arith, is.0);
              high = omega arith;
              none = λ k low left. false_if (is_changing (painted White 0 ps width) k) (kept k low left (omega arith));
              found = λ below. absurd (omega arith);
            }
      ]

  pub b2_is : (row : Elements) (colour : Colour) (from index : ℕ) → length row ≡ width → colour_before row from ≡ colour → from ≤ width → IsIndexOfB1 ps colour from index
      → b2 (painted White 0 ps width) row from ≡ slice_index_or ps (index + 1) width
  unfolding b2
  b2_is row colour from index wide same le at =
      let first : b1 (painted White 0 ps width) row from ≡ slice_index_or ps index width = b1_is row colour from index wide same le at in
      let places : first_place (is_changing (painted White 0 ps width)) (b1 (painted White 0 ps width) row from + 1) (length row) ≡ first_place (is_changing (painted White 0 ps width)) (slice_index_or ps index width + 1) width =
      ap₂ (λ (p n : ℕ). first_place (is_changing (painted White 0 ps width)) (p + 1) n) first wide in
      elim (cases_lt index (length ps)) [
        | inl inside ↦
            let here : slice_index_or ps index width ≡ slice_index ps index = get_or_default ps index width 0 inside in
            let is = place_is index inside in
            places ∙ ap (λ (p : ℕ). first_place (is_changing (painted White 0 ps width)) (p + 1) width) here
            ∙ first_one (is_changing (painted White 0 ps width)) (slice_index ps index + 1) width (first_place (is_changing (painted White 0 ps width)) (slice_index ps index + 1) width) (slice_index_or ps (index + 1) width)
            (first_place_is (is_changing (painted White 0 ps width)) (slice_index ps index + 1) width (omega (arith, is.0)))
            (next_change index inside)
        | inr past ↦
            let here : slice_index_or ps index width ≡ width = get_or_past ps index width past in
            places ∙ first_place_past (is_changing (painted White 0 ps width)) (slice_index_or ps index width + 1) width (omega arith) ∙ sym (get_or_past ps (index + 1) width (omega arith))
      ]
