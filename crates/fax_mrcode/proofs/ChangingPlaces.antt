-- The places of a coding step by the changing places of both lines. The changing place of an index is
-- `get_or places index width`: the width where there is none.
use Rattle.std.proofs.Common.{◌≡◌, ℕ, zero, suc, ◌+◌, ◌%◌, ◌<◌, ◌≤◌, Bool, true, false, ◌&&◌, leb, List, [], ◌∷◌, length, get_or, Contains, refl, sym, ◌∙◌, ap, subst, arith, inl, inr, ◌⊎◌}
use Rattle.std.specs.List.Sorted.{IsPartitionPoint}
use Rattle.std.proofs.lemmas.Bool.{cases_eq, cases_lt, cases_Bool, and_left, and_right, and_from, le-leb, lt-leb, false_from_ne_true}
use Rattle.std.proofs.lemmas.List.{get_or_default, get_or_past}
use Rattle.fax_runcodes.specs.declared.Colour.{Colour}
use Rattle.fax_runcodes.specs.declared.Colour.TheVariants.{White, Black}
use Rattle.fax_runcodes.specs.Rows.{Elements, AreChanges, other, differ, colour_at, colour_before, is_changing, first_place}
use Rattle.fax_runcodes.specs.Painted.{painted, AreRising, colour_after_changes}
use Rattle.fax_runcodes.proofs.PaintedLemmas.{rising_le, length-painted_all, after_even, after_odd}
use Rattle.fax_runcodes.proofs.ChangesOfRow.{painted-count, painted_are_changes}
use Rattle.fax_mrcode.specs.Places.{a1, a2, b1, b2}
use Rattle.fax_mrcode.proofs.PlaceLemmas.{IsFirst, first_place_is, first_place_past}

-- ---- a first place

-- two places that are the first are one
IsFirst-one : (test : ℕ → Bool) (from end p q : ℕ) → IsFirst test from end p → IsFirst test from end q → p ≡ q
IsFirst-one test from end p q first second = elim (cases_eq p q) [
  | inl same ↦ same
  | inr apart ↦ elim (cases_lt p q) [
    | inl left ↦
        let here : test p ≡ true = first.found (omega (arith, second.high)) in
        let none : test p ≡ false = second.none p first.low left in
        cc
    | inr right ↦
        let here : test q ≡ true = second.found (omega (arith, first.high)) in
        let none : test q ≡ false = first.none q second.low (omega arith) in
        cc
  ]
]

pub first_place-is : (test : ℕ → Bool) (from end place : ℕ) → IsFirst test from end place → first_place test from end ≡ place
first_place-is test from end place first =
    IsFirst-one test from end (first_place test from end) place (first_place_is test from end (omega (arith, first.low, first.high))) first

-- ---- places that rise

places_from : (from : ℕ) (ps : List ℕ) (end i : ℕ) → AreRising from ps end → from ≤ get_or ps i end
unfolding AreRising
places_from from [] end i r = r
places_from from (p ∷ ps) end zero r = r.0
places_from from (p ∷ ps) end (suc i) r =
    let here : from ≤ p = r.0 in
    omega (arith, places_from (p + 1) ps end i r.1)

places_within : (from : ℕ) (ps : List ℕ) (end i : ℕ) → AreRising from ps end → get_or ps i end ≤ end
unfolding AreRising
places_within from [] end i r = omega arith
places_within from (p ∷ ps) end zero r = let past : p + 1 ≤ end = rising_le (p + 1) ps end r.1 in omega arith
places_within from (p ∷ ps) end (suc i) r = places_within (p + 1) ps end i r.1

places_inside : (from : ℕ) (ps : List ℕ) (end i : ℕ) → AreRising from ps end → i < length ps → get_or ps i end < end
unfolding AreRising
places_inside from [] end i r within = absurd (omega arith)
places_inside from (p ∷ ps) end zero r within = let past : p + 1 ≤ end = rising_le (p + 1) ps end r.1 in omega arith
places_inside from (p ∷ ps) end (suc i) r within = places_inside (p + 1) ps end i r.1 (omega arith)

places_apart : (from : ℕ) (ps : List ℕ) (end i k : ℕ) → AreRising from ps end → i < length ps → i < k → get_or ps i end < get_or ps k end
unfolding AreRising
places_apart from [] end i k r within less = absurd (omega arith)
places_apart from (p ∷ ps) end i zero r within less = absurd (omega arith)
places_apart from (p ∷ ps) end zero (suc k) r within less = omega (arith, places_from (p + 1) ps end k r.1)
places_apart from (p ∷ ps) end (suc i) (suc k) r within less = places_apart (p + 1) ps end i k r.1 (omega arith) (omega arith)

-- ---- colours by the number of changes

pub other-other : (colour : Colour) → other (other colour) ≡ colour
other-other White = refl
other-other Black = refl

differ-same : (colour : Colour) → differ colour colour ≡ false
differ-same White = refl
differ-same Black = refl

differ-other : (colour : Colour) → differ (other colour) colour ≡ true
differ-other White = refl
differ-other Black = refl

pub same_or_other : (a b : Colour) → (a ≡ b) ⊎ (a ≡ other b)
same_or_other White White = inl refl
same_or_other White Black = inr refl
same_or_other Black White = inr refl
same_or_other Black Black = inl refl

pub colour_after-next : (n : ℕ) → colour_after_changes (n + 1) ≡ other (colour_after_changes n)
colour_after-next n = elim (cases_eq (n % 2) 0) [
  | inl even ↦ after_odd (n + 1) (λ h. omega arith) ∙ ap other (sym (after_even n even))
  | inr odd ↦ after_even (n + 1) (omega arith) ∙ ap other (sym (after_odd n odd))
]

-- ---- a row by its changing places

module _ (ps : List ℕ) (end : ℕ) (r : AreRising 0 ps end) where
  pub place_within : (i : ℕ) → get_or ps i end ≤ end
  place_within i = places_within 0 ps end i r

  pub place_inside : (i : ℕ) → i < length ps → get_or ps i end < end
  place_inside i within = places_inside 0 ps end i r within

  pub place_past : (i : ℕ) → length ps ≤ i → get_or ps i end ≡ end
  place_past i past = get_or_past ps i end past

  -- where a place lies left of the end, there is one
  pub place_there : (i : ℕ) → get_or ps i end < end → i < length ps
  place_there i left = elim (cases_lt i (length ps)) [
    | inl within ↦ within
    | inr past ↦ let at_end : get_or ps i end ≡ end = place_past i past in absurd (omega arith)
  ]

  -- a later place lies further right, unless both are the end
  pub place_apart : (i k : ℕ) → get_or ps i end < end → i < k → get_or ps i end < get_or ps k end
  place_apart i k left less = places_apart 0 ps end i k r (place_there i left) less

  pub place_order : (i k : ℕ) → i ≤ k → get_or ps i end ≤ get_or ps k end
  place_order i k le = elim (cases_lt i (length ps)) [
    | inl within ↦ elim (cases_eq i k) [
      | inl same ↦ rw same (omega arith)
      | inr apart ↦ omega (arith, places_apart 0 ps end i k r within (omega arith))
    ]
    | inr past ↦ omega (arith, place_past i past, place_past k (omega arith))
  ]

  -- the colour at a place is that after the changes which lie no further right
  pub colour_at-count : (place n : ℕ) → ((k : ℕ) → k < n → get_or ps k end ≤ place) → place < get_or ps n end
      → colour_at (painted White 0 ps end) place ≡ colour_after_changes n
  colour_at-count place n below above =
      let inside : place < end = omega (arith, place_within n) in
      let few : n ≤ length ps = elim (cases_lt (length ps) n) [
        | inl past ↦ absurd (omega (arith, below (length ps) past, place_past (length ps) (omega arith)))
        | inr le ↦ le
      ] in
      let point : IsPartitionPoint (λ p. leb p place ≡ true) (λ p. leb p place ≡ false) ps n = (
        λ k d low high. rw (get_or_default ps k d end (omega arith)) (le-leb (get_or ps k end) place (below k high)),
        λ k d low high. rw (get_or_default ps k d end high) (lt-leb (get_or ps k end) place (omega (arith, place_order n k low))),
      ) in
      painted-count ps end place n White r inside few point

  -- a changing element lies at one of the places, and the other way round
  pub changing_place : (place : ℕ) → place < end → is_changing (painted White 0 ps end) place ≡ true → (k : ℕ) × (k < length ps) × (get_or ps k end ≡ place)
  changing_place place inside changing =
      let changes : AreChanges ps (painted White 0 ps end) = painted_are_changes ps end r in
      let size : length (painted White 0 ps end) ≡ end = length-painted_all ps end r in
      let at : Contains ps place = (changes.all place).1 (omega arith, changing) in
      (at.0, at.1, get_or_default ps at.0 end place at.1 ∙ at.2)

  pub place_changing : (i : ℕ) → get_or ps i end < end → is_changing (painted White 0 ps end) (get_or ps i end) ≡ true
  place_changing i left =
      let changes : AreChanges ps (painted White 0 ps end) = painted_are_changes ps end r in
      let within : i < length ps = place_there i left in
      ((changes.all (get_or ps i end)).0 (i, within, get_or_default ps i (get_or ps i end) end within)).1

  -- the colour at a changing place is that after it
  pub colour_at-place : (i : ℕ) → get_or ps i end < end → colour_at (painted White 0 ps end) (get_or ps i end) ≡ colour_after_changes (i + 1)
  colour_at-place i left = colour_at-count (get_or ps i end) (i + 1) (λ k less. place_order k i (omega arith)) (place_apart i (i + 1) left (omega arith))

-- ---- a1 and a2 of a coding line

-- So many of the row's changing places, those below an index, lie left of `from`, and no other does.
-- (At the end, where `from` is the width + 1, the index may be any past them.)
pub record IsRowIndex (ps : List ℕ) (end from index : ℕ) : Type 0 where
  pub below : (k : ℕ) → k < index → get_or ps k end < from
  pub above : from ≤ end → from ≤ get_or ps index end

module _ (row : Elements) (ps : List ℕ) (rising : AreRising 0 ps (length row)) (row_is : row ≡ painted White 0 ps (length row)) where
  row_colour : (place n : ℕ) → ((k : ℕ) → k < n → get_or ps k (length row) ≤ place) → place < get_or ps n (length row) → colour_at row place ≡ colour_after_changes n
  row_colour place n below above = ap (λ (es : Elements). colour_at es place) row_is ∙ colour_at-count ps (length row) rising place n below above

  -- the colour at a0
  pub colour_before-index : (from index : ℕ) → from ≤ length row → IsRowIndex ps (length row) from index → colour_before row from ≡ colour_after_changes index
  colour_before-index zero zero inside at = refl
  colour_before-index zero (suc index) inside at = absurd (omega (arith, at.below 0 (omega arith)))
  colour_before-index (suc place) index inside at = row_colour place index (λ k less. omega (arith, at.below k less)) (omega (arith, at.above inside))

  pub a1-index : (from index : ℕ) → from ≤ length row → IsRowIndex ps (length row) from index → a1 row from ≡ get_or ps index (length row)
  unfolding a1
  a1-index from index inside at =
      let colour : colour_before row from ≡ colour_after_changes index = colour_before-index from index inside at in
      first_place-is (λ place. differ (colour_at row place) (colour_before row from)) from (length row) (get_or ps index (length row)) (record {
        low = at.above inside;
        high = place_within ps (length row) rising index;
        none = λ k low high.
            let here : colour_at row k ≡ colour_after_changes index = row_colour k index (λ i less. omega (arith, at.below i less)) high in
            rw (here, colour) (differ-same (colour_after_changes index));
        found = λ left.
            let here : colour_at row (get_or ps index (length row)) ≡ colour_after_changes (index + 1) =
            row_colour (get_or ps index (length row)) (index + 1) (λ i less. place_order ps (length row) rising i index (omega arith)) (place_apart ps (length row) rising index (index + 1) left (omega arith)) in
            rw (here, colour, colour_after-next index) (differ-other (colour_after_changes index));
      })

  pub a2-index : (from index : ℕ) → from ≤ length row → IsRowIndex ps (length row) from index → a2 row from ≡ get_or ps (index + 1) (length row)
  unfolding a2
  a2-index from index inside at =
      let colour : colour_before row from ≡ colour_after_changes index = colour_before-index from index inside at in
      let first : a1 row from ≡ get_or ps index (length row) = a1-index from index inside at in
      elim (cases_lt (get_or ps index (length row)) (length row)) [
        | inl left ↦ first_place-is (λ place. differ (colour_at row place) (other (colour_before row from))) (a1 row from + 1) (length row) (get_or ps (index + 1) (length row)) (record {
          low = omega (arith, place_apart ps (length row) rising index (index + 1) left (omega arith));
          high = place_within ps (length row) rising (index + 1);
          none = λ k low high.
              let here : colour_at row k ≡ colour_after_changes (index + 1) = row_colour k (index + 1) (λ i less. omega (arith, place_order ps (length row) rising i index (omega arith))) high in
              rw (here, colour, colour_after-next index) (differ-same (other (colour_after_changes index)));
          found = λ more.
              let here : colour_at row (get_or ps (index + 1) (length row)) ≡ colour_after_changes (index + 1 + 1) =
              row_colour (get_or ps (index + 1) (length row)) (index + 1 + 1) (λ i less. place_order ps (length row) rising i (index + 1) (omega arith)) (place_apart ps (length row) rising (index + 1) (index + 1 + 1) more (omega arith)) in
              rw (here, colour, colour_after-next (index + 1), colour_after-next index) (differ-other (other (colour_after_changes index)));
        })
        | inr past ↦
            let end : get_or ps index (length row) ≡ length row = omega (arith, place_within ps (length row) rising index) in
            let later : get_or ps (index + 1) (length row) ≡ length row = omega (arith, place_within ps (length row) rising (index + 1), place_order ps (length row) rising index (index + 1) (omega arith)) in
            first_place_past (λ place. differ (colour_at row place) (other (colour_before row from))) (a1 row from + 1) (length row) (omega arith) ∙ sym later
      ]

-- ---- b1 and b2 of a reference line

-- An index of the reference line's changing places that change away from a colour: those before it
-- lie left of `from`.
pub record IsReferenceIndex (ps : List ℕ) (end from : ℕ) (colour : Colour) (index : ℕ) : Type 0 where
  pub turns : colour_after_changes index ≡ colour
  pub below : (k : ℕ) → k < index → colour_after_changes k ≡ colour → get_or ps k end < from

module _ (reference row : Elements) (ps : List ℕ) (rising : AreRising 0 ps (length row)) (reference_is : reference ≡ painted White 0 ps (length row)) where
  at_place : (i : ℕ) → get_or ps i (length row) < length row → colour_at reference (get_or ps i (length row)) ≡ colour_after_changes (i + 1)
  at_place i left = ap (λ (es : Elements). colour_at es (get_or ps i (length row))) reference_is ∙ colour_at-place ps (length row) rising i left

  changing_at : (i : ℕ) → get_or ps i (length row) < length row → is_changing reference (get_or ps i (length row)) ≡ true
  changing_at i left = ap (λ (es : Elements). is_changing es (get_or ps i (length row))) reference_is ∙ place_changing ps (length row) rising i left

  changing_index : (place : ℕ) → place < length row → is_changing reference place ≡ true → (k : ℕ) × (k < length ps) × (get_or ps k (length row) ≡ place)
  changing_index place inside changing = changing_place ps (length row) rising place inside (sym (ap (λ (es : Elements). is_changing es place) reference_is) ∙ changing)

  -- a changing element that lies left of a place of the index, and not left of `from`, has the colour
  not_away : (from index place : ℕ) (colour : Colour) → colour_before row from ≡ colour → IsReferenceIndex ps (length row) from colour index
      → from ≤ place → place < get_or ps index (length row) → is_changing reference place ≡ true → differ (colour_at reference place) (colour_before row from) ≡ false
  not_away from index place colour before at low high changing =
      let inside : place < length row = omega (arith, place_within ps (length row) rising index) in
      let found : (k : ℕ) × (k < length ps) × (get_or ps k (length row) ≡ place) = changing_index place inside changing in
      let less : found.0 < index = elim (cases_lt found.0 index) [
        | inl lt ↦ lt
        | inr le ↦ absurd (omega (arith, found.2, place_order ps (length row) rising index found.0 le))
      ] in
      let here : colour_at reference place ≡ colour_after_changes (found.0 + 1) = subst (λ k. colour_at reference k ≡ colour_after_changes (found.0 + 1)) found.2 (at_place found.0 (omega (arith, found.2))) in
      elim (same_or_other (colour_after_changes found.0) colour) [
        | inl same ↦ absurd (omega (arith, found.2, at.below found.0 less same))
        | inr away ↦
            let back : colour_at reference place ≡ colour = here ∙ colour_after-next found.0 ∙ ap other away ∙ other-other colour in
            rw (back, before) (differ-same colour)
      ]

  pub b1-index : (from index : ℕ) (colour : Colour) → colour_before row from ≡ colour → IsReferenceIndex ps (length row) from colour index
      → from ≤ get_or ps index (length row) → b1 reference row from ≡ get_or ps index (length row)
  unfolding b1
  b1-index from index colour before at above =
      first_place-is (λ place. is_changing reference place && differ (colour_at reference place) (colour_before row from)) from (length row) (get_or ps index (length row)) (record {
        low = above;
        high = place_within ps (length row) rising index;
        none = λ k low high. elim (cases_Bool (is_changing reference k)) [
          | inl changing ↦ and_right (is_changing reference k) (differ (colour_at reference k) (colour_before row from)) (not_away from index k colour before at low high changing)
          | inr not_changing ↦ and_left (is_changing reference k) (differ (colour_at reference k) (colour_before row from)) not_changing
        ];
        found = λ left.
            let here : colour_at reference (get_or ps index (length row)) ≡ other colour = at_place index left ∙ colour_after-next index ∙ ap other at.turns in
            let away : differ (colour_at reference (get_or ps index (length row))) (colour_before row from) ≡ true = rw (here, before) (differ-other colour) in
            and_from (is_changing reference (get_or ps index (length row))) (differ (colour_at reference (get_or ps index (length row))) (colour_before row from)) (changing_at index left) away;
      })

  pub b2-index : (from index : ℕ) → b1 reference row from ≡ get_or ps index (length row) → b2 reference row from ≡ get_or ps (index + 1) (length row)
  unfolding b2
  b2-index from index first = elim (cases_lt (get_or ps index (length row)) (length row)) [
    | inl left ↦ first_place-is (is_changing reference) (b1 reference row from + 1) (length row) (get_or ps (index + 1) (length row)) (record {
      low = omega (arith, place_apart ps (length row) rising index (index + 1) left (omega arith));
      high = place_within ps (length row) rising (index + 1);
      none = λ k low high. false_from_ne_true (is_changing reference k) (λ changing.
          let found : (i : ℕ) × (i < length ps) × (get_or ps i (length row) ≡ k) = changing_index k (omega (arith, place_within ps (length row) rising (index + 1))) changing in
          elim (cases_lt index found.0) [
            | inl later ↦ absurd (omega (arith, found.2, place_order ps (length row) rising (index + 1) found.0 (omega arith)))
            | inr le ↦ absurd (omega (arith, found.2, place_order ps (length row) rising found.0 index le))
          ]);
      found = λ more. changing_at (index + 1) more;
    })
    | inr past ↦
        let end : get_or ps index (length row) ≡ length row = omega (arith, place_within ps (length row) rising index) in
        let later : get_or ps (index + 1) (length row) ≡ length row = omega (arith, place_within ps (length row) rising (index + 1), place_order ps (length row) rising index (index + 1) (omega arith)) in
        first_place_past (is_changing reference) (b1 reference row from + 1) (length row) (omega arith) ∙ sym later
  ]
