-- The changing places of a row, and the colour at a place by them.
use Rattle.std.proofs.Common.{◌≡◌, ◌≢◌, ℕ, zero, suc, ◌+◌, ◌-◌, ◌<◌, ◌≤◌, true, false, cond, ltb, leb, inl, inr, List, [], ◌∷◌, ◌++◌, length, get_or, take, replicate, Contains, IsTrue, ◌↔◌, refl, sym, ◌∙◌, ap, arith}
use Rattle.std.specs.List.{AllWithin}
use Rattle.std.specs.List.Sorted.{IsStrictlyIncreasing, IsNonDecreasingBy, IsPartitionPoint}
use Rattle.std.proofs.lemmas.List.{get_or-replicate, get_or_append_left, get_or-append_right, length-replicate, length-take-le}
use Rattle.std.proofs.lemmas.List.Sorted.{IsNonDecreasingBy-from_all_adjacent}
use Rattle.std.proofs.lemmas.Bool.{cases_lt, cases_eq, lt-ltb, le-ltb, leb-true, leb-false, false≢true}
use Rattle.fax_runcodes.specs.declared.Colour.{Colour}
use Rattle.fax_runcodes.specs.declared.Colour.TheVariants.{White, Black}
use Rattle.fax_runcodes.specs.Rows.{other, differ, colour_at, is_changing, AreChanges}
use Rattle.fax_runcodes.specs.Painted.{painted, AreRising, colour_after_changes}
use Rattle.fax_runcodes.proofs.PaintedLemmas.{rising_le, rising_lower, length-painted_all, colour_then, colour_after_white}

-- ---- rising places

-- they lie from the first possible place on, and before the end
rising_contains : (from : ℕ) (ps : List ℕ) (end place : ℕ) → AreRising from ps end → Contains ps place → (from ≤ place) × (place < end)
unfolding AreRising
rising_contains from [] end place r (k, within, e) = absurd (omega arith)
rising_contains from (p ∷ ps) end place r (zero, within, e) =
    let past : p + 1 ≤ end = rising_le (p + 1) ps end r.1 in
    let here : from ≤ p = r.0 in
    let same : p ≡ place = e in
    (omega arith, omega arith)
rising_contains from (p ∷ ps) end place r (suc k, within, e) =
    let rest : (p + 1 ≤ place) × (place < end) = rising_contains (p + 1) ps end place r.1 (k, omega arith, e) in
    let here : from ≤ p = r.0 in
    (omega arith, rest.1)

-- each is below the next
rising_next : (from : ℕ) (ps : List ℕ) (end k d : ℕ) → AreRising from ps end → k + 1 < length ps → get_or ps k d < get_or ps (k + 1) d
unfolding AreRising
rising_next from [] end k d r within = absurd (omega arith)
rising_next from (p ∷ []) end k d r within = absurd (omega arith)
rising_next from (p ∷ q ∷ ps) end zero d r within = let next : p + 1 ≤ q = r.1.0 in omega arith
rising_next from (p ∷ q ∷ ps) end (suc k) d r within =
    let rest : get_or (q ∷ ps) k d < get_or (q ∷ ps) (k + 1) d = rising_next (p + 1) (q ∷ ps) end k d r.1 (omega arith) in
    let e : suc k + 1 ≡ suc (k + 1) = omega arith in
    rw e rest

pub rising_strictly : (ps : List ℕ) (end : ℕ) → AreRising 0 ps end → IsStrictlyIncreasing ps
rising_strictly ps end r k within = rising_next 0 ps end k 0 r within

pub rising_in_order : (ps : List ℕ) (end : ℕ) → AreRising 0 ps end → IsNonDecreasingBy (λ y. y) ps
rising_in_order ps end r = IsNonDecreasingBy-from_all_adjacent (λ (y : ℕ). y) ps (λ k d within. let below : get_or ps k d < get_or ps (k + 1) d = rising_next 0 ps end k d r within in omega arith)

-- ---- the colour at a place

-- after the changes that lie no further right
colour_in : Colour → List ℕ → ℕ → Colour
colour_in colour [] place = colour
colour_in colour (p ∷ ps) place = cond (ltb place p) colour (colour_in (other colour) ps place)

colour_in-left : (colour : Colour) (p : ℕ) (ps : List ℕ) (place : ℕ) → place < p → colour_in colour (p ∷ ps) place ≡ colour
unfolding colour_in
colour_in-left colour p ps place left = let t : ltb place p ≡ true = lt-ltb place p left in ap (λ b. cond b colour (colour_in (other colour) ps place)) t

colour_in-right : (colour : Colour) (p : ℕ) (ps : List ℕ) (place : ℕ) → p ≤ place → colour_in colour (p ∷ ps) place ≡ colour_in (other colour) ps place
unfolding colour_in
colour_in-right colour p ps place right = let t : ltb place p ≡ false = le-ltb place p right in ap (λ b. cond b colour (colour_in (other colour) ps place)) t

colour_in-before : (colour : Colour) (from : ℕ) (ps : List ℕ) (end place : ℕ) → AreRising from ps end → place < from → colour_in colour ps place ≡ colour
unfolding colour_in AreRising
colour_in-before colour from [] end place r left = refl
colour_in-before colour from (p ∷ ps) end place r left = let here : from ≤ p = r.0 in colour_in-left colour p ps place (omega arith)

painted_at : (colour : Colour) (from : ℕ) (ps : List ℕ) (end i : ℕ) (d : Colour) → AreRising from ps end → from + i < end
    → get_or (painted colour from ps end) i d ≡ colour_in colour ps (from + i)
unfolding painted AreRising colour_in
painted_at colour from [] end i d r within = get_or-replicate (end - from) i colour d (omega arith)
painted_at colour from (p ∷ ps) end i d r within =
    let here : from ≤ p = r.0 in
    let size : length (replicate (p - from) colour) ≡ p - from = length-replicate (p - from) colour in
    elim (cases_lt i (p - from)) [
      | inl left ↦
          let first : get_or (replicate (p - from) colour ++ painted (other colour) p ps end) i d ≡ get_or (replicate (p - from) colour) i d =
          get_or_append_left (replicate (p - from) colour) (painted (other colour) p ps end) d i (omega arith) in
          first ∙ get_or-replicate (p - from) i colour d left ∙ sym (colour_in-left colour p ps (from + i) (omega arith))
      | inr right ↦
          let later : get_or (replicate (p - from) colour ++ painted (other colour) p ps end) i d ≡ get_or (painted (other colour) p ps end) (i - (p - from)) d =
          get_or-append_right (replicate (p - from) colour) (painted (other colour) p ps end) (p - from) i d size right in
          let rest : get_or (painted (other colour) p ps end) (i - (p - from)) d ≡ colour_in (other colour) ps (p + (i - (p - from))) =
          painted_at (other colour) p ps end (i - (p - from)) d (rising_lower (p + 1) p ps end (omega arith) r.1) (omega arith) in
          let place : p + (i - (p - from)) ≡ from + i = omega arith in
          later ∙ rest ∙ ap (colour_in (other colour) ps) place ∙ sym (colour_in-right colour p ps (from + i) (omega arith))
    ]

painted_all_at : (ps : List ℕ) (end i : ℕ) (d : Colour) → AreRising 0 ps end → i < end → get_or (painted White 0 ps end) i d ≡ colour_in White ps i
painted_all_at ps end i d r within = let place : 0 + i ≡ i = omega arith in painted_at White 0 ps end i d r (omega arith) ∙ ap (colour_in White ps) place

-- ---- the changing ones

pub differ-same : (colour : Colour) → differ colour colour ≡ false
differ-same White = refl
differ-same Black = refl

differ-other : (colour : Colour) → differ (other colour) colour ≡ true
differ-other White = refl
differ-other Black = refl

Contains-here : (x : ℕ) (xs : List ℕ) (y : ℕ) → x ≡ y → Contains (x ∷ xs) y
Contains-here x xs y e = (0, omega arith, e)

Contains-later : (x : ℕ) (xs : List ℕ) (y : ℕ) → Contains xs y → Contains (x ∷ xs) y
Contains-later x xs y (k, within, e) = (suc k, omega arith, e)

Contains-not_here : (x : ℕ) (xs : List ℕ) (y : ℕ) → x ≢ y → Contains (x ∷ xs) y → Contains xs y
Contains-not_here x xs y ne (zero, within, e) = absurd (ne e)
Contains-not_here x xs y ne (suc k, within, e) = (k, omega arith, e)

Contains-none : (y : ℕ) → Contains {X = ℕ} [] y → ⊥
Contains-none y (k, within, e) = omega arith

-- where the colour differs from that at the place before, and only there, is a change
changes_between_places : (colour : Colour) (from : ℕ) (ps : List ℕ) (end place : ℕ) → AreRising from ps end
    → Contains ps (suc place) ↔ IsTrue (differ (colour_in colour ps (suc place)) (colour_in colour ps place))
unfolding AreRising colour_in
changes_between_places colour from [] end place r = (λ h. absurd (Contains-none (suc place) h), λ h. let none = differ-same colour in cc)
changes_between_places colour from (p ∷ ps) end place r =
    elim (cases_lt (suc place) p) [
      | inl left ↦
          let now = colour_in-left colour p ps (suc place) left in
          let before = colour_in-left colour p ps place (omega arith) in (
            λ h. let at : (p ≤ suc place) × (suc place < end) = rising_contains p (p ∷ ps) end (suc place) (omega arith, r.1) h in absurd (omega arith),
            λ h. let none = differ-same colour in cc,
          )
      | inr right ↦ elim (cases_eq p (suc place)) [
        | inl same ↦
            let now = colour_in-right colour p ps (suc place) right in
            let other = colour_in-before (other colour) (p + 1) ps end (suc place) r.1 (omega arith) in
            let before = colour_in-left colour p ps place (omega arith) in
            (λ h. let yes = differ-other colour in cc, λ h. Contains-here p ps (suc place) same)
        | inr ne ↦
            let now = colour_in-right colour p ps (suc place) right in
            let before = colour_in-right colour p ps place (omega arith) in
            let rest = changes_between_places (other colour) (p + 1) ps end place r.1 in
            (λ h. rw (now, before) (rest.0 (Contains-not_here p ps (suc place) ne h)), λ h. Contains-later p ps (suc place) (rest.1 (rw (now, before) at h)))
      ]
    ]

changes_at_first : (ps : List ℕ) (end : ℕ) → AreRising 0 ps end → Contains ps 0 ↔ IsTrue (differ (colour_in White ps 0) White)
unfolding AreRising colour_in
changes_at_first [] end r = (λ h. absurd (Contains-none 0 h), λ h. cc)
changes_at_first (zero ∷ ps) end r =
    let now = colour_in-right White 0 ps 0 (omega arith) in
    let other = colour_in-before Black 1 ps end 0 r.1 (omega arith) in
    (λ h. rw (now, other) refl, λ h. Contains-here 0 ps 0 refl)
changes_at_first (suc p ∷ ps) end r =
    let now = colour_in-left White (suc p) ps 0 (omega arith) in
    (λ h. let at : (suc p ≤ 0) × (0 < end) = rising_contains (suc p) (suc p ∷ ps) end 0 (omega arith, r.1) h in absurd (omega arith), λ h. absurd (false≢true (rw now at h)))

-- a place is one of the changing places exactly where the painted row has a changing element there
painted_changes : (ps : List ℕ) (end place : ℕ) → AreRising 0 ps end → place < end → Contains ps place ↔ IsTrue (is_changing (painted White 0 ps end) place)
painted_changes ps end zero r within =
    let now : colour_at (painted White 0 ps end) 0 ≡ colour_in White ps 0 = painted_all_at ps end 0 White r within in
    let at : Contains ps 0 ↔ IsTrue (differ (colour_in White ps 0) White) = changes_at_first ps end r in
    (λ h. rw now (at.0 h), λ h. at.1 (rw now at h))
painted_changes ps end (suc place) r within =
    let now : colour_at (painted White 0 ps end) (suc place) ≡ colour_in White ps (suc place) = painted_all_at ps end (suc place) White r within in
    let before : colour_at (painted White 0 ps end) place ≡ colour_in White ps place = painted_all_at ps end place White r (omega arith) in
    let at : Contains ps (suc place) ↔ IsTrue (differ (colour_in White ps (suc place)) (colour_in White ps place)) = changes_between_places White 0 ps end place r in
    (λ h. rw (now, before) (at.0 h), λ h. at.1 (rw (now, before) at h))

-- the places that paint a row are its changing places
pub painted_are_changes : (ps : List ℕ) (end : ℕ) → AreRising 0 ps end → AreChanges ps (painted White 0 ps end)
painted_are_changes ps end r = record {
  rising = rising_strictly ps end r;
  all = λ place.
      let size : length (painted White 0 ps end) ≡ end = length-painted_all ps end r in (
        λ h.
            let within : (0 ≤ place) × (place < end) = rising_contains 0 ps end place r h in
            (omega arith, (painted_changes ps end place r within.1).0 h),
        λ h. (painted_changes ps end place r (omega (arith, h.0))).1 h.1,
      );
}

-- ---- the colour by the number of changes no further right

colour_in-count : (colour : Colour) (ps : List ℕ) (place n : ℕ) → AllWithin (λ p. p ≤ place) ps 0 n → AllWithin (λ p. place < p) ps n (length ps)
    → colour_in colour ps place ≡ colour_then colour (take n ps)
unfolding colour_in
colour_in-count colour [] place zero some more = refl
colour_in-count colour [] place (suc n) some more = refl
colour_in-count colour (p ∷ ps) place zero some more = let left : place < p = more 0 0 (omega arith) (omega arith) in colour_in-left colour p ps place left
colour_in-count colour (p ∷ ps) place (suc n) some more =
    let right : p ≤ place = some 0 0 (omega arith) (omega arith) in
    colour_in-right colour p ps place right
    ∙ colour_in-count (other colour) ps place n (λ k d low high. some (suc k) d (omega arith) (omega arith)) (λ k d low high. more (suc k) d (omega arith) (omega arith))

pub painted-count : (ps : List ℕ) (end place n : ℕ) (d : Colour) → AreRising 0 ps end → place < end → n ≤ length ps
    → IsPartitionPoint (λ p. leb p place ≡ true) (λ p. leb p place ≡ false) ps n → get_or (painted White 0 ps end) place d ≡ colour_after_changes n
painted-count ps end place n d r within few point =
    painted_all_at ps end place d r within
    ∙ colour_in-count White ps place n (λ k e low high. leb-true (get_or ps k e) place (point.0 k e low high)) (λ k e low high. leb-false (get_or ps k e) place (point.1 k e low high))
    ∙ colour_after_white (take n ps)
    ∙ ap colour_after_changes (length-take-le n ps few)
