-- Laws of two-dimensional lines: a row is written against a reference in some way, and in one only.
use Rattle.std.proofs.Common.{◌≡◌, ◌⊎◌, ℕ, zero, suc, ◌+◌, ◌-◌, ◌≤◌, Bool, ◌&&◌, List, [], ◌∷◌, ◌++◌, length, refl, sym, ◌∙◌, ap, subst, arith, inl, inr}
use Rattle.std.proofs.lemmas.Bool.{cases_eq, cases_lt}
use Rattle.fax_runcodes.specs.Rows.{Elements, differ, is_changing, colour_at, colour_before, first_place, other}
use Rattle.fax_runcodes.specs.Spelling.{written_run}
use Rattle.fax_mrcode.specs.declared.mode.Mode.{Mode}
use Rattle.fax_mrcode.specs.declared.mode.Mode.TheVariants.{Pass, Horizontal, Vertical}
use Rattle.fax_mrcode.specs.declared.mode.Offset.{Offset}
use Rattle.fax_mrcode.specs.declared.mode.Offset.TheVariants.{Left3, Left2, Left1, Zero, Right1, Right2, Right3}
use Rattle.fax_mrcode.specs.Modes.{mode_word, IsAt}
use Rattle.fax_mrcode.specs.Places.{a1, a2, b1, b2, run_start}
use Rattle.fax_mrcode.specs.Written.{WritesStep, WritesSteps, WritesLine}
use Rattle.fax_mrcode.proofs.PlaceLemmas.{IsFirst, first_place_is, first_place_past, IsA1, IsA2, a1_is, a2_is}

-- ---- in one way only

-- a place lies at one offset from another
offset_is_one : (o p : Offset) (a b : ℕ) → IsAt o a b → IsAt p a b → o ≡ p
offset_is_one Zero Zero a b h k = refl
offset_is_one Right1 Right1 a b h k = refl
offset_is_one Right2 Right2 a b h k = refl
offset_is_one Right3 Right3 a b h k = refl
offset_is_one Left1 Left1 a b h k = refl
offset_is_one Left2 Left2 a b h k = refl
offset_is_one Left3 Left3 a b h k = refl
offset_is_one o p a b h k = absurd (omega arith)

-- what two steps from one place have in common
record SameStep (m n : Mode) (s t : List Bool) (p q : ℕ) : Type 0 where
  mode : m ≡ n
  text : s ≡ t
  next : p ≡ q

-- One step is written from a place.
step_one : (reference row : Elements) (from : ℕ) (m n : Mode) (s t : List Bool) (p q : ℕ) → WritesStep reference row from m s p → WritesStep reference row from n t q
    → SameStep m n s t p q
step_one reference row from Pass Pass s t p q v w = record { mode = refl; text = v.1 ∙ sym w.1; next = v.2 ∙ sym w.2 }
step_one reference row from Pass Horizontal s t p q v w = absurd (omega (arith, v.0, w.0))
step_one reference row from Pass (Vertical o) s t p q v w = absurd (omega (arith, v.0, w.0))
step_one reference row from Horizontal Pass s t p q v w = absurd (omega (arith, v.0, w.0))
step_one reference row from Horizontal Horizontal s t p q v w = record { mode = refl; text = v.2 ∙ sym w.2; next = v.3 ∙ sym w.3 }
step_one reference row from Horizontal (Vertical o) s t p q v w = absurd (v.1 o w.1)
step_one reference row from (Vertical o) Pass s t p q v w = absurd (omega (arith, v.0, w.0))
step_one reference row from (Vertical o) Horizontal s t p q v w = absurd (w.1 o v.1)
step_one reference row from (Vertical o) (Vertical r) s t p q v w = record {
  mode = ap (λ (x : Offset). Vertical x) (offset_is_one o r (a1 row from) (b1 reference row from) v.1 w.1);
  text = v.2 ∙ sym w.2;
  next = v.3 ∙ sym w.3;
}

-- So are all steps from it.
steps_one : (reference row : Elements) (from to : ℕ) (ms ns : List Mode) (s t : List Bool) → from ≡ to → WritesSteps reference row from ms s → WritesSteps reference row to ns t → s ≡ t
steps_one reference row from to [] [] s t at v w = v.0 ∙ sym w.0
steps_one reference row from to [] (n ∷ ns) s t at v w = absurd (omega (arith, at, v.1, w.0))
steps_one reference row from to (m ∷ ms) [] s t at v w = absurd (omega (arith, at, v.0, w.1))
steps_one reference row from to (m ∷ ms) (n ∷ ns) s t at (inside, step, rest, next, e, v, more) (inside', step', rest', next', e', w, more') =
    let w' : WritesStep reference row from n step' next' = subst (λ k. WritesStep reference row k n step' next') (sym at) w in
    let same : SameStep m n step step' next next' = step_one reference row from m n step step' next next' v w' in
    let later : rest ≡ rest' = steps_one reference row (next + 1) (next' + 1) ms ns rest rest' (ap (λ k. k + 1) same.next) more more' in
    e
    ∙ ap (λ (k : Mode). mode_word k ++ step ++ rest) same.mode
    ∙ ap (λ (b : List Bool). mode_word n ++ b ++ rest) same.text
    ∙ ap (λ (b : List Bool). mode_word n ++ step' ++ b) later
    ∙ sym e'

-- A row is written against a reference in one way only.
pub written_line_one : (reference row : Elements) (text other : List Bool) → WritesLine reference row text → WritesLine reference row other → text ≡ other
written_line_one reference row text other v w = steps_one reference row 0 0 v.modes w.modes text other refl v.steps w.steps

-- ---- in some way

-- a1 lies at an offset from b1 or at none
has_offset : (a b : ℕ) → ((offset : Offset) × IsAt offset a b) ⊎ ((offset : Offset) → IsAt offset a b → ⊥)
has_offset a b = elim (cases_eq a b) [
  | inl e ↦ inl (Zero, e)
  | inr at_b1 ↦ elim (cases_eq a (b + 1)) [
    | inl e ↦ inl (Right1, e)
    | inr right1 ↦ elim (cases_eq a (b + 2)) [
      | inl e ↦ inl (Right2, e)
      | inr right2 ↦ elim (cases_eq a (b + 3)) [
        | inl e ↦ inl (Right3, e)
        | inr right3 ↦ elim (cases_eq (a + 1) b) [
          | inl e ↦ inl (Left1, e)
          | inr left1 ↦ elim (cases_eq (a + 2) b) [
            | inl e ↦ inl (Left2, e)
            | inr left2 ↦ elim (cases_eq (a + 3) b) [
              | inl e ↦ inl (Left3, e)
              | inr left3 ↦ inr (λ offset. elim offset as (λ o. IsAt o a b → ⊥) [
                | Zero ↦ at_b1
                | Right1 ↦ right1
                | Right2 ↦ right2
                | Right3 ↦ right3
                | Left1 ↦ left1
                | Left2 ↦ left2
                | Left3 ↦ left3
              ])
            ]
          ]
        ]
      ]
    ]
  ]
]

-- b1 and b2 don't lie left of a place right of a0
b1_low : (reference row : Elements) (from : ℕ) → from ≤ length row → from ≤ b1 reference row from
unfolding b1
b1_low reference row from le = IsFirst.low (first_place_is (λ place. is_changing reference place && differ (colour_at reference place) (colour_before row from)) from (length row) le)

b2_low : (reference row : Elements) (from : ℕ) → from ≤ length row → from ≤ b2 reference row from
unfolding b2
b2_low reference row from le = elim (cases_lt (b1 reference row from) (length row)) [
  | inl inside ↦ (
      let f : IsFirst (is_changing reference) (b1 reference row from + 1) (length row) (first_place (is_changing reference) (b1 reference row from + 1) (length row)) =
      first_place_is (is_changing reference) (b1 reference row from + 1) (length row) (omega arith) in
      omega (arith, f.low, b1_low reference row from le))
  | inr past ↦ (
      let e : first_place (is_changing reference) (b1 reference row from + 1) (length row) ≡ length row =
      first_place_past (is_changing reference) (b1 reference row from + 1) (length row) (omega arith) in
      omega (arith, e))
]

-- the step that is written from a place: it doesn't go back, nor past the width
record HasStep (reference row : Elements) (from : ℕ) : Type 0 where
  mode : Mode
  text : List Bool
  next : ℕ
  written : WritesStep reference row from mode text next
  on : from ≤ next
  inside : next ≤ length row

has_step-near : (reference row : Elements) (from : ℕ) → from ≤ length row → a1 row from ≤ b2 reference row from → HasStep reference row from
has_step-near reference row from le near =
    let first : IsA1 row from = a1_is row from le in
    let second : IsA2 row from = a2_is row from le in
    elim (has_offset (a1 row from) (b1 reference row from)) [
      | inl at ↦ record {
        mode = Vertical at.0;
        text = [];
        next = a1 row from;
        written = (near, at.1, refl, refl);
        on = first.low;
        inside = first.high;
      }
      | inr none ↦ record {
        mode = Horizontal;
        text = written_run (colour_before row from) (a1 row from - run_start from) ++ written_run (other (colour_before row from)) (a2 row from - a1 row from);
        next = a2 row from;
        written = (near, none, refl, refl);
        on = omega (arith, first.low, second.low);
        inside = second.high;
      }
    ]

has_step : (reference row : Elements) (from : ℕ) → from ≤ length row → HasStep reference row from
has_step reference row from le = elim (cases_lt (b2 reference row from) (a1 row from)) [
  | inl pass ↦ (
      let first : IsA1 row from = a1_is row from le in
      record {
        mode = Pass;
        text = [];
        next = b2 reference row from;
        written = (pass, refl, refl);
        on = b2_low reference row from le;
        inside = omega (arith, first.high);
      })
  | inr near ↦ has_step-near reference row from le near
]

-- the steps that are written from a place
HasSteps : Elements → Elements → ℕ → Type 0
HasSteps reference row from = (modes : List Mode) × (text : List Bool) × WritesSteps reference row from modes text

steps_done : (reference row : Elements) (from : ℕ) → from ≡ length row + 1 → HasSteps reference row from
unfolding HasSteps
steps_done reference row from end = ([], [], (refl, end))

steps_more : (reference row : Elements) (from : ℕ) → from ≤ length row → (h : HasStep reference row from) → HasSteps reference row (h.next + 1) → HasSteps reference row from
unfolding HasSteps
steps_more reference row from le h more = (h.mode ∷ more.0, mode_word h.mode ++ h.text ++ more.1, (le, h.text, more.1, h.next, refl, h.written, more.2))

-- with no more than so many elements left
has_steps : (reference row : Elements) (left from : ℕ) → length row + 1 ≤ from + left → from ≤ length row + 1 → HasSteps reference row from
has_steps reference row zero from few le = steps_done reference row from (omega arith)
has_steps reference row (suc left) from few le = elim (cases_lt (length row) from) [
  | inl past ↦ steps_done reference row from (omega arith)
  | inr inside ↦ (
      let h : HasStep reference row from = has_step reference row from inside in
      steps_more reference row from inside h (has_steps reference row left (h.next + 1) (omega (arith, h.on)) (omega (arith, h.inside))))
]

-- A row is written against a reference of its width in some way.
pub row_is_written : (reference row : Elements) → length row ≡ length reference → (text : List Bool) × WritesLine reference row text
unfolding HasSteps
row_is_written reference row widths =
    let h : HasSteps reference row 0 = has_steps reference row (length row + 1) 0 (omega arith) (omega arith) in
    (h.1, record { same_width = widths; modes = h.0; steps = h.2 })
