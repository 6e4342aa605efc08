-- Laws of two-dimensional lines: bits begin with at most one line against a reference.
use Rattle.std.proofs.Common.{◌≡◌, ℕ, ◌+◌, ◌-◌, ◌≤◌, Bool, true, List, [], ◌∷◌, ◌++◌, length, refl, sym, ◌∙◌, ap, ap₂, subst, arith, inl, inr, append_assoc}
use Rattle.std.proofs.lemmas.Bool.{cases_lt}
use Rattle.std.proofs.lemmas.List.{append_cancel_left, ext_get_or, get_or_past}
use Rattle.fax_runcodes.specs.declared.Colour.TheVariants.{White}
use Rattle.fax_runcodes.specs.Rows.{Elements, other, colour_at, colour_before}
use Rattle.fax_runcodes.specs.Spelling.{SpellsRun}
use Rattle.fax_runcodes.proofs.Fronts.{agree, agree_fronts, agree_comm}
use Rattle.fax_runcodes.proofs.RunLaws.{SpellsRun-one}
use Rattle.fax_mrcode.specs.declared.mode.Mode.{Mode}
use Rattle.fax_mrcode.specs.declared.mode.Mode.TheVariants.{Pass, Horizontal, Vertical}
use Rattle.fax_mrcode.specs.declared.mode.Offset.{Offset}
use Rattle.fax_mrcode.specs.declared.mode.Offset.TheVariants.{Left3, Left2, Left1, Zero, Right1, Right2, Right3}
use Rattle.fax_mrcode.specs.Modes.{mode_word, IsAt}
use Rattle.fax_mrcode.specs.Places.{a1, a2, b1, b2, run_start}
use Rattle.fax_mrcode.specs.Lines.{Step, Steps, SpellsLine}
use Rattle.fax_mrcode.proofs.PlaceLemmas.{Agree, Agree-before, Agree-stretch, Agree-more, IsStretch, IsA1, IsA2, a1_is, a2_is, b1_same, b2_same}

-- ---- of two mode words neither begins the other
offset_one : (o p : Offset) → agree (mode_word (Vertical o)) (mode_word (Vertical p)) ≡ true → o ≡ p
offset_one Zero Zero h = refl
offset_one Right1 Right1 h = refl
offset_one Right2 Right2 h = refl
offset_one Right3 Right3 h = refl
offset_one Left1 Left1 h = refl
offset_one Left2 Left2 h = refl
offset_one Left3 Left3 h = refl
offset_one o p h = cc

pass_apart : (o : Offset) → agree (mode_word Pass) (mode_word (Vertical o)) ≡ true → ⊥
pass_apart Zero h = cc
pass_apart Right1 h = cc
pass_apart Right2 h = cc
pass_apart Right3 h = cc
pass_apart Left1 h = cc
pass_apart Left2 h = cc
pass_apart Left3 h = cc

horizontal_apart : (o : Offset) → agree (mode_word Horizontal) (mode_word (Vertical o)) ≡ true → ⊥
horizontal_apart Zero h = cc
horizontal_apart Right1 h = cc
horizontal_apart Right2 h = cc
horizontal_apart Right3 h = cc
horizontal_apart Left1 h = cc
horizontal_apart Left2 h = cc
horizontal_apart Left3 h = cc

mode_one : (m n : Mode) → agree (mode_word m) (mode_word n) ≡ true → m ≡ n
mode_one Pass Pass h = refl
mode_one Pass Horizontal h = cc
mode_one Pass (Vertical p) h = absurd (pass_apart p h)
mode_one Horizontal Pass h = cc
mode_one Horizontal Horizontal h = refl
mode_one Horizontal (Vertical p) h = absurd (horizontal_apart p h)
mode_one (Vertical o) Pass h = absurd (pass_apart o (agree_comm (mode_word Pass) (mode_word (Vertical o)) ∙ h))
mode_one (Vertical o) Horizontal h = absurd (horizontal_apart o (agree_comm (mode_word Horizontal) (mode_word (Vertical o)) ∙ h))
mode_one (Vertical o) (Vertical p) h = ap (λ (x : Offset). Vertical x) (offset_one o p h)

pub modes_prefix_free : (m n : Mode) (x y : List Bool) → mode_word m ++ x ≡ mode_word n ++ y → m ≡ n
modes_prefix_free m n x y e = mode_one m n (agree_fronts (mode_word m) (mode_word n) x y e)

pub front : (m : Mode) (f r x : List Bool) → mode_word m ++ ((f ++ r) ++ x) ≡ (mode_word m ++ f ++ r) ++ x
front m f r x = sym (append_assoc (mode_word m) (f ++ r) x) ∙ ap (λ b. b ++ x) (sym (append_assoc (mode_word m) f r))

-- a place at one offset from another is one
pub IsAt-one : (offset : Offset) (a a' b : ℕ) → IsAt offset a b → IsAt offset a' b → a ≡ a'
IsAt-one Zero a a' b p q = omega arith
IsAt-one Right1 a a' b p q = omega arith
IsAt-one Right2 a a' b p q = omega arith
IsAt-one Right3 a a' b p q = omega arith
IsAt-one Left1 a a' b p q = omega arith
IsAt-one Left2 a a' b p q = omega arith
IsAt-one Left3 a a' b p q = omega arith

-- the colour at a place past the end
past_white : (row : Elements) (n : ℕ) → length row ≤ n → colour_at row n ≡ White
past_white row n le = get_or_past row n White le

-- What two steps in one mode at one place have in common, where the rows agree left of it: the text,
-- the next place, and the elements left of it and at it.
pub record SameStep (v w : Elements) (s t : List Bool) (p q : ℕ) : Type 0 where
  pub text : s ≡ t
  pub next : p ≡ q
  pub rows : Agree v w (p + 1)

module _ (reference v w : Elements) (widths : length v ≡ length w) where
  pass_one : (from : ℕ) (s t : List Bool) (p q : ℕ) (x y : List Bool) → from ≤ length v → Agree v w from
      → Step reference v from Pass s p → Step reference w from Pass t q → SameStep v w s t p q
  pass_one from s t p q x y le rows (lt, es, ep) (lt', et, eq) =
      let before : colour_before v from ≡ colour_before w from = Agree-before v w from rows in
      let b : b2 reference v from ≡ b2 reference w from = b2_same reference v w from widths before in
      let first : IsA1 v from = a1_is v from le in
      let second : IsA1 w from = a1_is w from (omega arith) in
      let sv : IsStretch v (colour_before v from) from (b2 reference v from + 1) = record { all = λ k a c. first.stretch.all k a (omega arith) } in
      let sw : IsStretch w (colour_before v from) from (b2 reference v from + 1) = record { all = λ k a c. second.stretch.all k a (omega arith) ∙ sym before } in
      record {
        text = es ∙ sym et;
        next = ep ∙ b ∙ sym eq;
        rows = subst (λ n. Agree v w (n + 1)) (sym ep) (Agree-stretch v w (colour_before v from) from (b2 reference v from + 1) rows sv sw);
      }

  -- rows that agree left of a0 and have one a1 agree at it and left of it
  a1_agree : (from : ℕ) → from ≤ length v → Agree v w from → a1 v from ≡ a1 w from → Agree v w (a1 v from)
  a1_agree from le rows e =
      let before : colour_before v from ≡ colour_before w from = Agree-before v w from rows in
      let first : IsA1 v from = a1_is v from le in
      let second : IsA1 w from = a1_is w from (omega arith) in
      let sw : IsStretch w (colour_before v from) from (a1 v from) = record { all = λ k a c. second.stretch.all k a (omega arith) ∙ sym before } in
      Agree-stretch v w (colour_before v from) from (a1 v from) rows first.stretch sw

  vertical_one : (offset : Offset) (from : ℕ) (s t : List Bool) (p q : ℕ) → from ≤ length v → Agree v w from
      → Step reference v from (Vertical offset) s p → Step reference w from (Vertical offset) t q → SameStep v w s t p q
  vertical_one offset from s t p q le rows (at, es, ep) (at', et, eq) =
      let before : colour_before v from ≡ colour_before w from = Agree-before v w from rows in
      let b : b1 reference v from ≡ b1 reference w from = b1_same reference v w from widths before in
      let e : a1 v from ≡ a1 w from = IsAt-one offset (a1 v from) (a1 w from) (b1 reference v from) at (subst (λ n. IsAt offset (a1 w from) n) (sym b) at') in
      let first : IsA1 v from = a1_is v from le in
      let second : IsA1 w from = a1_is w from (omega arith) in
      let here : colour_at v (a1 v from) ≡ colour_at w (a1 v from) = elim (cases_lt (a1 v from) (length v)) [
        | inl inside ↦ first.change inside ∙ ap other before ∙ sym (second.change (omega arith)) ∙ ap (colour_at w) (sym e)
        | inr past ↦ past_white v (a1 v from) past ∙ sym (past_white w (a1 v from) (omega arith))
      ] in
      record {
        text = es ∙ sym et;
        next = ep ∙ e ∙ sym eq;
        rows = subst (λ n. Agree v w (n + 1)) (sym ep) (Agree-more v w (a1 v from) (a1_agree from le rows e) here);
      }

  horizontal_one : (from : ℕ) (s t : List Bool) (p q : ℕ) (x y : List Bool) → from ≤ length v → Agree v w from → s ++ x ≡ t ++ y
      → Step reference v from Horizontal s p → Step reference w from Horizontal t q → SameStep v w s t p q
  horizontal_one from s t p q x y le rows e (f, g, es, pf, pg, ep) (f', g', et, pf', pg', eq) =
      let before : colour_before v from ≡ colour_before w from = Agree-before v w from rows in
      let whole : f ++ (g ++ x) ≡ f' ++ (g' ++ y) = sym (append_assoc f g x) ∙ ap (λ b. b ++ x) (sym es) ∙ e ∙ ap (λ b. b ++ y) et ∙ append_assoc f' g' y in
      let one : (f ≡ f') × (a1 v from - run_start from ≡ a1 w from - run_start from) =
      SpellsRun-one (colour_before v from) f f' (a1 v from - run_start from) (a1 w from - run_start from) (g ++ x) (g' ++ y) pf (subst (λ c. SpellsRun c f' (a1 w from - run_start from)) (sym before) pf') whole in
      let rest : g ++ x ≡ g' ++ y = append_cancel_left f (g ++ x) (g' ++ y) (whole ∙ ap (λ b. b ++ (g' ++ y)) (sym one.0)) in
      let two : (g ≡ g') × (a2 v from - a1 v from ≡ a2 w from - a1 w from) =
      SpellsRun-one (other (colour_before v from)) g g' (a2 v from - a1 v from) (a2 w from - a1 w from) x y pg (subst (λ c. SpellsRun (other c) g' (a2 w from - a1 w from)) (sym before) pg') rest in
      let first : IsA1 v from = a1_is v from le in
      let second : IsA1 w from = a1_is w from (omega arith) in
      let first2 : IsA2 v from = a2_is v from le in
      let second2 : IsA2 w from = a2_is w from (omega arith) in
      let e1 : a1 v from ≡ a1 w from = omega (arith, one.1, first.low, second.low) in
      let e2 : a2 v from ≡ a2 w from = omega (arith, two.1, first2.low, second2.low) in
      let sw : IsStretch w (other (colour_before v from)) (a1 v from) (a2 v from) = record { all = λ k a c. second2.stretch.all k (omega arith) (omega arith) ∙ ap other (sym before) } in
      let here : colour_at v (a2 v from) ≡ colour_at w (a2 v from) = elim (cases_lt (a2 v from) (length v)) [
        | inl inside ↦ first2.change inside ∙ before ∙ sym (second2.change (omega arith)) ∙ ap (colour_at w) (sym e2)
        | inr past ↦ past_white v (a2 v from) past ∙ sym (past_white w (a2 v from) (omega arith))
      ] in
      record {
        text = es ∙ ap₂ (λ (a b : List Bool). a ++ b) one.0 two.0 ∙ sym et;
        next = ep ∙ e2 ∙ sym eq;
        rows = subst (λ n. Agree v w (n + 1)) (sym ep) (Agree-more v w (a2 v from) (Agree-stretch v w (other (colour_before v from)) (a1 v from) (a2 v from) (a1_agree from le rows e1) first2.stretch sw) here);
      }

  pub step_one : (mode : Mode) (from : ℕ) (s t : List Bool) (p q : ℕ) (x y : List Bool) → from ≤ length v → Agree v w from → s ++ x ≡ t ++ y
      → Step reference v from mode s p → Step reference w from mode t q → SameStep v w s t p q
  step_one Pass from s t p q x y le rows e a b = pass_one from s t p q x y le rows a b
  step_one Horizontal from s t p q x y le rows e a b = horizontal_one from s t p q x y le rows e a b
  step_one (Vertical offset) from s t p q x y le rows e a b = vertical_one offset from s t p q le rows a b

  -- The rows agree left of a0, step by step.
  steps_one : (ms ns : List Mode) (from : ℕ) (s t : List Bool) (x y : List Bool) → Agree v w from → s ++ x ≡ t ++ y
      → Steps reference v from ms s (length v + 1) → Steps reference w from ns t (length w + 1) → (s ≡ t) × Agree v w (length v + 1)
  steps_one [] [] from s t x y rows e (es, ev) (et, ew) = (es ∙ sym et, subst (Agree v w) (sym ev) rows)
  steps_one [] (n ∷ ns) from s t x y rows e (es, ev) r = let le : from ≤ length w = r.0 in absurd (omega arith)
  steps_one (m ∷ ms) [] from s t x y rows e r (et, ew) = let le : from ≤ length v = r.0 in absurd (omega arith)
  steps_one (m ∷ ms) (n ∷ ns) from s t x y rows e (le, f, r, p, es, step, rest) (le', f', r', q, et, step', rest') =
      let whole : mode_word m ++ ((f ++ r) ++ x) ≡ mode_word n ++ ((f' ++ r') ++ y) =
      front m f r x ∙ ap (λ b. b ++ x) (sym es) ∙ e ∙ ap (λ b. b ++ y) et ∙ sym (front n f' r' y) in
      let mode : m ≡ n = modes_prefix_free m n ((f ++ r) ++ x) ((f' ++ r') ++ y) whole in
      let after : (f ++ r) ++ x ≡ (f' ++ r') ++ y = append_cancel_left (mode_word m) ((f ++ r) ++ x) ((f' ++ r') ++ y) (whole ∙ ap (λ k. mode_word k ++ ((f' ++ r') ++ y)) (sym mode)) in
      let there : f ++ (r ++ x) ≡ f' ++ (r' ++ y) = sym (append_assoc f r x) ∙ after ∙ append_assoc f' r' y in
      let same : SameStep v w f f' p q = step_one m from f f' p q (r ++ x) (r' ++ y) le rows there step (subst (λ k. Step reference w from k f' q) (sym mode) step') in
      let next : r ++ x ≡ r' ++ y = append_cancel_left f (r ++ x) (r' ++ y) (there ∙ ap (λ b. b ++ (r' ++ y)) (sym same.text)) in
      let later : (r ≡ r') × Agree v w (length v + 1) = steps_one ms ns (p + 1) r r' x y same.rows next rest (subst (λ k. Steps reference w (k + 1) ns r' (length w + 1)) (sym same.next) rest') in
      (es ∙ ap (λ k. mode_word k ++ f ++ r) mode ∙ ap₂ (λ (a b : List Bool). mode_word n ++ a ++ b) same.text later.0 ∙ sym et, later.1)

-- Against one reference a text spells at most one row, and is no proper front of another row's text.
pub SpellsLine-one : (reference : Elements) (s t : List Bool) (v w : Elements) (x y : List Bool) → SpellsLine reference s v → SpellsLine reference t w → s ++ x ≡ t ++ y → (s ≡ t) × (v ≡ w)
unfolding Agree
SpellsLine-one reference s t v w x y p q e =
    let widths : length v ≡ length w = p.same_width ∙ sym q.same_width in
    let one : (s ≡ t) × Agree v w (length v + 1) = steps_one reference v w widths p.modes q.modes 0 s t x y (λ k lt. absurd (omega arith)) e p.steps q.steps in
    (one.0, ext_get_or White v w widths (λ i lt. one.1 i (omega arith)))
