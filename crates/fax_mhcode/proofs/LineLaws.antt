-- Laws of one-dimensional lines: bits begin with at most one line of a width.
use Rattle.std.proofs.Common.{◌≡◌, ℕ, suc, ◌+◌, ◌<◌, ◌≤◌, Bool, List, [], ◌∷◌, ◌++◌, length, take, sum, refl, sym, ◌∙◌, ap, ap₂, subst, arith, append_assoc, zero-add, length-append, replicate, rules}
use Rattle.std.proofs.lemmas.List.{append_cancel_left, length-replicate}
use Rattle.std.proofs.lemmas.List.Sums.{sum_by-append}
use Rattle.fax_runcodes.specs.declared.Colour.{Colour}
use Rattle.fax_runcodes.specs.declared.Colour.TheVariants.{White}
use Rattle.fax_runcodes.specs.declared.Width.{Width}
use Rattle.fax_runcodes.specs.declared.Width.TheVariants.{W1728, W2048, W2432}
use Rattle.fax_runcodes.specs.Rows.{Elements, IsWidth, other, stretches}
use Rattle.fax_runcodes.specs.Widths.{elements_of}
use Rattle.fax_runcodes.proofs.RunLaws.{SpellsRun-one}
use Rattle.fax_mhcode.specs.Lines.{SpellsRuns, SpellsLine}

pub sum-cons : (n : ℕ) (ns : List ℕ) → sum (n ∷ ns) ≡ n + sum ns
sum-cons n ns = sum_by-append (λ x. x) (n ∷ []) ns ∙ ap (λ m. m + sum ns) (zero-add n)

-- Of two lists of runs that begin the same bits and reach a width with their last run, both are one.
pub SpellsRuns-one : (colour : Colour) (width so_far : ℕ) (s t : List Bool) (ms ns : List ℕ) (x y : List Bool)
    → SpellsRuns colour s ms → SpellsRuns colour t ns → s ++ x ≡ t ++ y
    → so_far + sum ms ≡ width → so_far + sum ns ≡ width
    → ((k : ℕ) → k < length ms → so_far + sum (take k ms) < width) → ((k : ℕ) → k < length ns → so_far + sum (take k ns) < width)
    → (s ≡ t) × (ms ≡ ns)
SpellsRuns-one colour width so_far s t [] [] x y p q e em en bm bn = (p ∙ sym q, refl)
SpellsRuns-one colour width so_far s t [] (n ∷ ns) x y p q e em en bm bn =
    let below : so_far + 0 < width = bn 0 (omega arith) in
    let there : so_far + 0 ≡ width = em in
    absurd (omega arith)
SpellsRuns-one colour width so_far s t (m ∷ ms) [] x y p q e em en bm bn =
    let below : so_far + 0 < width = bm 0 (omega arith) in
    let there : so_far + 0 ≡ width = en in
    absurd (omega arith)
SpellsRuns-one colour width so_far s t (m ∷ ms) (n ∷ ns) x y (f, r, es, pf, pr) (g, u, et, qg, qu) e em en bm bn =
    let whole : f ++ (r ++ x) ≡ g ++ (u ++ y) = sym (append_assoc f r x) ∙ ap (λ b. b ++ x) (sym es) ∙ e ∙ ap (λ b. b ++ y) et ∙ append_assoc g u y in
    let first : (f ≡ g) × (m ≡ n) = SpellsRun-one colour f g m n (r ++ x) (u ++ y) pf qg whole in
    let rest : r ++ x ≡ u ++ y = append_cancel_left f (r ++ x) (u ++ y) (whole ∙ ap (λ b. b ++ (u ++ y)) (sym first.0)) in
    let step : (k : ℕ) (j : ℕ) (js : List ℕ) → sum (take (suc k) (j ∷ js)) ≡ j + sum (take k js) = λ k j js. sum-cons j (take k js) in
    let more : (r ≡ u) × (ms ≡ ns) = SpellsRuns-one (other colour) width (so_far + m) r u ms ns x y pr qu rest
    (omega (arith, sum-cons m ms)) (omega (arith, sum-cons n ns, first.1))
    (λ k lt. omega (arith, bm (suc k) (omega arith), step k m ms))
    (λ k lt. omega (arith, bn (suc k) (omega arith), step k n ns, first.1)) in
    (es ∙ ap₂ (λ (a b : List Bool). a ++ b) first.0 more.0 ∙ sym et, ap₂ (λ (a : ℕ) (b : List ℕ). a ∷ b) first.1 more.1)

-- A text spells at most one row of a width, and is no proper front of another row's text.
pub SpellsLine-one : (width : ℕ) (s t : List Bool) (v w : Elements) (x y : List Bool) → SpellsLine width s v → SpellsLine width t w → s ++ x ≡ t ++ y → (s ≡ t) × (v ≡ w)
SpellsLine-one width s t v w x y p q e =
    let one : (s ≡ t) × (p.runs ≡ q.runs) = SpellsRuns-one White width 0 s t p.runs q.runs x y p.spelt q.spelt e
    (omega (arith, p.whole)) (omega (arith, q.whole)) (λ k lt. omega (arith, p.not_before k lt)) (λ k lt. omega (arith, q.not_before k lt)) in
    (one.0, p.row_is ∙ ap (stretches White) one.1 ∙ sym q.row_is)

pub length-stretches : (colour : Colour) (runs : List ℕ) → length (stretches colour runs) ≡ sum runs
length-stretches colour [] = refl
length-stretches colour (n ∷ runs) =
    length-append (replicate n colour) (stretches (other colour) runs)
    ∙ ap₂ (λ (a b : ℕ). a + b) (length-replicate n colour) (length-stretches (other colour) runs)
    ∙ sym (sum-cons n runs)

-- A line of a width spells a row of it.
pub SpellsLine-length : (width : ℕ) (text : List Bool) (row : Elements) → SpellsLine width text row → length row ≡ width
SpellsLine-length width text row l = ap length l.row_is ∙ length-stretches White l.runs ∙ l.whole

pub few_elements : (w : Width) → elements_of w ≤ 2432
few_elements W1728 = omega arith
few_elements W2048 = omega arith
few_elements W2432 = omega arith

pub IsWidth-elements : (w : Width) → IsWidth (elements_of w)
IsWidth-elements W1728 = search rules
IsWidth-elements W2048 = search rules
IsWidth-elements W2432 = search rules

-- the row of a line that was read has a width
pub IsWidth-read : (w : Width) (text : List Bool) (row : Elements) → SpellsLine (elements_of w) text row → IsWidth (length row)
IsWidth-read w text row l = subst (λ (n : ℕ). IsWidth n) (sym (SpellsLine-length (elements_of w) text row l)) (IsWidth-elements w)
