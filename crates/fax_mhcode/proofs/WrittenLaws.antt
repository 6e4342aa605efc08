-- Laws of one-dimensional lines as they are written.
use Rattle.std.proofs.Common.{◌≡◌, ℕ, zero, suc, ◌<◌, ◌≤◌, Bool, List, [], ◌∷◌, All, length, take, drop, sum, refl, sym, ◌∙◌, ap, subst, arith, inl, inr}
use Rattle.std.proofs.lemmas.List.Elements.{All-head, All-tail}
use Rattle.fax_runcodes.specs.declared.Colour.{Colour}
use Rattle.fax_runcodes.specs.declared.Colour.TheVariants.{White}
use Rattle.fax_runcodes.specs.Rows.{Elements, IsWidth, other}
use Rattle.fax_runcodes.specs.Spelling.{written_run}
use Rattle.fax_runcodes.proofs.WriteLemmas.{written_run_spells}
use Rattle.fax_mhcode.specs.Lines.{SpellsRuns, SpellsLine, WritesLine, written_runs}
use Rattle.fax_mhcode.proofs.LineLaws.{sum-cons, length-stretches}
use Rattle.fax_mhcode.proofs.WriteLemmas.{most_elements}

-- where no run is empty, the runs reach their sum with the last of them and not before
below_sum : (runs : List ℕ) → All (λ n. 0 < n) runs → (k : ℕ) → k < length runs → sum (take k runs) < sum runs
below_sum [] some k lt = absurd (omega arith)
below_sum (n ∷ runs) some zero lt =
    let here : 0 < n = All-head (λ (m : ℕ). 0 < m) n runs some in
    omega (arith, sum-cons n runs)
below_sum (n ∷ runs) some (suc k) lt = omega (arith, sum-cons n (take k runs), sum-cons n runs, below_sum runs (All-tail (λ (m : ℕ). 0 < m) n runs some) k (omega arith))

-- the first run may be empty
below_width : (runs : List ℕ) → 0 < sum runs → All (λ n. 0 < n) (drop 1 runs) → (k : ℕ) → k < length runs → sum (take k runs) < sum runs
below_width [] wide some k lt = absurd (omega arith)
below_width (n ∷ runs) wide some zero lt = wide
below_width (n ∷ runs) wide some (suc k) lt = omega (arith, sum-cons n (take k runs), sum-cons n runs, below_sum runs some k (omega arith))

written_runs_spell : (colour : Colour) (runs : List ℕ) → sum runs < 2624 → SpellsRuns colour (written_runs colour runs) runs
written_runs_spell colour [] short = refl
written_runs_spell colour (n ∷ runs) short = (
  written_run colour n,
  written_runs (other colour) runs,
  refl,
  written_run_spells colour n (omega (arith, sum-cons n runs)),
  written_runs_spell (other colour) runs (omega (arith, sum-cons n runs)),
)

some_elements : (n : ℕ) → IsWidth n → 0 < n
some_elements n (inl e) = omega arith
some_elements n (inr (inl e)) = omega arith
some_elements n (inr (inr e)) = omega arith

-- The bits in which a row is written spell it.
pub written_line_is_spelt : (row : Elements) (text : List Bool) → WritesLine row text → IsWidth (length row) → SpellsLine (length row) text row
written_line_is_spelt row text w width =
    let whole : sum w.runs ≡ length row = sym (ap length w.are_runs.row_is ∙ length-stretches White w.runs) in
    let most : length row ≤ 2432 = most_elements (length row) width in
    let some : 0 < length row = some_elements (length row) width in
    record {
      runs = w.runs;
      spelt = subst (λ (bits : List Bool). SpellsRuns White bits w.runs) (sym w.text_is) (written_runs_spell White w.runs (omega arith));
      whole = whole;
      not_before = λ k lt. omega (arith, below_width w.runs (omega arith) w.are_runs.not_empty k lt);
      row_is = w.are_runs.row_is;
    }
