-- Laws of one-dimensional lines: a row is written in some way, and in one only.
use Rattle.std.proofs.Common.{◌≡◌, ℕ, suc, ◌<◌, Bool, List, [], ◌∷◌, All, length, refl, sym, ◌∙◌, ap, arith}
use Rattle.std.proofs.lemmas.List.Elements.{All-nil, All-cons}
use Rattle.fax_runcodes.specs.declared.Colour.{Colour}
use Rattle.fax_runcodes.specs.declared.Colour.TheVariants.{White, Black}
use Rattle.fax_runcodes.specs.Rows.{Elements, other, stretches}
use Rattle.fax_runcodes.proofs.RowLaws.{runs_one}
use Rattle.fax_mhcode.specs.Lines.{WritesLine, written_runs}

-- A row is written in one way only.
pub written_line_one : (row : Elements) (text other : List Bool) → 0 < length row → WritesLine row text → WritesLine row other → text ≡ other
written_line_one row text other some v w = v.text_is ∙ ap (written_runs White) (runs_one v.runs w.runs row some v.are_runs w.are_runs) ∙ sym w.text_is

-- runs that make elements, of which the first has this colour and may be empty
record HasRuns (colour : Colour) (row : Elements) : Type 0 where
  first : ℕ
  runs : List ℕ
  row_is : row ≡ stretches colour (first ∷ runs)
  not_empty : All (λ n. 0 < n) runs

-- one element more, of that colour
has_runs-same : (colour : Colour) (row : Elements) → HasRuns colour row → HasRuns colour (colour ∷ row)
has_runs-same colour row h = record {
  first = suc h.first;
  runs = h.runs;
  row_is = ap (λ (es : Elements). colour ∷ es) h.row_is;
  not_empty = h.not_empty;
}

-- one element more, of the other colour
has_runs-other : (colour : Colour) (row : Elements) → HasRuns (other colour) row → HasRuns colour (other colour ∷ row)
has_runs-other colour row h = record {
  first = 0;
  runs = suc h.first ∷ h.runs;
  row_is = ap (λ (es : Elements). other colour ∷ es) h.row_is;
  not_empty = All-cons (λ (n : ℕ). 0 < n) (suc h.first) h.runs (omega arith) h.not_empty;
}

has_runs : (colour : Colour) (row : Elements) → HasRuns colour row
has_runs colour [] = record { first = 0; runs = []; row_is = refl; not_empty = All-nil (λ (n : ℕ). 0 < n) }
has_runs White (White ∷ row) = has_runs-same White row (has_runs White row)
has_runs White (Black ∷ row) = has_runs-other White row (has_runs Black row)
has_runs Black (White ∷ row) = has_runs-other Black row (has_runs White row)
has_runs Black (Black ∷ row) = has_runs-same Black row (has_runs Black row)

-- A row is written in some way.
pub row_is_written : (row : Elements) → (text : List Bool) × WritesLine row text
row_is_written row =
    let h : HasRuns White row = has_runs White row in (
      written_runs White (h.first ∷ h.runs),
      record {
        runs = h.first ∷ h.runs;
        are_runs = record { row_is = h.row_is; not_empty = h.not_empty };
        text_is = refl;
      },
    )
