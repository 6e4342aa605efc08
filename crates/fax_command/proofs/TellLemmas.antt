-- Lines that tell rows, one after another.
use Rattle.std.proofs.Common.{◌≡◌, ℕ, suc, ◌+◌, List, [], ◌∷◌, ◌++◌, length, replicate, sum, take, zero, Some, slice_get, add-one, refl, sym, ◌∙◌, ap, ap₂, subst, ◌<◌, ◌^◌, arith, append-nil, length-append}
use Rattle.std.proofs.lemmas.Grind.{flat_map-append}
use Rattle.std.proofs.lemmas.List.Elements.{recursion_from_All, All-from_recursion}
use Rattle.std.specs.List.{All, AllByRecursion}
use Rattle.std.proofs.lemmas.List.{length-replicate}
use Rattle.std.proofs.lemmas.List.Sums.{sum_by-cons}
use Rattle.fax_runcodes.specs.declared.Colour.{Colour}
use Rattle.fax_runcodes.specs.declared.Colour.TheVariants.{White}
use Rattle.fax_runcodes.specs.declared.Width.{Width}
use Rattle.fax_runcodes.specs.declared.Width.TheVariants.{W1728, W2048, W2432}
use Rattle.fax_runcodes.specs.Rows.{Elements, AreRunsOfRow, IsWidth, other, stretches}
use Rattle.fax_runcodes.specs.Widths.{elements_of}
use Rattle.fax_mhcode.proofs.LineLaws.{IsWidth-elements}
use Rattle.fax_command.specs.Answers.{ComesAfter}
use Rattle.fax_command.specs.RowLines.{TellsRow, TellRows, IsRowLine, line_of, text_of_lines, lines_of}

-- ---- one line

pub length-stretches : (colour : Colour) (runs : List ℕ) → length (stretches colour runs) ≡ sum runs
length-stretches colour [] = refl
length-stretches colour (n ∷ runs) =
    length-append (replicate n colour) (stretches (other colour) runs)
    ∙ ap₂ (λ a b. a + b) (length-replicate n colour) (length-stretches (other colour) runs)
    ∙ sym (sum_by-cons (λ x. x) n runs)

-- what a line of a row is made of
pub runs_of_line : (width : Width) (line : List ℕ) → IsRowLine (elements_of width) line → (runs : List ℕ) × (sum runs ≡ elements_of width) × AreRunsOfRow runs × (line ≡ line_of runs)
runs_of_line width line (row, wide, told) =
    let total : sum told.runs ≡ elements_of width = sym (length-stretches White told.runs) ∙ ap length (sym told.are_runs.row_is) ∙ wide in
    (told.runs, total, record { width = subst IsWidth (sym total) (IsWidth-elements width); not_empty = told.are_runs.not_empty }, told.line_is)

-- the runs of a row have elements, and fewer than 16 bits can count
pub sum_of_runs : (width : Width) (runs : List ℕ) → sum runs ≡ elements_of width → (0 < sum runs) × (sum runs < 2 ^ 16)
sum_of_runs W1728 runs total = (omega (arith, total), omega (arith, total))
sum_of_runs W2048 runs total = (omega (arith, total), omega (arith, total))
sum_of_runs W2432 runs total = (omega (arith, total), omega (arith, total))

-- the row that is made of the runs of a line
pub TellsRow-made : (line runs : List ℕ) (row : Elements) → line ≡ line_of runs → AreRunsOfRow runs → row ≡ stretches White runs → TellsRow line row
TellsRow-made line runs row is are made = record { runs = runs; are_runs = record { row_is = made; not_empty = are.not_empty }; line_is = is }

-- ---- several lines

-- one more
pub TellRows-push : (lines : List (List ℕ)) (rows : List Elements) (line : List ℕ) (row : Elements) → TellRows lines rows → TellsRow line row
    → TellRows (lines ++ line ∷ []) (rows ++ row ∷ [])
TellRows-push [] [] line row so_far more = (more, tt)
TellRows-push [] (r ∷ rows) line row so_far more = absurd so_far
TellRows-push (l ∷ lines) [] line row so_far more = absurd so_far
TellRows-push (l ∷ lines) (r ∷ rows) line row so_far more = (so_far.0, TellRows-push lines rows line row so_far.1 more)

-- as many
pub length-TellRows : (lines : List (List ℕ)) (rows : List Elements) → TellRows lines rows → length lines ≡ length rows
length-TellRows [] [] told = refl
length-TellRows [] (row ∷ rows) told = absurd told
length-TellRows (line ∷ lines) [] told = absurd told
length-TellRows (line ∷ lines) (row ∷ rows) told = ap suc (length-TellRows lines rows told.1)

each_tells : (width : ℕ) (lines : List (List ℕ)) (rows : List Elements) → TellRows lines rows → AllByRecursion (λ row. length row ≡ width) rows
    → AllByRecursion (IsRowLine width) lines
each_tells width [] [] told wide = tt
each_tells width [] (row ∷ rows) told wide = absurd told
each_tells width (line ∷ lines) [] told wide = absurd told
each_tells width (line ∷ lines) (row ∷ rows) told wide = ((row, wide.0, told.0), each_tells width lines rows told.1 wide.1)

-- a line after those that tell rows
pub ComesAfter-told : (width : ℕ) (input : List ℕ) (before : List (List ℕ)) (rows : List Elements) (n : ℕ) (line : List ℕ) (rest : List (List ℕ))
    → lines_of input ≡ before ++ line ∷ rest → TellRows before rows → All (λ row. length row ≡ width) rows → length rows ≡ n
    → ComesAfter width input n line
ComesAfter-told width input before rows n line rest lines_are told wide many = record {
  before = before;
  rest = rest;
  lines_are = lines_are;
  so_many = length-TellRows before rows told ∙ many;
  each = All-from_recursion (IsRowLine width) before (each_tells width before rows told (recursion_from_All _ rows wide));
}

-- no line tells no row
pub TellRows-empty : (lines : List (List ℕ)) (rows : List Elements) → TellRows lines rows → length rows ≡ 0 → lines ≡ []
TellRows-empty [] rows told none = refl
TellRows-empty (line ∷ lines) [] told none = absurd told
TellRows-empty (line ∷ lines) (row ∷ rows) told none = absurd (omega arith)

-- ---- their text

-- the text of lines after others
pub text_of_lines-append : (lines more : List (List ℕ)) → text_of_lines (lines ++ more) ≡ text_of_lines lines ++ text_of_lines more
text_of_lines-append lines more = flat_map-append (λ line. line ++ 10 ∷ []) lines more

pub text_of_lines-push : (lines : List (List ℕ)) (line : List ℕ) → text_of_lines (lines ++ line ∷ []) ≡ text_of_lines lines ++ (line ++ 10 ∷ [])
text_of_lines-push lines line =
    flat_map-append (λ l. l ++ 10 ∷ []) lines (line ∷ []) ∙ ap (λ text. text_of_lines lines ++ text) (append-nil (line ++ 10 ∷ []))

-- the rows before a place, and the one there
pub take_more_at : (rows : List Elements) (i : ℕ) (row : Elements) → slice_get rows i ≡ Some row → take (i + 1) rows ≡ take i rows ++ row ∷ []
take_more_at [] i row found = cc
take_more_at (r ∷ rows) zero row found = let same : r ≡ row = cc in ap (λ x. x ∷ []) same
take_more_at (r ∷ rows) (suc i) row found =
    ap (λ n. take n (r ∷ rows)) (add-one (suc i)) ∙ ap (λ rest. r ∷ rest) (ap (λ n. take n rows) (sym (add-one i)) ∙ take_more_at rows i row found)
