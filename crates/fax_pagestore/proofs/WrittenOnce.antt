-- A page is written as one text, and padded to one list of octets.
use Rattle.std.proofs.Common.{◌≡◌, ◌⊎◌, ℕ, ◌+◌, ◌<◌, Bool, true, false, List, [], ◌∷◌, ◌++◌, All, length, Option, Some, None, refl, sym, ◌∙◌, ap, subst, arith, inl, inr}
use Rattle.std.proofs.lemmas.List.Elements.{All-head, All-tail}
use Rattle.fax_bits.specs.Writing.{IsPadded}
use Rattle.fax_bits.proofs.PaddingLemmas.{padding_one}
use Rattle.fax_runcodes.specs.declared.format.Coding.{Coding}
use Rattle.fax_runcodes.specs.Rows.{Elements}
use Rattle.fax_mhcode.proofs.WrittenOnce as mh_once
use Rattle.fax_mrcode.proofs.WrittenOnce as mr_once
use Rattle.fax_pagestore.specs.PageTexts.{end_of_line}
use Rattle.fax_pagestore.specs.WrittenPages.{is_one_dimensional, tag_bits, next_tag, ends_of_line, fill, WritesRow, WritesRows}
use Rattle.fax_pagestore.specs.PageLaws.{WrittenPagesAreUnique, PagesAreWritten, WrittenOctetsAreUnique}
use Rattle.fax_pagestore.proofs.TextLemmas.{width_some}
use Rattle.fax_pagestore.proofs.WrittenLemmas.{first_is_one_dimensional}

-- ---- in one way only

-- A row has one line after a tag.
pub row_one : (tag : Bool) (before : Option Elements) (row : Elements) (line other : List Bool) → 0 < length row
    → WritesRow tag before row line → WritesRow tag before row other → line ≡ other
row_one true before row line other some v w = mh_once.written_line_one row line other some v w
row_one false (Some reference) row line other some v w = mr_once.written_line_one reference row line other v w
row_one false None row line other some v w = absurd v

-- Rows have one text.
rows_one : (coding : Coding) (fine : Bool) (width least index : ℕ) (before : Option Elements) (rows : List Elements) (text other : List Bool) → 0 < width
    → All (λ row. length row ≡ width) rows → WritesRows coding fine least index before rows text → WritesRows coding fine least index before rows other → text ≡ other
rows_one coding fine width least index before [] text other some each v w = v ∙ sym w
rows_one coding fine width least index before (row ∷ rows) text other some each (line, rest, v, e, more) (line', rest', w, e', more') =
    let size : length row ≡ width = All-head (λ (r : Elements). length r ≡ width) row rows each in
    let same : line ≡ line' = row_one (is_one_dimensional coding fine index) before row line line' (omega arith) v w in
    let later : rest ≡ rest' =
    rows_one coding fine width least (index + 1) (Some row) rows rest rest' some (All-tail (λ (r : Elements). length r ≡ width) row rows each) more more' in
    e
    ∙ ap (λ (l : List Bool). l ++ (fill least l ++ (end_of_line ++ (tag_bits coding (next_tag coding fine index rows) ++ rest)))) same
    ∙ ap (λ (b : List Bool). line' ++ (fill least line' ++ (end_of_line ++ (tag_bits coding (next_tag coding fine index rows) ++ b)))) later
    ∙ sym e'

-- A page is written as one text only.
pub written_pages_are_unique : WrittenPagesAreUnique
written_pages_are_unique width coding fine least rows text other is are (lines, v, e) (lines', w, e') =
    let same : lines ≡ lines' = rows_one coding fine width least 0 None rows lines lines' (width_some width is) are.each v w in
    e ∙ ap (λ (b : List Bool). end_of_line ++ (tag_bits coding true ++ (b ++ ends_of_line coding 5))) same ∙ sym e'

-- So it is padded to one list of octets.
pub written_octets_are_unique : WrittenOctetsAreUnique
written_octets_are_unique width coding fine least rows text other a b is are v w a_are b_are a_is b_is =
    let same : text ≡ other = written_pages_are_unique width coding fine least rows text other is are v w in
    padding_one text a b a_are b_are a_is (subst (IsPadded b) (sym same) b_is)

-- ---- in some way

-- A line of this tag may be written after this row.
MayBeWritten : ℕ → Bool → Option Elements → Type 0
MayBeWritten width tag before = (tag ≡ true) ⊎ ((reference : Elements) × (before ≡ Some reference) × (length reference ≡ width))

row_some : (width : ℕ) (tag : Bool) (before : Option Elements) (row : Elements) → length row ≡ width → MayBeWritten width tag before
    → (line : List Bool) × WritesRow tag before row line
unfolding MayBeWritten
row_some width true before row size may = mh_once.row_is_written row
row_some width false before row size (inl e) = absurd (cc)
row_some width false before row size (inr (reference, e, also)) =
    subst (λ (o : Option Elements). (line : List Bool) × WritesRow false o row line) (sym e) (mr_once.row_is_written reference row (size ∙ sym also))

-- after a row any line may be written
after_row : (width : ℕ) (tag : Bool) (row : Elements) → length row ≡ width → MayBeWritten width tag (Some row)
unfolding MayBeWritten
after_row width tag row size = inr (row, refl, size)

-- the first line of a page too
at_first : (width : ℕ) (coding : Coding) (fine : Bool) → MayBeWritten width (is_one_dimensional coding fine 0) None
unfolding MayBeWritten
at_first width coding fine = inl (first_is_one_dimensional coding fine)

-- Rows have a text.
rows_some : (coding : Coding) (fine : Bool) (width least index : ℕ) (before : Option Elements) (rows : List Elements) → All (λ row. length row ≡ width) rows
    → MayBeWritten width (is_one_dimensional coding fine index) before → (text : List Bool) × WritesRows coding fine least index before rows text
rows_some coding fine width least index before [] each may = ([], refl)
rows_some coding fine width least index before (row ∷ rows) each may =
    let size : length row ≡ width = All-head (λ (r : Elements). length r ≡ width) row rows each in
    let line : (line : List Bool) × WritesRow (is_one_dimensional coding fine index) before row line =
    row_some width (is_one_dimensional coding fine index) before row size may in
    let more : (text : List Bool) × WritesRows coding fine least (index + 1) (Some row) rows text =
    rows_some coding fine width least (index + 1) (Some row) rows (All-tail (λ (r : Elements). length r ≡ width) row rows each)
    (after_row width (is_one_dimensional coding fine (index + 1)) row size) in
    (line.0 ++ (fill least line.0 ++ (end_of_line ++ (tag_bits coding (next_tag coding fine index rows) ++ more.0))), (line.0, more.0, line.1, refl, more.1))

-- A page is written as some text.
pub pages_are_written : PagesAreWritten
pages_are_written width coding fine least rows are =
    let lines : (text : List Bool) × WritesRows coding fine least 0 None rows text = rows_some coding fine width least 0 None rows are.each (at_first width coding fine) in
    (end_of_line ++ (tag_bits coding true ++ (lines.0 ++ ends_of_line coding 5)), (lines.0, lines.1, refl))
