-- The lines of the rows of a page as they are written, row by row.
use Rattle.std.proofs.Common.{◌≡◌, ℕ, suc, ◌+◌, ◌<◌, ◌≤◌, Bool, true, false, not, List, [], ◌∷◌, ◌++◌, All, length, drop, Option, Some, None, is_none, slice_get, refl, sym, ◌∙◌, ap, subst, arith, append_assoc, append-nil, length-drop, add-one}
use Rattle.std.specs.Bool.{then_some}
use Rattle.std.specs.Option.{ForSome}
use Rattle.std.proofs.Math.Seq.{drop-cons}
use Rattle.std.proofs.lemmas.List.{drop_all}
use Rattle.std.proofs.lemmas.Option.{get_or_from_slice_get}
use Rattle.std.proofs.lemmas.List.Elements.{All-get_or}
use Rattle.fax_runcodes.specs.declared.format.Coding.{Coding}
use Rattle.fax_runcodes.specs.Rows.{Elements}
use Rattle.fax_pagestore.specs.PageTexts.{end_of_line}
use Rattle.fax_pagestore.specs.WrittenPages.{is_one_dimensional, tag_bits, next_tag, fill, WritesRow, WritesRows}
use Rattle.fax_pagestore.proofs.WrittenLemmas.{first_is_one_dimensional}

-- The reference of a row by its tag: the row before where the line is two-dimensional, and none else.
abbrev pub IsReference : Bool → Option Elements → Option Elements → Type 0
IsReference true before reference = reference ≡ None
IsReference false before reference = (row : Elements) × (before ≡ Some row) × (reference ≡ Some row)

-- After a row the reference is kept by the tag.
kept_reference : (tag : Bool) (row : Elements) → IsReference tag (Some row) (then_some (not tag) row)
kept_reference true row = refl
kept_reference false row = (row, refl, refl)

-- It is the row, where it is kept.
kept_row : (tag : Bool) (row : Elements) (P : Elements → Type 0) → P row → ForSome (then_some (not tag) row) P
kept_row true row P p other e = cc
kept_row false row P p other e =
    let same : row ≡ other = cc in
    subst P same p

-- The line that is written with a reference is the line by the tag.
pub written_by_tag : (tag : Bool) (before reference : Option Elements) (row : Elements) (line : List Bool) → IsReference tag before reference
    → WritesRow (is_none reference) reference row line → WritesRow tag before row line
written_by_tag true before reference row line e w = subst (λ r. WritesRow (is_none r) r row line) e w
written_by_tag false before reference row line (other, b, e) w =
    subst (λ r. WritesRow false r row line) (sym b) (subst (λ r. WritesRow (is_none r) r row line) e w)

-- The rows so far are written: the text of the others, put after theirs, is the text of all.
pub record RowsSoFar (width : ℕ) (coding : Coding) (fine : Bool) (least : ℕ) (rows : List Elements) (i : ℕ) (reference : Option Elements) (old new : List Bool) : Type 0 where
  pub text : List Bool
  pub before : Option Elements
  pub bits_are : new ≡ old ++ text
  pub is_reference : i < length rows → IsReference (is_one_dimensional coding fine i) before reference
  pub same_width : ForSome reference (λ row. length row ≡ width)
  pub goes_on : (more : List Bool) → WritesRows coding fine least i before (drop i rows) more → WritesRows coding fine least 0 None rows (text ++ more)

-- no row
pub RowsSoFar-none : (width : ℕ) (coding : Coding) (fine : Bool) (least : ℕ) (rows : List Elements) (bits : List Bool)
    → RowsSoFar width coding fine least rows 0 None bits bits
RowsSoFar-none width coding fine least rows bits = record {
  text = [];
  before = None;
  bits_are = sym (append-nil bits);
  is_reference = λ lt. subst (λ tag. IsReference tag None None) (sym (first_is_one_dimensional coding fine)) refl;
  same_width = λ row e. cc;
  goes_on = λ more w. w;
}

-- all rows
pub RowsSoFar-all : (width : ℕ) (coding : Coding) (fine : Bool) (least : ℕ) (rows : List Elements) (i : ℕ) (reference : Option Elements)
    (old new : List Bool) → length rows ≤ i → RowsSoFar width coding fine least rows i reference old new
    → (text : List Bool) × WritesRows coding fine least 0 None rows text × (new ≡ old ++ text)
RowsSoFar-all width coding fine least rows i reference old new le s =
    let none : WritesRows coding fine least i s.before (drop i rows) [] = subst (λ r. WritesRows coding fine least i s.before r []) (sym (drop_all i rows le)) refl in
    (s.text ++ [], s.goes_on [] none, s.bits_are ∙ ap (λ b. old ++ b) (sym (append-nil s.text)))

-- the text of a row, of which the line is written with its fill and then an EOL and its tag, and of others after it
pub row_bits : (line filled tag_text more : List Bool)
    → ((line ++ filled) ++ (end_of_line ++ tag_text)) ++ more ≡ line ++ (filled ++ (end_of_line ++ (tag_text ++ more)))
row_bits line filled tag_text more =
    append_assoc (line ++ filled) (end_of_line ++ tag_text) more
    ∙ ap (λ b. (line ++ filled) ++ b) (append_assoc end_of_line tag_text more)
    ∙ append_assoc line filled (end_of_line ++ (tag_text ++ more))

-- Where rows are left, the tag after the row before them is that of the first.
next_tag-some : (coding : Coding) (fine : Bool) (i : ℕ) (rows : List Elements) → 0 < length rows → next_tag coding fine i rows ≡ is_one_dimensional coding fine (i + 1)
next_tag-some coding fine i [] lt = absurd (omega arith)
next_tag-some coding fine i (row ∷ rows) lt = refl

-- After the last row stands the tag 1.
pub tag_after_last : (coding : Coding) (fine : Bool) (i : ℕ) (rows : List Elements) (tag : Bool) → length rows ≤ i + 1 → tag ≡ true
    → tag ≡ next_tag coding fine i (drop (i + 1) rows)
tag_after_last coding fine i rows tag le t = subst (λ r. tag ≡ next_tag coding fine i r) (sym (drop_all (i + 1) rows le)) t

-- After another stands the tag of the next.
pub tag_after_inner : (coding : Coding) (fine : Bool) (i : ℕ) (rows : List Elements) (tag : Bool) → i + 1 < length rows
    → tag ≡ is_one_dimensional coding fine (i + 1) → tag ≡ next_tag coding fine i (drop (i + 1) rows)
tag_after_inner coding fine i rows tag lt t =
    let some : 0 < length (drop (i + 1) rows) = omega (arith, length-drop (i + 1) rows) in
    t ∙ sym (next_tag-some coding fine i (drop (i + 1) rows) some)

-- A row of rows of one width has the width.
pub width_of_row : (width : ℕ) (rows : List Elements) (i : ℕ) (row : Elements) → i < length rows → slice_get rows i ≡ Some row
    → All (λ r. length r ≡ width) rows → length row ≡ width
width_of_row width rows i row lt is each =
    ap length (sym (get_or_from_slice_get rows i row row is)) ∙ All-get_or (λ (r : Elements). length r ≡ width) rows i row lt each

-- One row more.
pub RowsSoFar-more : (width : ℕ) (coding : Coding) (fine : Bool) (least : ℕ) (rows : List Elements) (i : ℕ) (reference next : Option Elements) (row : Elements)
    (tag : Bool) (line old now lined new : List Bool) → i < length rows → slice_get rows i ≡ Some row → length row ≡ width
    → tag ≡ next_tag coding fine i (drop (i + 1) rows) → next ≡ then_some (not tag) row
    → WritesRow (is_none reference) reference row line → lined ≡ now ++ (line ++ fill least line) → new ≡ lined ++ (end_of_line ++ tag_bits coding tag)
    → RowsSoFar width coding fine least rows i reference old now → RowsSoFar width coding fine least rows (i + 1) next old new
RowsSoFar-more width coding fine least rows i reference next row tag line old now lined new lt is size t kept w e f s =
    let here : drop i rows ≡ row ∷ drop (i + 1) rows =
    drop-cons rows i row lt ∙ ap (λ r. r ∷ drop (suc i) rows) (get_or_from_slice_get rows i row row is) ∙ ap (λ n. row ∷ drop n rows) (sym (add-one i)) in
    let writes : WritesRow (is_one_dimensional coding fine i) s.before row line =
    written_by_tag (is_one_dimensional coding fine i) s.before reference row line (s.is_reference lt) w in
    record {
      text = s.text ++ ((line ++ fill least line) ++ (end_of_line ++ tag_bits coding tag));
      before = Some row;
      bits_are = f ∙ ap (λ b. b ++ (end_of_line ++ tag_bits coding tag)) (e ∙ ap (λ b. b ++ (line ++ fill least line)) s.bits_are)
          ∙ append_assoc (old ++ s.text) (line ++ fill least line) (end_of_line ++ tag_bits coding tag)
          ∙ append_assoc old s.text ((line ++ fill least line) ++ (end_of_line ++ tag_bits coding tag));
      is_reference = λ lt_next. (
          let some : 0 < length (drop (i + 1) rows) = omega (arith, length-drop (i + 1) rows) in
          let tag_is : tag ≡ is_one_dimensional coding fine (i + 1) = t ∙ next_tag-some coding fine i (drop (i + 1) rows) some in
          subst (λ (k : Bool). IsReference k (Some row) next) tag_is (subst (IsReference tag (Some row)) (sym kept) (kept_reference tag row)));
      same_width = subst (λ (o : Option Elements). ForSome o (λ r. length r ≡ width)) (sym kept) (kept_row tag row (λ r. length r ≡ width) size);
      goes_on = λ more rest. (
          let text_is : ((line ++ fill least line) ++ (end_of_line ++ tag_bits coding tag)) ++ more
          ≡ line ++ (fill least line ++ (end_of_line ++ (tag_bits coding (next_tag coding fine i (drop (i + 1) rows)) ++ more))) =
          row_bits line (fill least line) (tag_bits coding tag) more
          ∙ ap (λ k. line ++ (fill least line ++ (end_of_line ++ (tag_bits coding k ++ more)))) t in
          let all : WritesRows coding fine least i s.before (row ∷ drop (i + 1) rows) (((line ++ fill least line) ++ (end_of_line ++ tag_bits coding tag)) ++ more) =
          (line, more, writes, text_is, rest) in
          subst (WritesRows coding fine least 0 None rows) (sym (append_assoc s.text ((line ++ fill least line) ++ (end_of_line ++ tag_bits coding tag)) more))
          (s.goes_on (((line ++ fill least line) ++ (end_of_line ++ tag_bits coding tag)) ++ more)
          (subst (λ r. WritesRows coding fine least i s.before r (((line ++ fill least line) ++ (end_of_line ++ tag_bits coding tag)) ++ more)) (sym here) all)));
    }
