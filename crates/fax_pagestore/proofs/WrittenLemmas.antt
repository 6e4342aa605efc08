-- What is written for a page means the page.
use Rattle.std.proofs.Common.{◌≡◌, ℕ, zero, suc, ◌+◌, ◌-◌, Bool, true, false, List, [], ◌∷◌, ◌++◌, All, length, take, replicate, Option, Some, None, refl, sym, ◌∙◌, ap, subst, arith, append_assoc, length-append}
use Rattle.std.proofs.lemmas.List.{replicate-append-replicate, length-take-le}
use Rattle.std.proofs.lemmas.List.Elements.{All-head, All-tail}
use Rattle.fax_runcodes.specs.declared.format.Coding.{Coding}
use Rattle.fax_runcodes.specs.declared.format.Coding.TheVariants.{Mh, Mr}
use Rattle.fax_runcodes.specs.Rows.{Elements, IsWidth}
use Rattle.fax_mhcode.specs.Lines as mh
use Rattle.fax_mhcode.proofs.WrittenLaws as mh_laws
use Rattle.fax_mrcode.proofs.WrittenLaws as mr_laws
use Rattle.fax_pagestore.specs.PageTexts.{end_of_line, IsTag, IsSeparator, InARow, IsFront, SpellsRow, SpellsRows}
use Rattle.fax_pagestore.specs.WrittenPages.{is_one_dimensional, tag_bits, next_tag, ends_of_line, fill, WritesRow, WritesRows}
use Rattle.fax_pagestore.specs.PageLaws.{WrittenPagesMean}

-- ---- tags

-- the tag before some rows, of which the first has this index
abbrev pub tag_before : Coding → Bool → ℕ → List Elements → Bool
tag_before coding fine index [] = true
tag_before coding fine index (row ∷ rows) = is_one_dimensional coding fine index

-- The first row of a page is one-dimensional.
pub first_is_one_dimensional : (coding : Coding) (fine : Bool) → is_one_dimensional coding fine 0 ≡ true
first_is_one_dimensional Mh fine = refl
first_is_one_dimensional Mr true = refl
first_is_one_dimensional Mr false = refl

-- So the tag before the first row is 1.
first_tag : (coding : Coding) (fine : Bool) (rows : List Elements) → true ≡ tag_before coding fine 0 rows
first_tag coding fine [] = refl
first_tag coding fine (row ∷ rows) = sym (first_is_one_dimensional coding fine)

-- The tag after a row is the tag before those that follow.
next_tag_is : (coding : Coding) (fine : Bool) (index : ℕ) (rows : List Elements) → next_tag coding fine index rows ≡ tag_before coding fine (index + 1) rows
next_tag_is coding fine index [] = refl
next_tag_is coding fine index (row ∷ rows) = refl

-- The bits of a tag after a row are its text.
next_tag-text : (coding : Coding) (fine : Bool) (index : ℕ) (rows : List Elements) → IsTag coding (next_tag coding fine index rows) (tag_bits coding (next_tag coding fine index rows))
next_tag-text Mh fine index [] = (refl, refl)
next_tag-text Mh fine index (row ∷ rows) = (refl, refl)
next_tag-text Mr fine index rows = refl

-- So are those of the tag 1.
true-text : (coding : Coding) → IsTag coding true (tag_bits coding true)
true-text Mh = (refl, refl)
true-text Mr = refl

-- ---- separators and the front

-- An EOL and its tag are a front.
end_of_line-front : (coding : Coding) (tag : Bool) (tag_text : List Bool) → IsTag coding tag tag_text → IsFront coding tag (end_of_line ++ tag_text)
end_of_line-front coding tag tag_text is = record {
  front = end_of_line;
  tag_text = tag_text;
  text_is = refl;
  ends = ([], refl);
  shortest = λ k lt h. (
      let sizes : length (take k end_of_line) ≡ length h.0 + length end_of_line = ap length h.1 ∙ length-append h.0 end_of_line in
      let short : length (take k end_of_line) ≡ k = length-take-le k end_of_line (omega arith) in
      omega arith);
  is_tag = is;
}

-- any zeros, an EOL and its tag are a separator
zeros-separator : (coding : Coding) (tag : Bool) (tag_text : List Bool) (n : ℕ) → IsTag coding tag tag_text
    → IsSeparator coding tag (replicate n false ++ (end_of_line ++ tag_text))
unfolding end_of_line
zeros-separator coding tag tag_text n is = (
  n + 11,
  tag_text,
  omega arith,
  is,
  sym (append_assoc (replicate n false) (replicate 11 false) (true ∷ tag_text)) ∙ ap (λ b. b ++ true ∷ tag_text) (replicate-append-replicate n 11 false),
)

-- Fill, an EOL and its tag are a separator.
fill-separator : (coding : Coding) (tag : Bool) (tag_text : List Bool) (least : ℕ) (line : List Bool) → IsTag coding tag tag_text
    → IsSeparator coding tag (fill least line ++ (end_of_line ++ tag_text))
unfolding fill
fill-separator coding tag tag_text least line is = zeros-separator coding tag tag_text (least - (length line + length end_of_line)) is

-- So many EOL of tag 1 after another are as many separators in a row.
ends_of_line-in_a_row : (coding : Coding) (n : ℕ) → InARow coding true n (ends_of_line coding n) true
unfolding ends_of_line
ends_of_line-in_a_row coding zero = (refl, refl)
ends_of_line-in_a_row coding (suc n) = (
  refl,
  end_of_line ++ tag_bits coding true,
  ends_of_line coding n,
  true,
  sym (append_assoc end_of_line (tag_bits coding true) (ends_of_line coding n)),
  zeros-separator coding true (tag_bits coding true) 0 (true-text coding),
  ends_of_line-in_a_row coding n,
)

-- ---- lines

-- The line in which a row is written spells it.
written_row_is_spelt : (width : ℕ) (tag : Bool) (before : Option Elements) (row : Elements) (line : List Bool) → IsWidth width → length row ≡ width
    → WritesRow tag before row line → SpellsRow width tag before line row
written_row_is_spelt width true before row line is size w =
    subst (λ n. mh.SpellsLine n line row) size (mh_laws.written_line_is_spelt row line w (subst IsWidth (sym size) is))
written_row_is_spelt width false (Some reference) row line is size w = mr_laws.written_line_is_spelt reference row line (subst IsWidth (sym size) is) w
written_row_is_spelt width false None row line is size w = w

-- the text of a row with its fill, an EOL and a tag, and of those after it, grouped as it is read
row_bits : (line filled tag_text rest : List Bool)
    → line ++ (filled ++ (end_of_line ++ (tag_text ++ rest))) ≡ line ++ ((filled ++ (end_of_line ++ tag_text)) ++ rest)
row_bits line filled tag_text rest =
    ap (λ b. line ++ b) (
    ap (λ b. filled ++ b) (sym (append_assoc end_of_line tag_text rest))
    ∙ sym (append_assoc filled (end_of_line ++ tag_text) rest))

-- The lines of rows as they are written, each with its fill, EOL and tag, spell the rows.
WritesRows-spells : (width least : ℕ) (coding : Coding) (fine : Bool) (index : ℕ) (tag : Bool) (before : Option Elements) (rows : List Elements)
    (text : List Bool) → IsWidth width → All (λ row. length row ≡ width) rows → tag ≡ tag_before coding fine index rows
    → WritesRows coding fine least index before rows text → SpellsRows coding width tag before rows text true
WritesRows-spells width least coding fine index tag before [] text is each t w = (w, sym t)
WritesRows-spells width least coding fine index tag before (row ∷ rows) text is each t (line, rest, writes, e, more) =
    let size : length row ≡ width = All-head (λ r. length r ≡ width) row rows each in
    let others : All (λ r. length r ≡ width) rows = All-tail (λ r. length r ≡ width) row rows each in
    let spelt : SpellsRow width (is_one_dimensional coding fine index) before line row =
    written_row_is_spelt width (is_one_dimensional coding fine index) before row line is size writes in (
      line,
      fill least line ++ (end_of_line ++ tag_bits coding (next_tag coding fine index rows)),
      rest,
      next_tag coding fine index rows,
      e ∙ row_bits line (fill least line) (tag_bits coding (next_tag coding fine index rows)) rest,
      subst (λ b. SpellsRow width b before line row) (sym t) spelt,
      fill-separator coding (next_tag coding fine index rows) (tag_bits coding (next_tag coding fine index rows)) least line (next_tag-text coding fine index rows),
      WritesRows-spells width least coding fine (index + 1) (next_tag coding fine index rows) (Some row) rows rest is others (next_tag_is coding fine index rows) more,
    )

-- what follows the text of a page, whose parts are read one after another
written_bits : (tag_text lines ends text x : List Bool) → text ≡ end_of_line ++ (tag_text ++ (lines ++ ends))
    → text ++ x ≡ (end_of_line ++ tag_text) ++ (lines ++ (ends ++ x))
written_bits tag_text lines ends text x e =
    ap (λ b. b ++ x) (e ∙ sym (append_assoc end_of_line tag_text (lines ++ ends)))
    ∙ append_assoc (end_of_line ++ tag_text) (lines ++ ends) x
    ∙ ap (λ b. (end_of_line ++ tag_text) ++ b) (append_assoc lines ends x)

-- The text in which a page is written, padded to octets, means the page.
pub written_pages_mean : WrittenPagesMean
written_pages_mean width coding fine least rows text octets is are (lines, w, e) (zeros, few, b) = record {
  are_rows = are;
  more = replicate zeros false;
  read = record {
    front = end_of_line ++ tag_bits coding true;
    lines = lines;
    separators = ends_of_line coding 5;
    front_tag = true;
    row_tag = true;
    is_front = end_of_line-front coding true (tag_bits coding true) (true-text coding);
    spelt = WritesRows-spells width least coding fine 0 true None rows lines is are.each (first_tag coding fine rows) w;
    in_a_row = ends_of_line-in_a_row coding 5;
    bits_are = b ∙ written_bits (tag_bits coding true) lines (ends_of_line coding 5) text (replicate zeros false) e;
  };
}
