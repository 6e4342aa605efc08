-- The strip of a page, with a return to control after it, means the page.
use Rattle.std.proofs.Common.{◌≡◌, ℕ, zero, suc, ◌+◌, ◌-◌, ◌<◌, ◌≤◌, Bool, true, false, List, [], ◌∷◌, ◌++◌, All, length, take, replicate, Option, Some, None, refl, sym, ◌∙◌, ap, subst, arith, append_assoc, append-nil, length-append}
use Rattle.std.proofs.lemmas.List.{append_cancel_right, replicate-append-replicate, length-take-le}
use Rattle.std.proofs.lemmas.List.Elements.{All-head, All-tail}
use Rattle.fax_bits.specs.Bits.{bit, bits_of, word_bits}
use Rattle.fax_bits.proofs.BitsLemmas.{bits_of-append}
use Rattle.fax_runcodes.specs.declared.format.Coding.TheVariants.{Mh}
use Rattle.fax_runcodes.specs.declared.format.Format.{Format}
use Rattle.fax_runcodes.specs.Rows.{Elements, IsWidth}
use Rattle.fax_runcodes.specs.Widths.{elements_of}
use Rattle.fax_mhcode.specs.Lines as mh
use Rattle.fax_mhcode.proofs.LineLaws.{IsWidth-elements}
use Rattle.fax_mhcode.proofs.WrittenLaws as mh_laws
use Rattle.fax_pagestore.specs.Pages.{IsPage, PageValue}
use Rattle.fax_pagestore.specs.PageTexts.{InARow, IsFront, IsSeparator, IsTag, MeansPage, SpellsRow, SpellsRows, end_of_line}
use Rattle.fax_pagestore.specs.WrittenPages.{WritesPage, WritesRows, ends_of_line, fill}
use Rattle.fax_tiff.specs.ReadTiffs.{MeansText, in_order, return_to_control, text_of}
use Rattle.fax_tiff.specs.Strips.{CodedPage, IsCodedPage, IsStripOf}
use Rattle.fax_tiff.proofs.ReadBackLemmas.{text_back}

-- zeros, fill and an EOL are a separator
filled : (least n : ℕ) (line : List Bool) → IsSeparator Mh true (fill least line ++ (replicate n false ++ end_of_line))
unfolding fill end_of_line
filled least n line =
    let k : ℕ = least - (length line + length (replicate 11 false ++ true ∷ [])) in (
      k + (n + 11),
      [],
      omega arith,
      (refl, refl),
      ap (λ (l : List Bool). replicate k false ++ l) (sym (append_assoc (replicate n false) (replicate 11 false) (true ∷ [])) ∙ ap (λ (l : List Bool). l ++ true ∷ []) (replicate-append-replicate n 11 false))
          ∙ sym (append_assoc (replicate k false) (replicate (n + 11) false) (true ∷ []))
          ∙ ap (λ (l : List Bool). l ++ true ∷ []) (replicate-append-replicate k (n + 11) false),
    )

separates : (least : ℕ) (line : List Bool) → IsSeparator Mh true (fill least line ++ end_of_line)
separates least line = filled least 0 line

spelt_line : (width : ℕ) (row : Elements) (line : List Bool) → IsWidth width → length row ≡ width → mh.WritesLine row line → mh.SpellsLine width line row
spelt_line width row line is size w = subst (λ (n : ℕ). mh.SpellsLine n line row) size (mh_laws.written_line_is_spelt row line w (subst IsWidth (sym size) is))

-- The lines of rows, where so many zeros stand before the last EOL.
record HasFront (width n : ℕ) (before : Option Elements) (rows : List Elements) (text : List Bool) : Type 0 where
  front : List Bool
  text_is : text ≡ front ++ end_of_line
  spelt : SpellsRows Mh width true before rows (front ++ (replicate n false ++ end_of_line)) true

has_front : (width n : ℕ) (fine : Bool) (least index : ℕ) (before : Option Elements) (row : Elements) (rows : List Elements) (text : List Bool) → IsWidth width
    → All (λ row. length row ≡ width) (row ∷ rows) → WritesRows Mh fine least index before (row ∷ rows) text → HasFront width n before (row ∷ rows) text
has_front width n fine least index before row [] text is each (line, rest, writes, e, none) = record {
  front = line ++ fill least line;
  text_is = e ∙ ap (λ r. line ++ (fill least line ++ (end_of_line ++ r))) none ∙ ap (λ r. line ++ (fill least line ++ r)) (append-nil end_of_line)
      ∙ sym (append_assoc line (fill least line) end_of_line);
  spelt = (
    line,
    fill least line ++ (replicate n false ++ end_of_line),
    [],
    true,
    append_assoc line (fill least line) (replicate n false ++ end_of_line) ∙ ap (λ r. line ++ r) (sym (append-nil (fill least line ++ (replicate n false ++ end_of_line)))),
    spelt_line width row line is (All-head (λ r. length r ≡ width) row [] each) writes,
    filled least n line,
    (refl, refl),
  );
}
has_front width n fine least index before row (next ∷ rows) text is each (line, rest, writes, e, more) =
    let later = has_front width n fine least (index + 1) (Some row) next rows rest is (All-tail (λ r. length r ≡ width) row (next ∷ rows) each) more in
    record {
      front = line ++ ((fill least line ++ end_of_line) ++ later.front);
      text_is = e ∙ ap (λ r. line ++ (fill least line ++ (end_of_line ++ r))) later.text_is
          ∙ ap (λ r. line ++ r) (sym (append_assoc (fill least line) end_of_line (later.front ++ end_of_line)) ∙ sym (append_assoc (fill least line ++ end_of_line) later.front end_of_line))
          ∙ sym (append_assoc line ((fill least line ++ end_of_line) ++ later.front) end_of_line);
      spelt = (
        line,
        fill least line ++ end_of_line,
        later.front ++ (replicate n false ++ end_of_line),
        true,
        append_assoc line ((fill least line ++ end_of_line) ++ later.front) (replicate n false ++ end_of_line)
            ∙ ap (λ r. line ++ r) (append_assoc (fill least line ++ end_of_line) later.front (replicate n false ++ end_of_line)),
        spelt_line width row line is (All-head (λ r. length r ≡ width) row (next ∷ rows) each) writes,
        separates least line,
        later.spelt,
      );
    }

eol_separates : IsSeparator Mh true end_of_line
unfolding fill end_of_line
eol_separates = filled 0 0 []

-- ---- the front, and the return to control

eol_front : IsFront Mh true end_of_line
eol_front = record {
  front = end_of_line;
  tag_text = [];
  text_is = sym (append-nil end_of_line);
  ends = ([], refl);
  shortest = λ k lt h. (
      let sizes : length (take k end_of_line) ≡ length h.0 + length end_of_line = ap length h.1 ∙ length-append h.0 end_of_line in
      let short : length (take k end_of_line) ≡ k = length-take-le k end_of_line (omega arith) in
      omega arith);
  is_tag = (refl, refl);
}

ends_in_a_row : (n : ℕ) → InARow Mh true n (ends_of_line Mh n) true
unfolding ends_of_line
ends_in_a_row zero = (refl, refl)
ends_in_a_row (suc n) = (refl, end_of_line, ends_of_line Mh n, true, refl, eol_separates, ends_in_a_row n)

return_bits : bits_of (return_to_control Mh) ≡ ends_of_line Mh 6
unfolding bits_of word_bits bit return_to_control ends_of_line end_of_line
return_bits = refl

six : ends_of_line Mh 6 ≡ end_of_line ++ ends_of_line Mh 5
unfolding ends_of_line
six = refl

-- ---- the page

-- the bits of a strip and a return to control, as they are read
read_bits : (front ends zeros : List Bool) → ((end_of_line ++ front) ++ zeros) ++ (end_of_line ++ ends) ≡ end_of_line ++ ((front ++ (zeros ++ end_of_line)) ++ (ends ++ []))
read_bits front ends zeros = simp (append_assoc, append-nil)

lines_are : (front lines l : List Bool) → l ≡ front ++ end_of_line → lines ++ ends_of_line Mh 6 ≡ end_of_line ++ (l ++ ends_of_line Mh 5) → lines ≡ end_of_line ++ front
lines_are front lines l e w =
    append_cancel_right lines (end_of_line ++ front) (ends_of_line Mh 6)
    (w ∙ ap (λ (x : List Bool). end_of_line ++ (x ++ ends_of_line Mh 5)) e ∙ ap (λ (x : List Bool). end_of_line ++ x) (append_assoc front end_of_line (ends_of_line Mh 5))
    ∙ ap (λ (x : List Bool). end_of_line ++ (front ++ x)) (sym six) ∙ sym (append_assoc end_of_line front (ends_of_line Mh 6)))

rows_mean : (page : PageValue) (row : Elements) (rows : List Elements) (strip : List ℕ) → page.rows ≡ row ∷ rows → IsPage page → IsStripOf page strip
    → MeansPage page.format Mh (strip ++ return_to_control Mh) page
rows_mean page row rows strip r is s =
    let width : ℕ = elements_of page.format.width in
    let written = s.written in
    let w : WritesRows Mh page.format.fine 0 0 None (row ∷ rows) written.0 = subst (λ (x : List Elements). WritesRows Mh page.format.fine 0 0 None x written.0) r written.1 in
    let f = has_front width s.zeros page.format.fine 0 0 None row rows written.0 (IsWidth-elements page.format.width) (subst (λ (x : List Elements). All (λ row. length row ≡ width) x) r is.each) w in
    let lines : s.lines ≡ end_of_line ++ f.front = lines_are f.front s.lines written.0 f.text_is written.2 in (
      refl,
      record {
        are_rows = is;
        more = [];
        read = record {
          front = end_of_line;
          lines = f.front ++ (replicate s.zeros false ++ end_of_line);
          separators = ends_of_line Mh 5;
          front_tag = true;
          row_tag = true;
          is_front = eol_front;
          spelt = subst (λ (x : List Elements). SpellsRows Mh width true None x (f.front ++ (replicate s.zeros false ++ end_of_line)) true) (sym r) f.spelt;
          in_a_row = ends_in_a_row 5;
          bits_are = bits_of-append strip (return_to_control Mh) ∙ ap (λ (x : List Bool). x ++ bits_of (return_to_control Mh)) (s.bits_are ∙ ap (λ (x : List Bool). x ++ replicate s.zeros false) lines)
              ∙ ap (λ (x : List Bool). ((end_of_line ++ f.front) ++ replicate s.zeros false) ++ x) (return_bits ∙ six)
              ∙ read_bits f.front (ends_of_line Mh 5) (replicate s.zeros false);
        };
      },
    )

strip_means : (page : PageValue) (strip : List ℕ) (rows : List Elements) → page.rows ≡ rows → IsPage page → IsStripOf page strip
    → MeansPage page.format Mh (strip ++ return_to_control Mh) page
strip_means page strip [] r is s = let none : length page.rows ≡ 0 = ap length r in absurd (omega (arith, is.some))
strip_means page strip (row ∷ rows) r is s = rows_mean page row rows strip r is s

-- A page that was coded is meant by what is read of it.
pub coded_means : (page : PageValue) (coded : CodedPage) → IsPage page → IsCodedPage page coded → MeansText (text_back coded) page
unfolding text_of in_order
coded_means page coded is c = record {
  means = subst (λ (f : Format). MeansPage f Mh (coded.strip ++ return_to_control Mh) page) (sym c.format_is) (strip_means page coded.strip page.rows refl is c.strip_is);
  height = sym c.height_is;
}
