-- Pages that are written step by step.
use Rattle.std.proofs.Common.{◌≡◌, ◌⊎◌, ℕ, zero, suc, ◌+◌, ◌-◌, ◌*◌, ◌<◌, ◌≤◌, Bool, true, false, List, [], ◌∷◌, ◌++◌, length, take, drop, Option, Some, None, Result, Ok, Err, OnErr, is_none, slice_get, refl, sym, ◌∙◌, ap, subst, inl, inr, arith, append_assoc, append-nil, length-append, add-one}
use Rattle.std.proofs.Math.Seq.{drop-cons}
use Rattle.std.proofs.lemmas.List.{drop_all, drop-append-le, nil_from_length, take_at}
use Rattle.std.proofs.lemmas.List.Elements.{All-drop}
use Rattle.std.proofs.lemmas.Option.{get_or_from_slice_get}
use Rattle.fax_bits.specs.Writing.{IsPadded}
use Rattle.fax_runcodes.specs.declared.format.Coding.{Coding}
use Rattle.fax_runcodes.specs.Rows.{Elements}
use Rattle.fax_pagestore.specs.declared.writer.Place.{Place}
use Rattle.fax_pagestore.specs.declared.writer.Place.TheVariants.{Front, Row, End}
use Rattle.fax_pagestore.specs.PageTexts.{end_of_line}
use Rattle.fax_pagestore.specs.Pages.{PageValue}
use Rattle.fax_pagestore.specs.WrittenPages.{is_one_dimensional, tag_bits, next_tag, ends_of_line, fill, WritesRow, WritesRows}
use Rattle.fax_pagestore.specs.Writers.{WriterValue, HasLeft, WritesOn, IsWrittenFrom, row_ahead}
use Rattle.fax_pagestore.proofs.RowsWritten.{IsReference, written_by_tag, row_bits}
use Rattle.fax_pagestore.proofs.WrittenLemmas.{first_is_one_dimensional}
use Rattle.fax_pagestore.proofs.WrittenOnce.{row_one}
use Rattle.fax_pagestore.proofs.WaitingLemmas.{IsPadded-drop, length-padded}

-- ---- steps

pub WritesOn-none : (coding : Coding) (least : ℕ) (page : PageValue) (place : Place) (bits : List Bool) → WritesOn coding least page place place bits bits
WritesOn-none coding least page place bits = record {
  bits = [];
  put = sym (append-nil bits);
  rest = λ text written. (text, refl, written);
}

pub WritesOn-more : (coding : Coding) (least : ℕ) (page : PageValue) (first second third : Place) (old now new : List Bool)
    → WritesOn coding least page first second old now → WritesOn coding least page second third now new → WritesOn coding least page first third old new
WritesOn-more coding least page first second third old now new one two = record {
  bits = one.bits ++ two.bits;
  put = two.put ∙ ap (λ b. b ++ two.bits) one.put ∙ append_assoc old one.bits two.bits;
  rest = λ text written. (
      let a = one.rest text written in
      let b = two.rest a.0 a.2 in
      (b.0, a.1 ∙ ap (λ m. one.bits ++ m) b.1 ∙ sym (append_assoc one.bits two.bits b.0), b.2));
}

-- where the last step failed, bits were put too
pub goes_on : (coding : Coding) (least : ℕ) (page : PageValue) (first second : Place) (old now new : List Bool) → WritesOn coding least page first second old now
    → (bits : List Bool) × (new ≡ now ++ bits) → (bits : List Bool) × (new ≡ old ++ bits)
goes_on coding least page first second old now new on (bits, e) = (on.bits ++ bits, e ∙ ap (λ b. b ++ bits) on.put ∙ append_assoc old on.bits bits)

-- nothing was put
pub none_put : (old new : List Bool) → new ≡ old → (bits : List Bool) × (new ≡ old ++ bits)
none_put old new e = ([], e ∙ sym (append-nil old))

-- the bits before which bits were put
pub within_more : (n : ℕ) (old new : List Bool) → n ≡ length old → (bits : List Bool) × (new ≡ old ++ bits) → n ≤ length new
within_more n old new is (bits, e) = omega (arith, ap length e, length-append old bits)

pub first_kept : (n : ℕ) (old new : List Bool) → n ≡ length old → (bits : List Bool) × (new ≡ old ++ bits) → take n new ≡ old
first_kept n old new is (bits, e) = ap (take n) e ∙ take_at old bits n (sym is)

-- the same, said of bits that were before and of bits that are
pub put_after : (old start new held : List Bool) → start ≡ old → held ≡ new → (bits : List Bool) × (new ≡ start ++ bits) → (bits : List Bool) × (held ≡ old ++ bits)
put_after old start new held is are (bits, e) = (bits, are ∙ e ∙ ap (λ b. b ++ bits) is)

-- a writer that lets no more bits wait than before
pub as_before : (w : WriterValue) (n : ℕ) (new : List Bool) → n ≡ length w.waiting → (bits : List Bool) × (new ≡ w.waiting ++ bits) → record w { waiting = take n new } ≡ w
as_before w n new is put = ap (λ (b : List Bool). let v : WriterValue = record w { waiting = b } in v) (first_kept n w.waiting new is put)

-- what holds whatever the result
pub on_err : {T E P : Type 0} (r : Result T E) → P → OnErr r P
on_err (Ok x) p = tt
on_err (Err e) p = p

-- more bits are there
pub longer_by : (old bits new : List Bool) → new ≡ old ++ bits → 0 < length bits → length old < length new
longer_by old bits new e some = omega (arith, ap length e, length-append old bits)

length-eol : (more : List Bool) → 0 < length (end_of_line ++ more)
unfolding end_of_line
length-eol more = omega arith

length-ends : (coding : Coding) → 0 < length (ends_of_line coding 5)
unfolding ends_of_line
length-ends coding = length-eol (tag_bits coding true ++ ends_of_line coding 4)

-- ---- the first EOL

pub front_written : (coding : Coding) (least : ℕ) (page : PageValue) (old new : List Bool) → new ≡ old ++ (end_of_line ++ tag_bits coding true)
    → WritesOn coding least page Front (Row 0) old new
front_written coding least page old new e = record {
  bits = end_of_line ++ tag_bits coding true;
  put = e;
  rest = λ text (lines, writes, text_is). (
    lines ++ ends_of_line coding 5,
    text_is ∙ sym (append_assoc end_of_line (tag_bits coding true) (lines ++ ends_of_line coding 5)),
    (lines, writes, refl),
  );
}

pub front_longer : (coding : Coding) (tag : Bool) (old new : List Bool) → new ≡ old ++ (end_of_line ++ tag_bits coding tag) → length old < length new
front_longer coding tag old new e = longer_by old (end_of_line ++ tag_bits coding tag) new e (length-eol (tag_bits coding tag))

-- ---- the last EOLs

pub ends_written : (coding : Coding) (least : ℕ) (page : PageValue) (n : ℕ) (old new : List Bool) → length page.rows ≤ n
    → new ≡ old ++ ends_of_line coding 5 → WritesOn coding least page (Row n) End old new
ends_written coding least page n old new le e = record {
  bits = ends_of_line coding 5;
  put = e;
  rest = λ text (lines, writes, text_is). (
      let no_lines : lines ≡ [] =
      subst (λ rows. WritesRows coding page.format.fine least n (row_ahead page.rows n) rows lines) (drop_all n page.rows le) writes in
      ([], text_is ∙ ap (λ l. l ++ ends_of_line coding 5) no_lines ∙ sym (append-nil (ends_of_line coding 5)), refl));
}

pub ends_longer : (coding : Coding) (old new : List Bool) → new ≡ old ++ ends_of_line coding 5 → length old < length new
ends_longer coding old new e = longer_by old (ends_of_line coding 5) new e (length-ends coding)

-- ---- the line of a row

-- what was put for the row
pub record RowPut (coding : Coding) (least : ℕ) (page : PageValue) (n : ℕ) (old lined new : List Bool) : Type 0 where
  pub row : Elements
  pub reference : Option Elements
  pub tag : Bool
  pub line : List Bool
  pub inside : n < length page.rows
  pub is : slice_get page.rows n ≡ Some row
  pub some : 0 < length row
  pub is_reference : IsReference (is_one_dimensional coding page.format.fine n) (row_ahead page.rows n) reference
  pub tag_is : tag ≡ next_tag coding page.format.fine n (drop (n + 1) page.rows)
  pub writes : WritesRow (is_none reference) reference row line
  pub line_put : lined ≡ old ++ (line ++ fill least line)
  pub end_put : new ≡ lined ++ (end_of_line ++ tag_bits coding tag)

pub row_written : (coding : Coding) (least : ℕ) (page : PageValue) (n : ℕ) (old lined new : List Bool) → RowPut coding least page n old lined new
    → WritesOn coding least page (Row n) (Row (n + 1)) old new
row_written coding least page n old lined new p =
    let here : drop n page.rows ≡ p.row ∷ drop (n + 1) page.rows =
    drop-cons page.rows n p.row p.inside ∙ ap (λ r. r ∷ drop (suc n) page.rows) (get_or_from_slice_get page.rows n p.row p.row p.is)
    ∙ ap (λ m. p.row ∷ drop m page.rows) (sym (add-one n)) in
    let own : WritesRow (is_one_dimensional coding page.format.fine n) (row_ahead page.rows n) p.row p.line =
    written_by_tag (is_one_dimensional coding page.format.fine n) (row_ahead page.rows n) p.reference p.row p.line p.is_reference p.writes in
    let next_is : Some p.row ≡ row_ahead page.rows (n + 1) = sym (ap (row_ahead page.rows) (add-one n) ∙ p.is) in
    let bits : List Bool = (p.line ++ fill least p.line) ++ (end_of_line ++ tag_bits coding p.tag) in
    record {
      bits = bits;
      put = p.end_put ∙ ap (λ b. b ++ (end_of_line ++ tag_bits coding p.tag)) p.line_put
          ∙ append_assoc old (p.line ++ fill least p.line) (end_of_line ++ tag_bits coding p.tag);
      rest = λ text (lines, writes, text_is). (
          let these : WritesRows coding page.format.fine least n (row_ahead page.rows n) (p.row ∷ drop (n + 1) page.rows) lines =
          subst (λ rows. WritesRows coding page.format.fine least n (row_ahead page.rows n) rows lines) here writes in
          let line = these.0 in
          let more = these.1 in
          let same : line ≡ p.line =
          row_one (is_one_dimensional coding page.format.fine n) (row_ahead page.rows n) p.row line p.line p.some these.2 own in
          let lines_are : lines ≡ bits ++ more =
          these.3
          ∙ ap (λ (l : List Bool). l ++ (fill least l ++ (end_of_line ++ (tag_bits coding (next_tag coding page.format.fine n (drop (n + 1) page.rows)) ++ more)))) same
          ∙ ap (λ (t : Bool). p.line ++ (fill least p.line ++ (end_of_line ++ (tag_bits coding t ++ more)))) (sym p.tag_is)
          ∙ sym (row_bits p.line (fill least p.line) (tag_bits coding p.tag) more) in (
            more ++ ends_of_line coding 5,
            text_is ∙ ap (λ l. l ++ ends_of_line coding 5) lines_are ∙ append_assoc bits more (ends_of_line coding 5),
            (more, subst (λ before. WritesRows coding page.format.fine least (n + 1) before (drop (n + 1) page.rows) more) next_is these.4, refl),
          ));
    }

pub row_longer : (coding : Coding) (tag : Bool) (old line lined new : List Bool) → lined ≡ old ++ line
    → new ≡ lined ++ (end_of_line ++ tag_bits coding tag) → length old < length new
row_longer coding tag old line lined new e f = omega (arith, front_longer coding tag lined new f, ap length e, length-append old line)

-- a row that is written alone
pub reference_alone : (tag : Bool) (before reference : Option Elements) → tag ≡ true → reference ≡ None → IsReference tag before reference
reference_alone tag before reference alone none = subst (λ t. IsReference t before reference) (sym alone) none

after_first : (coding : Coding) (fine : Bool) (n : ℕ) → is_one_dimensional coding fine n ≡ false → 0 < n
after_first coding fine zero e =
    let contradiction : true ≡ false = sym (first_is_one_dimensional coding fine) ∙ e in
    absurd (cc)
after_first coding fine (suc n) e = omega arith

-- a row that is written against the row before
pub reference_after : (coding : Coding) (fine : Bool) (rows : List Elements) (n : ℕ) (row : Elements) (reference : Option Elements)
    → is_one_dimensional coding fine n ≡ false → slice_get rows (n - 1) ≡ Some row → reference ≡ Some row
    → IsReference (is_one_dimensional coding fine n) (row_ahead rows n) reference
reference_after coding fine rows zero row reference after is e = absurd (omega (arith, after_first coding fine zero after))
reference_after coding fine rows (suc n) row reference after is e =
    let before : suc n - 1 ≡ n = omega arith in
    subst (λ t. IsReference t (slice_get rows n) reference) (sym after) (row, ap (slice_get rows) (sym before) ∙ is, e)

-- ---- what is given

-- what is after the bits that wait, and what is left where n octets are given
pub record Gives (page : PageValue) (octets : List ℕ) (w : WriterValue) (place : Place) (new : List Bool) (n : ℕ) : Type 0 where
  pub more : List Bool
  pub padded : IsPadded octets (new ++ more)
  pub enough : (8 * n ≤ length new) ⊎ (more ≡ [])
  pub next : HasLeft page (drop n octets) record w { place = place; waiting = drop (8 * n) new }

drop_front : (bits more : List Bool) (n : ℕ) → (n ≤ length bits) ⊎ (more ≡ []) → drop n (bits ++ more) ≡ drop n bits ++ more
drop_front bits more n (inl le) = drop-append-le n bits more le
drop_front bits more n (inr none) = ap (λ m. drop n (bits ++ m)) none ∙ ap (drop n) (append-nil bits) ∙ sym (append-nil (drop n bits)) ∙ ap (λ m. drop n bits ++ m) (sym none)

-- all is written where the place is the end
enough_of : (coding : Coding) (least : ℕ) (page : PageValue) (place : Place) (new more : List Bool) (n : ℕ) → IsWrittenFrom coding least page place more
    → (n ≤ length new) ⊎ (place ≡ End) → (n ≤ length new) ⊎ (more ≡ [])
enough_of coding least page place new more n written (inl le) = inl le
enough_of coding least page place new more n written (inr end) = inr (subst (λ p. IsWrittenFrom coding least page p more) end written)

pub gives : (page : PageValue) (octets : List ℕ) (w : WriterValue) (place : Place) (new : List Bool) (n : ℕ) → HasLeft page octets w
    → WritesOn w.coding w.least page w.place place w.waiting new → (8 * n ≤ length new) ⊎ (place ≡ End) → Gives page octets w place new n
gives page octets w place new n has on enough =
    let after = on.rest has.text has.written in
    let more : List Bool = after.0 in
    let all : w.waiting ++ has.text ≡ new ++ more =
    ap (λ t. w.waiting ++ t) after.1 ∙ sym (append_assoc w.waiting on.bits more) ∙ ap (λ b. b ++ more) (sym on.put) in
    let padded : IsPadded octets (new ++ more) = subst (IsPadded octets) all has.padded in
    let is_enough : (8 * n ≤ length new) ⊎ (more ≡ []) = enough_of w.coding w.least page place new more (8 * n) after.2 enough in
    record {
      more = more;
      padded = padded;
      enough = is_enough;
      next = record {
        are_octets = All-drop (λ o. o < 256) n octets has.are_octets;
        same_format = has.same_format;
        text = more;
        written = after.2;
        padded = subst (IsPadded (drop n octets)) (drop_front new more (8 * n) is_enough) (IsPadded-drop octets (new ++ more) n padded);
      };
    }

-- ---- the end

-- where nothing is left to be written, the page is at its end
nothing_written : (coding : Coding) (least : ℕ) (page : PageValue) (place : Place) → IsWrittenFrom coding least page place [] → place ≡ End
nothing_written coding least page Front (lines, writes, e) =
    absurd (omega (arith, ap length e, length-eol (tag_bits coding true ++ (lines ++ ends_of_line coding 5))))
nothing_written coding least page (Row n) (lines, writes, e) =
    absurd (omega (arith, ap length e, length-append lines (ends_of_line coding 5), length-ends coding))
nothing_written coding least page End written = refl

pub none_left : (page : PageValue) (w : WriterValue) → HasLeft page [] w → (w.place ≡ End) × (length w.waiting ≡ 0)
none_left page w has =
    let size : 8 * length {A = ℕ} [] ≡ length (w.waiting ++ has.text) + has.padded.0 = length-padded [] (w.waiting ++ has.text) has.padded in
    let both = length-append w.waiting has.text in
    let no_text : has.text ≡ [] = nil_from_length has.text (omega arith) in
    (nothing_written w.coding w.least page w.place (subst (IsWrittenFrom w.coding w.least page w.place) no_text has.written), omega arith)

pub all_given : (page : PageValue) (octets : List ℕ) (w : WriterValue) → w.place ≡ End → length w.waiting ≡ 0 → HasLeft page octets w → octets ≡ []
all_given page octets w end none has =
    let no_text : has.text ≡ [] = subst (λ p. IsWrittenFrom w.coding w.least page p has.text) end has.written in
    let size = length-padded octets (w.waiting ++ has.text) has.padded in
    let both = length-append w.waiting has.text in
    let no_more : length has.text ≡ 0 = ap length no_text in
    let few = has.padded.1 in
    nil_from_length octets (omega arith)

-- bits wait where so many were written, or where all is written and some was
pub some_wait : (n : ℕ) (place : Place) (bits : List Bool) → 1 ≤ n → (8 * n ≤ length bits) ⊎ (place ≡ End) → (place ≡ End → bits ≡ [] → ⊥) → bits ≡ [] → ⊥
some_wait n place bits some (inl enough) more none = let long : length bits ≡ 0 = ap length none in absurd (omega arith)
some_wait n place bits some (inr end) more none = more end none
