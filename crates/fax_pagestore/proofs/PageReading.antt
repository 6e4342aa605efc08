-- A page that is being read: its rows so far, and what an exact reader answers.
use Rattle.std.proofs.Common.{◌≡◌, ◌≢◌, ℕ, zero, suc, ◌<◌, ◌≤◌, Bool, true, false, List, [], ◌∷◌, ◌++◌, All, Option, Some, None, length, refl, sym, ◌∙◌, ap, subst, arith, append_assoc, append-nil, inl, inr, ◌⊎◌, Result, Ok, Err, IfOk, IfErr}
use Rattle.std.proofs.lemmas.List.{nil_from_length, length_push}
use Rattle.std.proofs.lemmas.List.Elements.{All-push, All-head, All-tail}
use Rattle.fax_bits.specs.Reading.{Place, Passes}
use Rattle.fax_runcodes.specs.declared.format.Coding.{Coding}
use Rattle.fax_runcodes.specs.declared.format.Format.{Format}
use Rattle.fax_runcodes.specs.Rows.{Elements}
use Rattle.fax_runcodes.specs.Widths.{elements_of}
use Rattle.fax_mhcode.proofs.LineLaws.{IsWidth-elements}
use Rattle.fax_pagestore.specs.declared.fault.PageFault.{PageFault}
use Rattle.fax_pagestore.specs.declared.fault.PageFault.TheVariants.{NoEol, BadLine, NoRtc, Empty, TooManyRows, NoMemory}
use Rattle.fax_pagestore.specs.PageRows.{most_rows}
use Rattle.fax_pagestore.specs.Pages.{PageValue}
use Rattle.fax_pagestore.specs.PageTexts.{IsSeparator, InARow, SpellsRow, SpellsRows, ReadSoFar, MeansRows, MeansPage}
use Rattle.fax_pagestore.specs.PageFaults.{RunsOut, LineBegins, BreaksReturn, BreaksOff, StopsInReturn, last_of, FailsRow, WantsLine, Stops, FailsAfterFront, FailsPage, row_before}
use Rattle.fax_pagestore.proofs.ReadLemmas.{HasWidth, SpellsRow-length, row_after, row_after-last}
use Rattle.fax_pagestore.proofs.PageLaws.{pages_are_unique, pages_dont_fail, faults_are_unique}

-- ---- widths

-- the last of rows of a width has it
pub last_of-width : (width : ℕ) (rows : List Elements) → All (λ (row : Elements). length row ≡ width) rows → HasWidth width (last_of rows)
last_of-width width [] each = tt
last_of-width width (row ∷ []) each = All-head (λ (v : Elements). length v ≡ width) row [] each
last_of-width width (row ∷ (next ∷ rows)) each = last_of-width width (next ∷ rows) (All-tail (λ (v : Elements). length v ≡ width) row (next ∷ rows) each)

-- ---- the row before: only a line of tag 0 looks at it

-- the row before is known where the tag wants it
abbrev pub Knows : Bool → Option Elements → List Elements → Type 0
Knows tag before rows = tag ≡ false → before ≡ last_of rows

pub SpellsRow-knows : (width : ℕ) (tag : Bool) (before : Option Elements) (rows : List Elements) (text : List Bool) (row : Elements) → Knows tag before rows
    → SpellsRow width tag before text row → SpellsRow width tag (last_of rows) text row
SpellsRow-knows width true before rows text row k p = p
SpellsRow-knows width false before rows text row k p = subst (λ (b : Option Elements). SpellsRow width false b text row) (k refl) p

pub FailsRow-knows : (width : ℕ) (tag : Bool) (before : Option Elements) (rows : List Elements) (bits : List Bool) → Knows tag before rows
    → FailsRow width tag before bits → FailsRow width tag (last_of rows) bits
FailsRow-knows width true before rows bits k p = p
FailsRow-knows width false before rows bits k p = subst (λ (b : Option Elements). FailsRow width false b bits) (k refl) p

-- the last of rows with one more
pub last_of-push : (rows : List Elements) (row : Elements) → last_of (rows ++ row ∷ []) ≡ Some row
last_of-push [] row = refl
last_of-push (first ∷ []) row = refl
last_of-push (first ∷ (next ∷ rows)) row = last_of-push (next ∷ rows) row

-- ---- one more separator, one more row

pub InARow-push : (coding : Coding) (n : ℕ) (tag last next : Bool) (text separator : List Bool) → InARow coding tag n text last → last ≡ true → IsSeparator coding next separator
    → InARow coding tag (suc n) (text ++ separator) next
InARow-push coding zero tag last next text separator (none, same) one is =
    (sym same ∙ one, separator, [], next, ap (λ b. b ++ separator) none ∙ sym (append-nil separator), is, (refl, refl))
InARow-push coding (suc n) tag last next text separator (first_one, first, rest, second, e, pf, pr) one is = (
  first_one,
  first,
  rest ++ separator,
  second,
  ap (λ b. b ++ separator) e ∙ append_assoc first rest separator,
  pf,
  InARow-push coding n second last next rest separator pr one is,
)

SpellsRows-push : (coding : Coding) (width : ℕ) (tag last next : Bool) (before : Option Elements) (rows : List Elements) (row : Elements) (text line separator : List Bool)
    → SpellsRows coding width tag before rows text last → SpellsRow width last (row_after before rows) line row → IsSeparator coding next separator
    → SpellsRows coding width tag before (rows ++ row ∷ []) (text ++ (line ++ separator)) next
SpellsRows-push coding width tag last next before [] row text line separator (none, same) spelt is = (
  line,
  separator,
  [],
  next,
  ap (λ b. b ++ (line ++ separator)) none ∙ ap (λ b. line ++ b) (sym (append-nil separator)),
  subst (λ t. SpellsRow width t before line row) same spelt,
  is,
  (refl, refl),
)
SpellsRows-push coding width tag last next before (first ∷ rows) row text line separator (l, s, rest, second, e, pl, ps, pr) spelt is = (
  l,
  s,
  rest ++ (line ++ separator),
  second,
  ap (λ b. b ++ (line ++ separator)) e ∙ append_assoc l (s ++ rest) (line ++ separator) ∙ ap (λ b. l ++ b) (append_assoc s rest (line ++ separator)),
  pl,
  ps,
  SpellsRows-push coding width second last next (Some first) rows row rest line separator pr spelt is,
)

-- ---- what is read of octets

-- one more row
pub ReadSoFar-row : (coding : Coding) (width : ℕ) (octets : List ℕ) (rows : List Elements) (row : Elements) (tag next : Bool) (bits line separator rest : List Bool)
    → ReadSoFar coding width octets rows 0 tag bits → SpellsRow width tag (last_of rows) line row → IsSeparator coding next separator → bits ≡ (line ++ separator) ++ rest
    → ReadSoFar coding width octets (rows ++ row ∷ []) 0 next rest
ReadSoFar-row coding width octets rows row tag next bits line separator rest r spelt is e =
    let here : SpellsRow width r.row_tag (row_after None rows) line row =
    subst (λ (before : Option Elements). SpellsRow width r.row_tag before line row) (sym (row_after-last rows))
    (subst (λ t. SpellsRow width t (last_of rows) line row) r.in_a_row.1 spelt) in
    record {
      front = r.front;
      lines = r.lines ++ (line ++ separator);
      separators = [];
      front_tag = r.front_tag;
      row_tag = next;
      is_front = r.is_front;
      spelt = SpellsRows-push coding width r.front_tag r.row_tag next None rows row r.lines line separator r.spelt here is;
      in_a_row = (refl, refl);
      bits_are = r.bits_are ∙ ap (λ b. r.front ++ (r.lines ++ (b ++ bits))) r.in_a_row.0 ∙ ap (λ b. r.front ++ (r.lines ++ b)) e
          ∙ ap (λ b. r.front ++ b) (sym (append_assoc r.lines (line ++ separator) rest));
    }

-- further separators
pub ReadSoFar-separators : (coding : Coding) (width : ℕ) (octets : List ℕ) (rows : List Elements) (n : ℕ) (tag last : Bool) (bits text rest : List Bool)
    → ReadSoFar coding width octets rows 0 tag bits → InARow coding tag n text last → bits ≡ text ++ rest → ReadSoFar coding width octets rows n last rest
ReadSoFar-separators coding width octets rows n tag last bits text rest r in_a_row e = record {
  front = r.front;
  lines = r.lines;
  separators = text;
  front_tag = r.front_tag;
  row_tag = r.row_tag;
  is_front = r.is_front;
  spelt = r.spelt;
  in_a_row = subst (λ t. InARow coding t n text last) r.in_a_row.1 in_a_row;
  bits_are = r.bits_are ∙ ap (λ b. r.front ++ (r.lines ++ (b ++ bits))) r.in_a_row.0 ∙ ap (λ b. r.front ++ (r.lines ++ b)) e;
}

-- ---- rows that are being read

-- From old, after the front of this tag, to new rows of a width were read, of which there are not too
-- many. After them is this tag, and the last of them is known where the tag wants it.
pub record RowsSoFar (coding : Coding) (width : ℕ) (first : Bool) (old : Place) (tag : Bool) (before : Option Elements) (new : Place) (rows : List Elements) : Type 0 where
  pub read : (octets : List ℕ) → ReadSoFar coding width octets [] 0 first old.left → ReadSoFar coding width octets rows 0 tag new.left
  pub few : length rows ≤ most_rows
  pub each : All (λ row. length row ≡ width) rows
  pub known : Knows tag before rows

-- the row that a line spells
pub RowsSoFar-row : (coding : Coding) (width : ℕ) (first tag : Bool) (before : Option Elements) (old mid : Place) (rows : List Elements) (row : Elements) (line : List Bool)
    → RowsSoFar coding width first old tag before mid rows → SpellsRow width tag before line row → length row ≡ width
RowsSoFar-row coding width first tag before old mid rows row line r spelt =
    SpellsRow-length width tag (last_of rows) line row (last_of-width width rows r.each) (SpellsRow-knows width tag before rows line row r.known spelt)

-- the row is known where the next tag wants it
pub Knows-push : (tag : Bool) (before : Option Elements) (rows : List Elements) (row : Elements) → (tag ≡ false → before ≡ Some row) → Knows tag before (rows ++ row ∷ [])
Knows-push tag before rows row k two = k two ∙ sym (last_of-push rows row)

pub RowsSoFar-more : (coding : Coding) (width : ℕ) (first tag next : Bool) (before after : Option Elements) (old mid new : Place) (rows : List Elements) (row : Elements)
    (line separator : List Bool) → RowsSoFar coding width first old tag before mid rows → length rows ≢ most_rows → SpellsRow width tag before line row
    → IsSeparator coding next separator → Passes mid new (line ++ separator) → (next ≡ false → after ≡ Some row)
    → RowsSoFar coding width first old next after new (rows ++ row ∷ [])
RowsSoFar-more coding width first tag next before after old mid new rows row line separator r room spelt is p k = record {
  read = λ octets front. ReadSoFar-row coding width octets rows row tag next mid.left line separator new.left (r.read octets front)
      (SpellsRow-knows width tag before rows line row r.known spelt) is p.bits;
  few = omega (arith, length_push rows row, r.few);
  each = All-push (λ (v : Elements). length v ≡ width) rows row r.each (RowsSoFar-row coding width first tag before old mid rows row line r spelt);
  known = Knows-push next after rows row k;
}

-- ---- the row before, kept where the next tag wants it

-- The last row is kept where the tag wants it and there is one.
abbrev pub Keeps : Bool → Elements → List Elements → Type 0
Keeps tag kept rows = tag ≡ false → 0 < length rows → last_of rows ≡ Some kept

pub Keeps-push : (tag : Bool) (kept row : Elements) (rows : List Elements) → (tag ≡ false → kept ≡ row) → Keeps tag kept (rows ++ row ∷ [])
Keeps-push tag kept row rows same two some = last_of-push rows row ∙ ap (λ (r : Elements). Some r) (sym (same two))

-- What is kept has the width.
pub Keeps-width : (width : ℕ) (tag : Bool) (kept : Elements) (rows : List Elements) → Keeps tag kept rows → All (λ row. length row ≡ width) rows
    → tag ≡ false → 0 < length rows → length kept ≡ width
Keeps-width width tag kept rows keeps each two some = subst (HasWidth width) (keeps two some) (last_of-width width rows each)

-- The row before is known from what is kept.
pub Knows-kept : (tag : Bool) (kept : Elements) (rows : List Elements) (n : ℕ) → n ≡ length rows → Keeps tag kept rows → Knows tag (row_before n kept) rows
Knows-kept tag kept rows zero size keeps two = ap last_of (sym (nil_from_length rows (sym size)))
Knows-kept tag kept rows (suc n) size keeps two = sym (keeps two (omega arith))

-- The rows with one more, whose line and separator were passed.
pub RowsSoFar-pushed : (coding : Coding) (width : ℕ) (first tag next : Bool) (before : Option Elements) (old mid new : Place) (rows all : List Elements) (row : Elements)
    → RowsSoFar coding width first old tag before mid rows → length rows ≢ most_rows → all ≡ rows ++ row ∷ []
    → (line separator : List Bool) × SpellsRow width tag before line row × IsSeparator coding next separator × Passes mid new (line ++ separator)
    → RowsSoFar coding width first old next (last_of all) new all
RowsSoFar-pushed coding width first tag next before old mid new rows all row r room pushed read =
    rw pushed
    (RowsSoFar-more coding width first tag next before (last_of (rows ++ row ∷ [])) old mid new rows row read.0 read.1 r room read.2 read.3 read.4 (λ two. last_of-push rows row))

-- where nothing was passed and the same row is kept
pub RowsSoFar-still : (coding : Coding) (width : ℕ) (first tag : Bool) (n : ℕ) (old mid new : Place) (kept same : Elements) (rows : List Elements)
    → RowsSoFar coding width first old tag (row_before n kept) mid rows → (new ≡ mid) × (same ≡ kept) → RowsSoFar coding width first old tag (row_before n same) new rows
RowsSoFar-still coding width first tag n old mid new kept same rows r (place, row) = rw (place, row) r

-- the same rows, with another row before that is known
pub RowsSoFar-known : (coding : Coding) (width : ℕ) (first tag : Bool) (before other : Option Elements) (old new : Place) (rows : List Elements)
    → RowsSoFar coding width first old tag before new rows → Knows tag other rows → RowsSoFar coding width first old tag other new rows
RowsSoFar-known coding width first tag before other old new rows r k = record { read = r.read; few = r.few; each = r.each; known = k }

-- ---- where reading stops after the rows so far

-- after one separator
fails_here : (coding : Coding) (width : ℕ) (first tag : Bool) (before : Option Elements) (old new : Place) (rows : List Elements) (fault : PageFault)
    → RowsSoFar coding width first old tag before new rows → Stops coding width rows 0 tag new.left fault
    → (octets : List ℕ) → ReadSoFar coding width octets [] 0 first old.left → FailsAfterFront coding width octets fault
fails_here coding width first tag before old new rows fault r stops octets front =
    record { rows = rows; further = 0; tag = tag; rest = new.left; few = r.few; at_most_six = omega arith; read = r.read octets front; stops = stops }

-- no return to control
pub broken_stops : (coding : Coding) (width : ℕ) (rows : List Elements) (n : ℕ) (tag : Bool) (bits : List Bool) → BreaksReturn coding n tag bits → Stops coding width rows n tag bits NoRtc
broken_stops coding width rows n tag bits b = elim b [ inl line ↦ inr (inl line) | inr tagged ↦ inr (inr (inl tagged)) ]

-- after further separators
pub return_fails : (coding : Coding) (width : ℕ) (first tag : Bool) (before : Option Elements) (old new : Place) (rows : List Elements)
    → RowsSoFar coding width first old tag before new rows
    → StopsInReturn coding tag new.left (λ n last rest. Stops coding width rows n last rest NoRtc)
    → (octets : List ℕ) → ReadSoFar coding width octets [] 0 first old.left → FailsAfterFront coding width octets NoRtc
return_fails coding width first tag before old new rows r s octets front = record {
  rows = rows;
  further = s.further;
  tag = s.last;
  rest = s.rest;
  few = r.few;
  at_most_six = s.at_most_six;
  read = ReadSoFar-separators coding width octets rows s.further tag s.last new.left s.text s.rest (r.read octets front) s.in_a_row s.bits_are;
  stops = s.reason;
}

-- the reason, told as why nothing more is read
pub return_broken : (coding : Coding) (width : ℕ) (rows : List Elements) (tag : Bool) (bits : List Bool) → StopsInReturn coding tag bits (BreaksReturn coding)
    → StopsInReturn coding tag bits (λ n last rest. Stops coding width rows n last rest NoRtc)
return_broken coding width rows tag bits s = record {
  further = s.further;
  text = s.text;
  last = s.last;
  rest = s.rest;
  at_most_six = s.at_most_six;
  in_a_row = s.in_a_row;
  bits_are = s.bits_are;
  reason = broken_stops coding width rows s.further s.last s.rest s.reason;
}

pub return_breaks_off : (coding : Coding) (width : ℕ) (rows : List Elements) (tag : Bool) (bits : List Bool) → StopsInReturn coding tag bits (BreaksOff coding)
    → StopsInReturn coding tag bits (λ n last rest. Stops coding width rows n last rest NoRtc)
return_breaks_off coding width rows tag bits s = record {
  further = s.further;
  text = s.text;
  last = s.last;
  rest = s.rest;
  at_most_six = s.at_most_six;
  in_a_row = s.in_a_row;
  bits_are = s.bits_are;
  reason = inl s.reason;
}

-- A line begins after as many rows as a page may have.
pub full_fails : (coding : Coding) (width : ℕ) (first tag : Bool) (before : Option Elements) (old new : Place) (rows : List Elements)
    → RowsSoFar coding width first old tag before new rows → LineBegins new.left → length rows ≡ most_rows
    → (octets : List ℕ) → ReadSoFar coding width octets [] 0 first old.left → FailsAfterFront coding width octets TooManyRows
full_fails coding width first tag before old new rows r begins full = fails_here coding width first tag before old new rows TooManyRows r (refl, begins, full)

-- The row can't be read.
pub row_fails : (coding : Coding) (width : ℕ) (first tag : Bool) (before : Option Elements) (old new : Place) (rows : List Elements) (n : ℕ) (fault : PageFault)
    → RowsSoFar coding width first old tag before new rows → LineBegins new.left → length rows ≢ most_rows → n ≡ length rows
    → ((others : List Elements) → length others ≡ n → Knows tag before others → WantsLine others 0 new.left → Stops coding width others 0 tag new.left fault)
    → (octets : List ℕ) → ReadSoFar coding width octets [] 0 first old.left → FailsAfterFront coding width octets fault
row_fails coding width first tag before old new rows n fault r begins room size stops =
    fails_here coding width first tag before old new rows fault r
    (stops rows (sym size) r.known (record { one_separator = refl; begins = begins; room = omega (arith, r.few) }))

-- The page ends with no row.
pub empty_fails : (coding : Coding) (width : ℕ) (first tag : Bool) (before : Option Elements) (old new end : Place) (rows : List Elements)
    → RowsSoFar coding width first old tag before new rows → (text : List Bool) × InARow coding tag 5 text true × Passes new end text → length rows ≡ 0
    → (octets : List ℕ) → ReadSoFar coding width octets [] 0 first old.left → FailsAfterFront coding width octets Empty
empty_fails coding width first tag before old new end rows r (text, in_a_row, p) none octets front = record {
  rows = rows;
  further = 5;
  tag = true;
  rest = end.left;
  few = r.few;
  at_most_six = omega arith;
  read = ReadSoFar-separators coding width octets rows 5 tag true new.left text end.left (r.read octets front) in_a_row p.bits;
  stops = (refl, refl, nil_from_length rows none);
}

-- The rows of a page, once its six EOLs were passed.
pub RowsSoFar-whole : (coding : Coding) (width : ℕ) (first tag : Bool) (before : Option Elements) (old new end : Place) (rows : List Elements)
    → RowsSoFar coding width first old tag before new rows → (text : List Bool) × InARow coding tag 5 text true × Passes new end text → 0 < length rows
    → (octets : List ℕ) → ReadSoFar coding width octets [] 0 first old.left → MeansRows width coding octets rows
RowsSoFar-whole coding width first tag before old new end rows r (text, in_a_row, p) some octets front = record {
  are_rows = record { some = some; few = r.few; each = r.each };
  more = end.left;
  read = ReadSoFar-separators coding width octets rows 5 tag true new.left text end.left (r.read octets front) in_a_row p.bits;
}

-- ---- why a row or the return to control breaks off

-- where the line can't be read
pub row_is_bad : (coding : Coding) (width : ℕ) (tag : Bool) (before : Option Elements) (rows : List Elements) (bits : List Bool) (n : ℕ)
    → FailsRow width tag before bits → length rows ≡ n → Knows tag before rows → WantsLine rows 0 bits → Stops coding width rows 0 tag bits (BadLine n)
row_is_bad coding width tag before rows bits n fails size k wants = (sym size, wants, inl (FailsRow-knows width tag before rows bits k fails))

-- where a line was read, and no separator is whole after it
pub row_runs_out : (coding : Coding) (width : ℕ) (tag : Bool) (before : Option Elements) (old mid : Place) (rows : List Elements) (row : Elements) (fault : PageFault)
    → (text : List Bool) × SpellsRow width tag before text row × Passes old mid text → (fault ≡ NoRtc) × RunsOut coding mid.left → Knows tag before rows → WantsLine rows 0 old.left
    → Stops coding width rows 0 tag old.left fault
row_runs_out coding width tag before old mid rows row fault (text, spelt, p) (rtc, out) k wants =
    let stops : Stops coding width rows 0 tag old.left NoRtc =
    inr (inr (inr (wants, mid.left, (text, row, SpellsRow-knows width tag before rows text row k spelt, p.bits), out))) in
    subst (Stops coding width rows 0 tag old.left) (sym rtc) stops

-- where a line was read, and a 1 comes after it before 11 zeros
pub row_goes_on : (coding : Coding) (width : ℕ) (tag : Bool) (before : Option Elements) (old mid : Place) (rows : List Elements) (row : Elements) (n : ℕ)
    → (text : List Bool) × SpellsRow width tag before text row × Passes old mid text → LineBegins mid.left → length rows ≡ n → Knows tag before rows → WantsLine rows 0 old.left
    → Stops coding width rows 0 tag old.left (BadLine n)
row_goes_on coding width tag before old mid rows row n (text, spelt, p) begins size k wants =
    (sym size, wants, inr (mid.left, (text, row, SpellsRow-knows width tag before rows text row k spelt, p.bits), begins))

-- all of them were passed
pub return_whole : (coding : Coding) (first tag : Bool) (k : ℕ) (old new : Place) → k ≡ 5 → tag ≡ true
    → (text : List Bool) × InARow coding first k text tag × Passes old new text → (text : List Bool) × InARow coding first 5 text true × Passes old new text
return_whole coding first tag k old new all one (text, in_a_row, p) =
    (text, subst (λ t. InARow coding first 5 text t) one (subst (λ n. InARow coding first n text tag) all in_a_row), p)

-- ---- what an exact reader answers, memory aside

memory_or : (fault : PageFault) → (fault ≡ NoMemory) ⊎ (fault ≢ NoMemory)
memory_or NoEol = inr (λ h. cc)
memory_or (BadLine n) = inr (λ h. cc)
memory_or NoRtc = inr (λ h. cc)
memory_or Empty = inr (λ h. cc)
memory_or TooManyRows = inr (λ h. cc)
memory_or NoMemory = inl refl

-- two pages of one format and the same rows
page_is : (format : Format) (p q : PageValue) → p.format ≡ format → q.format ≡ format → p.rows ≡ q.rows → p ≡ q
page_is format p q e f rows =
    ap (λ (x : Format). let page : PageValue = record { format = x; rows = p.rows } in page) (e ∙ sym f)
    ∙ ap (λ (x : List Elements). let page : PageValue = record { format = q.format; rows = x } in page) rows

pub reads_from : (format : Format) (coding : Coding) (octets : List ℕ) (result : Result PageValue PageFault) → IfOk result (λ page. MeansPage format coding octets page)
    → IfErr result (λ fault. fault ≢ NoMemory → FailsPage (elements_of format.width) coding octets fault)
    → (page : PageValue) → MeansPage format coding octets page → (result ≡ Ok page) ⊎ (result ≡ Err NoMemory)
reads_from format coding octets (Ok found) ok err page means =
    let rows : found.rows ≡ page.rows =
    pages_are_unique (elements_of format.width) coding octets found.rows page.rows (IsWidth-elements format.width) ok.1 means.1 in
    inl (ap (λ (p : PageValue). Ok p) (page_is format found page ok.0 means.0 rows))
reads_from format coding octets (Err fault) ok err page means = elim (memory_or fault) [
  | inl same ↦ inr (ap (λ (f : PageFault). Err f) same)
  | inr apart ↦ absurd (pages_dont_fail (elements_of format.width) coding octets page.rows fault (IsWidth-elements format.width) means.1 (err apart))
]

pub fails_from : (format : Format) (coding : Coding) (octets : List ℕ) (result : Result PageValue PageFault) → IfOk result (λ page. MeansPage format coding octets page)
    → IfErr result (λ fault. fault ≢ NoMemory → FailsPage (elements_of format.width) coding octets fault)
    → (fault : PageFault) → FailsPage (elements_of format.width) coding octets fault → (result ≡ Err fault) ⊎ (result ≡ Err NoMemory)
fails_from format coding octets (Ok found) ok err fault fails =
    absurd (pages_dont_fail (elements_of format.width) coding octets found.rows fault (IsWidth-elements format.width) ok.1 fails)
fails_from format coding octets (Err other) ok err fault fails = elim (memory_or other) [
  | inl same ↦ inr (ap (λ (f : PageFault). Err f) same)
  | inr apart ↦ inl (ap (λ (f : PageFault). Err f) (faults_are_unique (elements_of format.width) coding octets other fault (IsWidth-elements format.width) (err apart) fails))
]
