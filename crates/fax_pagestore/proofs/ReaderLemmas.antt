-- Pages that are read as their octets come.
use Rattle.std.proofs.Common.{◌≡◌, ◌≢◌, ℕ, zero, suc, ◌+◌, ◌-◌, ◌*◌, ◌/◌, ◌%◌, ◌<◌, ◌≤◌, Bool, true, false, List, [], ◌∷◌, ◌++◌, All, Option, Some, None, length, take, drop, replicate, slice_get, slice_index_or, IfSome, IsSome, is_some, Result, Ok, Err, IsOk, OnOk, zero-add, refl, sym, ◌∙◌, ap, subst, arith, append_assoc, append-nil, length-append, length-drop, inl, inr}
use Rattle.std.proofs.lemmas.List.{nil_from_length, length_push, drop_at, drop-drop, drop-append-le, take-append-drop, append_cancel_left, length-replicate, length-take-le, replicate-append-replicate, get_or-replicate}
use Rattle.std.proofs.lemmas.List.Elements.{All-push}
use Rattle.std.proofs.Math.Seq.{drop-length}
use Rattle.fax_bits.specs.Bits.{bits_of}
use Rattle.fax_bits.specs.Reading.{Place, Passes}
use Rattle.fax_bits.proofs.BitsLemmas.{bits_of-append, bits_of-nil, length-bits_of, drop-bits_of}
use Rattle.fax_bits.proofs.ReadingLemmas.{Passes-none, Passes-then}
use Rattle.fax_runcodes.specs.declared.format.Coding.{Coding}
use Rattle.fax_runcodes.specs.declared.format.Format.{Format}
use Rattle.fax_runcodes.specs.declared.Colour.{Colour}
use Rattle.fax_runcodes.specs.declared.Colour.TheVariants.{White}
use Rattle.fax_runcodes.specs.Rows.{Elements, IsWidth, colour_before}
use Rattle.fax_runcodes.specs.Widths.{elements_of}
use Rattle.fax_runcodes.specs.Painted.{painted, AreRising}
use Rattle.fax_runcodes.proofs.PaintedLemmas.{rising_le}
use Rattle.fax_runcodes.proofs.TurningLemmas.{turned_at_all}
use Rattle.fax_mhcode.specs.declared.fault.LineFault.{LineFault}
use Rattle.fax_mhcode.proofs.LineLaws.{IsWidth-elements}
use Rattle.fax_mrcode.specs.Lines as mr
use Rattle.fax_mrcode.specs.LineFaults as mr_faults
use Rattle.fax_pagestore.specs.declared.fault.PageFault.{PageFault}
use Rattle.fax_pagestore.specs.declared.fault.PageFault.TheVariants.{NoEol, BadLine, NoRtc, Empty, TooManyRows, NoMemory}
use Rattle.fax_pagestore.specs.PageRows.{most_rows}
use Rattle.fax_pagestore.specs.Pages.{PageValue}
use Rattle.fax_pagestore.specs.PageTexts.{end_of_line, IsFront, IsSeparator, InARow, SpellsRow, SpellsRows, ReadSoFar, MeansRows, MeansPage}
use Rattle.fax_pagestore.specs.PageFaults.{LineBegins, BreaksReturn, StopsInReturn, FailsRow, Stops, FailsPage, last_of, row_before}
use Rattle.fax_pagestore.specs.Fill.{less_fill, zeros_after}
use Rattle.fax_pagestore.proofs.FillLemmas.{few_zeros_kept}
use Rattle.fax_pagestore.specs.Readers.{ReadsOne, BeginsRow, ReaderValue, IsAfter, IsReadUpTo, NoMoreIsWhole, AreJudged, fault_of, new_reader}
use Rattle.fax_pagestore.specs.declared.reader.settled.Settled.{Settled}
use Rattle.fax_pagestore.specs.declared.reader.rows.Stop.{Stop}
use Rattle.fax_pagestore.specs.declared.reader.rows.Stop.TheVariants.{NoEols, NoLine, Fault}
use Rattle.fax_pagestore.specs.Ends.{HoldsEol, HoldsNoTaggedEol}
use Rattle.fax_pagestore.proofs.BeforeEolLemmas.{front_after, nowhere_eol, left_after, BeginNoEol-none, BeginNoEol-more, HoldsNoTaggedEol-none}
use Rattle.fax_pagestore.proofs.PageLaws.{pages_are_unique, pages_dont_fail, faults_are_unique}
use Rattle.fax_pagestore.proofs.EndsLemmas.{ends_hold, begins_before, separator_ends}
use Rattle.fax_pagestore.proofs.ReadLemmas.{SpellsRow-length, ReadSoFar-lengths, BeginsRow-line, Stops-row}
use Rattle.fax_pagestore.proofs.TextLemmas.{separator_not_line, line_not_runs_out, width_some}
use Rattle.fax_pagestore.proofs.PageReading.{Keeps, Knows-kept, SpellsRow-knows, last_of-width, ReadSoFar-row, ReadSoFar-separators, return_broken}
use Rattle.fax_pagestore.proofs.StaysLemmas.{StopsInReturn-more}

-- ---- one row more

-- the line of a row and the separator after it were passed, after so many rows of which the last is kept
abbrev pub PassesRow : Coding → ℕ → Bool → Bool → ℕ → Elements → Elements → Place → Place → Type 0
PassesRow coding width tag next n kept row old new = (text separator : List Bool) × SpellsRow width tag (row_before n kept) text row
    × IsSeparator coding next separator × Passes old new (text ++ separator)

pub row_read : (coding : Coding) (width : ℕ) (tag next : Bool) (n : ℕ) (kept row : Elements) (rows all : List Elements) (old new : Place) → n ≡ length rows → Keeps tag kept rows
    → PassesRow coding width tag next n kept row old new → all ≡ rows ++ row ∷ [] → ReadsOne coding width tag next rows all old new
row_read coding width tag next n kept row rows all old new size keeps (text, separator, spelt, is, passes) e = record {
  row = row;
  line = text;
  separator = separator;
  all_are = e;
  spelt = SpellsRow-knows width tag (row_before n kept) rows text row (Knows-kept tag kept rows n size keeps) spelt;
  after = is;
  passes = passes;
}

pub row_width : (coding : Coding) (width : ℕ) (tag next : Bool) (n : ℕ) (kept row : Elements) (rows : List Elements) (old new : Place) → n ≡ length rows → Keeps tag kept rows
    → All (λ r. length r ≡ width) rows → PassesRow coding width tag next n kept row old new → length row ≡ width
row_width coding width tag next n kept row rows old new size keeps each (text, separator, spelt, is, passes) =
    SpellsRow-length width tag (last_of rows) text row (last_of-width width rows each)
    (SpellsRow-knows width tag (row_before n kept) rows text row (Knows-kept tag kept rows n size keeps) spelt)

-- the rows with one more
pub ReadsOne-each : (coding : Coding) (width : ℕ) (tag next : Bool) (rows all : List Elements) (old new : Place) → All (λ r. length r ≡ width) rows
    → ReadsOne coding width tag next rows all old new → All (λ r. length r ≡ width) all
ReadsOne-each coding width tag next rows all old new each one =
    let size : length one.row ≡ width = SpellsRow-length width tag (last_of rows) one.line one.row (last_of-width width rows each) one.spelt in
    subst (λ (rs : List Elements). All (λ (r : Elements). length r ≡ width) rs) (sym one.all_are) (All-push (λ (r : Elements). length r ≡ width) rows one.row each size)

pub ReadsOne-length : (coding : Coding) (width : ℕ) (tag next : Bool) (rows all : List Elements) (old new : Place) → ReadsOne coding width tag next rows all old new
    → length all ≡ length rows + 1
ReadsOne-length coding width tag next rows all old new one = ap length one.all_are ∙ length_push rows one.row

-- what is read of octets, with one row more
pub ReadSoFar-one : (coding : Coding) (width : ℕ) (tag next : Bool) (rows all : List Elements) (old new : Place) (octets : List ℕ) → ReadsOne coding width tag next rows all old new
    → ReadSoFar coding width octets rows 0 tag old.left → ReadSoFar coding width octets all 0 next new.left
ReadSoFar-one coding width tag next rows all old new octets one read =
    subst (λ (rs : List Elements). ReadSoFar coding width octets rs 0 next new.left) (sym one.all_are)
    (ReadSoFar-row coding width octets rows one.row tag next old.left one.line one.separator new.left read one.spelt one.after one.passes.bits)

-- fewer bits are left
pub ReadsOne-shorter : (coding : Coding) (width : ℕ) (tag next : Bool) (rows all : List Elements) (old new : Place) → ReadsOne coding width tag next rows all old new
    → length new.left < length old.left
ReadsOne-shorter coding width tag next rows all old new one =
    let separator = one.after in
    let whole = ap length one.passes.bits ∙ length-append (one.line ++ one.separator) new.left in
    let both = length-append one.line one.separator in
    let own = ap length separator.4 ∙ length-append (replicate separator.0 false) (true ∷ separator.1) in
    omega arith

-- the rows so far, where one is read
pub record RowsRead (coding : Coding) (width : ℕ) (first : Bool) (base : List Elements) (old : Place) (tag : Bool) (kept : Elements) (rows : List Elements) (new : Place) : Type 0 where
  pub same : (more : List Elements) × (rows ≡ base ++ more)
  pub few : length rows ≤ most_rows
  pub each : All (λ row. length row ≡ width) rows
  pub keeps : Keeps tag kept rows
  pub passes : (text : List Bool) × Passes old new text
  pub read : (octets : List ℕ) → ReadSoFar coding width octets base 0 first old.left → ReadSoFar coding width octets rows 0 tag new.left

pub RowsRead-none : (coding : Coding) (width : ℕ) (first : Bool) (base : List Elements) (old : Place) (kept : Elements) → length base ≤ most_rows
    → All (λ row. length row ≡ width) base → Keeps first kept base → RowsRead coding width first base old first kept base old
RowsRead-none coding width first base old kept few each keeps = record {
  same = ([], sym (append-nil base));
  few = few;
  each = each;
  keeps = keeps;
  passes = ([], Passes-none old);
  read = λ octets read. read;
}

pub RowsRead-more : (coding : Coding) (width : ℕ) (first tag next : Bool) (base rows all : List Elements) (old mid new : Place) (kept after : Elements)
    → RowsRead coding width first base old tag kept rows mid → ReadsOne coding width tag next rows all mid new → length rows < most_rows
    → (next ≡ false → last_of all ≡ Some after) → RowsRead coding width first base old next after all new
RowsRead-more coding width first tag next base rows all old mid new kept after so_far one room keeps = record {
  same = (so_far.same.0 ++ one.row ∷ [], one.all_are ∙ ap (λ rs. rs ++ one.row ∷ []) so_far.same.1 ∙ append_assoc base so_far.same.0 (one.row ∷ []));
  few = omega (arith, ReadsOne-length coding width tag next rows all mid new one);
  each = ReadsOne-each coding width tag next rows all mid new so_far.each one;
  keeps = λ two some. keeps two;
  passes = (so_far.passes.0 ++ (one.line ++ one.separator), Passes-then old mid new so_far.passes.0 (one.line ++ one.separator) so_far.passes.1 one.passes);
  read = λ octets read. ReadSoFar-one coding width tag next rows all mid new octets one (so_far.read octets read);
}

-- ---- what octets are where no more come

pub stops_fail : (coding : Coding) (width : ℕ) (octets : List ℕ) (rows : List Elements) (tag : Bool) (rest : List Bool) (fault : PageFault) → length rows ≤ most_rows
    → ReadSoFar coding width octets rows 0 tag rest → Stops coding width rows 0 tag rest fault → FailsPage width coding octets fault
stops_fail coding width octets rows tag rest fault few read stops =
    inr record { rows = rows; further = 0; tag = tag; rest = rest; few = few; at_most_six = omega arith; read = read; stops = stops }

pub return_fails_page : (coding : Coding) (width : ℕ) (octets : List ℕ) (rows : List Elements) (tag : Bool) (bits : List Bool) → length rows ≤ most_rows
    → ReadSoFar coding width octets rows 0 tag bits → StopsInReturn coding tag bits (λ n last rest. Stops coding width rows n last rest NoRtc) → FailsPage width coding octets NoRtc
return_fails_page coding width octets rows tag bits few read s =
    inr record {
      rows = rows;
      further = s.further;
      tag = s.last;
      rest = s.rest;
      few = few;
      at_most_six = s.at_most_six;
      read = ReadSoFar-separators coding width octets rows s.further tag s.last bits s.text s.rest read s.in_a_row s.bits_are;
      stops = s.reason;
    }

pub none_fail : (coding : Coding) (width : ℕ) (octets : List ℕ) (rows : List Elements) (tag : Bool) (old new : Place) → length rows ≡ 0
    → ReadSoFar coding width octets rows 0 tag old.left → (text : List Bool) × InARow coding tag 5 text true × Passes old new text → FailsPage width coding octets Empty
none_fail coding width octets rows tag old new none read (text, in_a_row, p) =
    inr record {
      rows = rows;
      further = 5;
      tag = true;
      rest = new.left;
      few = omega arith;
      at_most_six = omega arith;
      read = ReadSoFar-separators coding width octets rows 5 tag true old.left text new.left read in_a_row p.bits;
      stops = (refl, refl, nil_from_length rows none);
    }

pub some_mean : (coding : Coding) (width : ℕ) (octets : List ℕ) (rows : List Elements) (tag : Bool) (old new : Place) → 0 < length rows → length rows ≤ most_rows
    → ReadSoFar coding width octets rows 0 tag old.left → (text : List Bool) × InARow coding tag 5 text true × Passes old new text → MeansRows width coding octets rows
some_mean coding width octets rows tag old new some few read (text, in_a_row, p) = record {
  are_rows = record { some = some; few = few; each = ReadSoFar-lengths coding width octets rows 0 tag old.left read };
  more = new.left;
  read = ReadSoFar-separators coding width octets rows 5 tag true old.left text new.left read in_a_row p.bits;
}

-- ---- the last row, kept

pub last_of_at : (rows : List Elements) (i : ℕ) (row : Elements) → i + 1 ≡ length rows → slice_get rows i ≡ Some row → last_of rows ≡ Some row
last_of_at [] i row size e = absurd (omega arith)
last_of_at (first ∷ []) zero row size e = e
last_of_at (first ∷ []) (suc i) row size e = absurd (omega arith)
last_of_at (first ∷ (next ∷ rows)) zero row size e = absurd (omega arith)
last_of_at (first ∷ (next ∷ rows)) (suc i) row size e = last_of_at (next ∷ rows) i row (omega arith) e

-- white elements up to a place, and after it
white_after : (w p : ℕ) → p ≤ w → drop p (replicate w White) ≡ replicate (w - p) White
white_after w p le =
    let parts : replicate w White ≡ replicate p White ++ replicate (w - p) White =
    let whole : p + (w - p) ≡ w = omega arith in
    ap (λ n. replicate n White) (sym whole) ∙ sym (replicate-append-replicate p (w - p) White) in
    ap (drop p) parts ∙ drop_at (replicate p White) (replicate (w - p) White) p (length-replicate p White)

white_before : (w p : ℕ) → p ≤ w → colour_before (replicate w White) p ≡ White
white_before w zero le = refl
white_before w (suc p) le = get_or-replicate w p White White (omega arith)

white_same : (w : ℕ) (places : List ℕ) → AreRising 0 places w
    → (let row : Elements = replicate w White in
    let first : ℕ = slice_index_or places 0 (length row) in
    drop first row ≡ replicate (length row - first) (colour_before row first))
unfolding AreRising
white_same w [] rising =
    let none : length (replicate w White) - length (replicate w White) ≡ 0 = omega arith in
    drop-length (replicate w White) ∙ ap (λ n. replicate n (colour_before (replicate w White) (length (replicate w White)))) (sym none)
white_same w (p ∷ places) rising =
    let inside : p + 1 ≤ w = rising_le (p + 1) places w rising.1 in
    white_after w p (omega arith)
    ∙ ap (λ n. replicate (n - p) White) (sym (length-replicate w White))
    ∙ ap (λ (c : Colour). replicate (length (replicate w White) - p) c) (sym (white_before w p (omega arith)))

-- a row that is white is one without changes
white_painted : (w : ℕ) → replicate w White ≡ painted White 0 [] w
unfolding painted
white_painted w = let all : w ≡ w - 0 = omega arith in ap (λ n. replicate n White) all

none_rising : (w : ℕ) → AreRising 0 [] w
unfolding AreRising
none_rising w = omega arith

pub white_may_turn : (row : Elements) (w : ℕ) (places : List ℕ) → row ≡ replicate w White → AreRising 0 places w
    → (let first : ℕ = slice_index_or places 0 (length row) in
    drop first row ≡ replicate (length row - first) (colour_before row first))
white_may_turn row w places e rising =
    subst (λ (r : Elements). let first : ℕ = slice_index_or places 0 (length r) in drop first r ≡ replicate (length r - first) (colour_before r first)) (sym e) (white_same w places rising)

pub white_turned : (row new last : Elements) (w : ℕ) (places : List ℕ) → row ≡ replicate w White → length last ≡ w → AreRising 0 places (length last)
    → last ≡ painted White 0 places (length last)
    → (let first : ℕ = slice_index_or places 0 (length row) in new ≡ take first row ++ painted (colour_before row first) first places (length row)) → new ≡ last
white_turned row new last w places e size rising is turned =
    let plain : row ≡ painted White 0 [] w = e ∙ white_painted w in
    let wide : length (painted White 0 [] w) ≡ w = ap length (sym (white_painted w)) ∙ length-replicate w White in
    let rises : AreRising 0 places w = subst (AreRising 0 places) size rising in
    let made = turned_at_all [] places w (none_rising w) (subst (AreRising 0 places) (sym wide) rises) (white_may_turn (painted White 0 [] w) w places (sym (white_painted w)) rises) in
    subst (λ (r : Elements). let first : ℕ = slice_index_or places 0 (length r) in new ≡ take first r ++ painted (colour_before r first) first places (length r)) plain turned
    ∙ sym made.row_is ∙ ap (painted White 0 places) (sym size) ∙ sym is

-- ---- places

pub skipped : (old new : Place) (n : ℕ) → Passes old new (take n old.left) → new.left ≡ drop n old.left
skipped old new n p = append_cancel_left (take n old.left) new.left (drop n old.left) (sym p.bits ∙ sym (take-append-drop n old.left))

-- a place that was reached in octets
pub record IsReached (octets : List ℕ) (used : ℕ) (end : Place) : Type 0 where
  pub on : used ≤ end.passed
  pub within : end.passed ≤ 8 * length octets
  pub left_is : drop end.passed (bits_of octets) ≡ end.left

pub reached : (octets : List ℕ) (used : ℕ) (start a b end : Place) → used ≤ 8 * length octets → start ≡ record { passed = 0; left = bits_of octets } → Passes start a (take used start.left)
    → (more : List Bool) × Passes a b more → (more : List Bool) × Passes b end more → IsReached octets used end
reached octets used start a b end inside at one (second, two) (third, three) =
    let text : List Bool = take used start.left in
    let size : length text ≡ used = length-take-le used start.left (omega (arith, inside, length-bits_of octets, ap (λ (p : Place). length p.left) at)) in
    let all : Passes start end ((text ++ second) ++ third) = Passes-then start b end (text ++ second) third (Passes-then start a b text second one two) three in
    let passed : end.passed ≡ length ((text ++ second) ++ third) = all.place ∙ ap (λ (p : Place). p.passed + length ((text ++ second) ++ third)) at ∙ zero-add (length ((text ++ second) ++ third)) in
    let bits : bits_of octets ≡ ((text ++ second) ++ third) ++ end.left = sym (ap (λ (p : Place). p.left) at) ∙ all.bits in
    record {
      on = omega (arith, passed, size, length-append (text ++ second) third, length-append text second);
      within = omega (arith, ap length bits, length-append ((text ++ second) ++ third) end.left, length-bits_of octets);
      left_is = ap (drop end.passed) bits ∙ drop_at ((text ++ second) ++ third) end.left end.passed (sym passed);
    }

-- the octets in front of a place, dropped
pub drop_place : (octets : List ℕ) (place : ℕ) → place ≤ 8 * length octets → drop (place % 8) (bits_of (drop (place / 8) octets)) ≡ drop place (bits_of octets)
drop_place octets place le =
    let inside : place / 8 ≤ length octets = omega arith in
    let whole : 8 * (place / 8) + place % 8 ≡ place = omega arith in
    ap (drop (place % 8)) (sym (drop-bits_of (place / 8) octets inside)) ∙ drop-drop (place % 8) (8 * (place / 8)) (bits_of octets) ∙ ap (λ n. drop n (bits_of octets)) whole

-- after all octets
pub nothing_left : (octets : List ℕ) (place : ℕ) → place ≡ 8 * length octets → drop place (bits_of octets) ≡ []
nothing_left octets place all = nil_from_length (drop place (bits_of octets)) (omega (arith, length-drop place (bits_of octets), length-bits_of octets))

-- ---- more octets

pub ReadSoFar-octets : (coding : Coding) (width : ℕ) (octets piece : List ℕ) (rows : List Elements) (tag : Bool) (left : List Bool)
    → ReadSoFar coding width octets rows 0 tag left → ReadSoFar coding width (octets ++ piece) rows 0 tag (left ++ bits_of piece)
ReadSoFar-octets coding width octets piece rows tag left r = record {
  front = r.front;
  lines = r.lines;
  separators = r.separators;
  front_tag = r.front_tag;
  row_tag = r.row_tag;
  is_front = r.is_front;
  spelt = r.spelt;
  in_a_row = r.in_a_row;
  bits_are = bits_of-append octets piece ∙ ap (λ b. b ++ bits_of piece) r.bits_are
      ∙ append_assoc r.front (r.lines ++ (r.separators ++ left)) (bits_of piece)
      ∙ ap (λ b. r.front ++ b) (append_assoc r.lines (r.separators ++ left) (bits_of piece))
      ∙ ap (λ b. r.front ++ (r.lines ++ b)) (append_assoc r.separators left (bits_of piece));
}

IsReadUpTo-octets : (coding : Coding) (width : ℕ) (octets piece : List ℕ) (rows : List Elements) (tag : Option Bool) (left : List Bool)
    → IsReadUpTo coding width octets rows tag left → IsReadUpTo coding width (octets ++ piece) rows tag (left ++ bits_of piece)
IsReadUpTo-octets coding width octets piece rows None left (none, before, whole, begin) = (
  none,
  before,
  bits_of-append octets piece ∙ ap (λ b. b ++ bits_of piece) whole ∙ append_assoc before left (bits_of piece),
  BeginNoEol-more before left (bits_of piece) begin,
)
IsReadUpTo-octets coding width octets piece rows (Some tag) left read = ReadSoFar-octets coding width octets piece rows tag left read

-- the bits that are not used, with a piece after them
with_piece : (held piece all : List ℕ) (used : ℕ) → used ≤ 8 * length held → all ≡ held ++ piece → drop used (bits_of all) ≡ drop used (bits_of held) ++ bits_of piece
with_piece held piece all used le e =
    ap (λ o. drop used (bits_of o)) e ∙ ap (drop used) (bits_of-append held piece) ∙ drop-append-le used (bits_of held) (bits_of piece) (omega (arith, length-bits_of held))

-- the same where the octets that are kept have more after them
pub IsReadUpTo-more : (coding : Coding) (width : ℕ) (octets piece held all : List ℕ) (used : ℕ) (rows : List Elements) (tag : Option Bool) → used ≤ 8 * length held → all ≡ held ++ piece
    → IsReadUpTo coding width octets rows tag (drop used (bits_of held)) → IsReadUpTo coding width (octets ++ piece) rows tag (drop used (bits_of all))
IsReadUpTo-more coding width octets piece held all used rows tag le e read =
    subst (IsReadUpTo coding width (octets ++ piece) rows tag) (sym (with_piece held piece all used le e)) (IsReadUpTo-octets coding width octets piece rows tag (drop used (bits_of held)) read)

-- ---- what stays so whatever follows

Passes-more : (old new : Place) (text more : List Bool) → Passes old new text
    → (let before : Place = record { passed = old.passed; left = old.left ++ more } in
    let after : Place = record { passed = new.passed; left = new.left ++ more } in
    Passes before after text)
Passes-more old new text more p = record { bits = ap (λ b. b ++ more) p.bits ∙ append_assoc text new.left more; place = p.place }

-- a fault that stays
pub fault_stays : (coding : Coding) (width : ℕ) (octets more : List ℕ) (rows : List Elements) (tag : Bool) (bits : List Bool) (fault : PageFault) → length rows ≤ most_rows
    → ReadSoFar coding width octets rows 0 tag bits → ((after : List Bool) → Stops coding width rows 0 tag (bits ++ after) fault) → FailsPage width coding (octets ++ more) fault
fault_stays coding width octets more rows tag bits fault few read stops =
    stops_fail coding width (octets ++ more) rows tag (bits ++ bits_of more) fault few (ReadSoFar-octets coding width octets more rows tag bits read) (stops (bits_of more))

-- a return to control that is broken
pub broken_stays : (coding : Coding) (width : ℕ) (octets more : List ℕ) (rows : List Elements) (tag : Bool) (bits : List Bool) → length rows ≤ most_rows
    → ReadSoFar coding width octets rows 0 tag bits → StopsInReturn coding tag bits (BreaksReturn coding) → FailsPage width coding (octets ++ more) NoRtc
broken_stays coding width octets more rows tag bits few read s =
    return_fails_page coding width (octets ++ more) rows tag (bits ++ bits_of more) few (ReadSoFar-octets coding width octets more rows tag bits read)
    (return_broken coding width rows tag (bits ++ bits_of more) (StopsInReturn-more coding tag bits (bits_of more) s))

pub none_stay : (coding : Coding) (width : ℕ) (octets more : List ℕ) (rows : List Elements) (tag : Bool) (old new : Place) → length rows ≡ 0
    → ReadSoFar coding width octets rows 0 tag old.left → (text : List Bool) × InARow coding tag 5 text true × Passes old new text → FailsPage width coding (octets ++ more) Empty
none_stay coding width octets more rows tag old new none read (text, in_a_row, p) =
    none_fail coding width (octets ++ more) rows tag (record { passed = old.passed; left = old.left ++ bits_of more }) (record { passed = new.passed; left = new.left ++ bits_of more }) none
    (ReadSoFar-octets coding width octets more rows tag old.left read) (text, in_a_row, Passes-more old new text (bits_of more) p)

pub rows_stay : (coding : Coding) (width : ℕ) (octets more : List ℕ) (rows : List Elements) (tag : Bool) (old new : Place) → 0 < length rows → length rows ≤ most_rows
    → ReadSoFar coding width octets rows 0 tag old.left → (text : List Bool) × InARow coding tag 5 text true × Passes old new text → MeansRows width coding (octets ++ more) rows
rows_stay coding width octets more rows tag old new some few read (text, in_a_row, p) =
    some_mean coding width (octets ++ more) rows tag (record { passed = old.passed; left = old.left ++ bits_of more }) (record { passed = new.passed; left = new.left ++ bits_of more }) some few
    (ReadSoFar-octets coding width octets more rows tag old.left read) (text, in_a_row, Passes-more old new text (bits_of more) p)

-- a reader of which it is settled takes any octets
pub IsAfter-settled : (octets piece : List ℕ) (reader : ReaderValue) → IsSome reader.settled → IsAfter octets reader → IsAfter (octets ++ piece) reader
IsAfter-settled octets piece reader some has = record {
  read = λ not_yet. absurd (cc (some, not_yet));
  waits = λ not_yet. absurd (cc (some, not_yet));
  settled = λ what is. (
    (has.settled what is).0,
    λ more. subst (λ all. AreJudged reader.coding (elements_of reader.format.width) all reader.rows (fault_of what))
        (sym (append_assoc octets piece more)) ((has.settled what is).1 (piece ++ more)),
  );
}

-- ---- of what is left nothing more can be read

-- where no EOL stands
pub no_eol_waits : (coding : Coding) (width : ℕ) (rows : List Elements) (tag : Bool) (left : List Bool) → (HoldsEol left → ⊥) → NoMoreIsWhole coding width rows (Some tag) left
no_eol_waits coding width rows tag left none r =
    let next : Bool = r.after.0 in
    let separator : List Bool = r.after.1 in
    let rest : List Bool = r.after.2 in
    let ends = separator_ends coding next separator r.after.3 in
    let text : r.line ++ separator ≡ (r.line ++ ends.0) ++ (end_of_line ++ ends.1) = ap (λ b. r.line ++ b) ends.2 ∙ sym (append_assoc r.line ends.0 (end_of_line ++ ends.1)) in
    none (ends_hold (r.line ++ separator) (r.line ++ ends.0) ends.1 rest left text
    (r.bits_are ∙ ap (λ b. r.line ++ b) r.after.4 ∙ sym (append_assoc r.line separator rest)))

-- where no line begins
pub no_line_waits : (coding : Coding) (width : ℕ) (rows : List Elements) (tag : Bool) (left : List Bool) → 0 < width → (LineBegins left → ⊥) → NoMoreIsWhole coding width rows (Some tag) left
no_line_waits coding width rows tag left some none r = none (BeginsRow-line coding width tag (last_of rows) left some r)

-- where a row was begun for which there is room
room_left : (coding : Coding) (width : ℕ) (rows : List Elements) (tag : Bool) (bits : List Bool) (fault : PageFault) → 0 < width → fault ≢ TooManyRows
    → Stops coding width rows 0 tag bits fault → BeginsRow coding width tag (last_of rows) bits → length rows < most_rows
room_left coding width rows tag bits NoRtc some not_many s b =
    let line_begins : LineBegins bits = BeginsRow-line coding width tag (last_of rows) bits some b in
    elim s [
      | inl out ↦ absurd (line_not_runs_out coding bits line_begins out.1)
      | inr later ↦ elim later [
        | inl line ↦ absurd (omega (arith, line.0))
        | inr last ↦ elim last [
          | inl zero_tag ↦ elim zero_tag.1 [ inl next ↦ absurd (separator_not_line coding bits next.1 line_begins) | inr six ↦ absurd (omega (arith, six)) ]
          | inr read ↦ read.0.room
        ]
      ]
    ]
room_left coding width rows tag bits Empty some not_many s b = absurd (omega (arith, s.0))
room_left coding width rows tag bits TooManyRows some not_many s b = absurd (not_many refl)
room_left coding width rows tag bits (BadLine n) some not_many s b = s.1.room
room_left coding width rows tag bits NoEol some not_many s b = absurd s
room_left coding width rows tag bits NoMemory some not_many s b = absurd s

-- where a fault was met, but for too many rows
pub fault_waits : (coding : Coding) (width : ℕ) (rows : List Elements) (tag : Bool) (left : List Bool) (fault : PageFault) → IsWidth width → All (λ row. length row ≡ width) rows
    → fault ≢ TooManyRows → Stops coding width rows 0 tag left fault → NoMoreIsWhole coding width rows (Some tag) left
fault_waits coding width rows tag left fault is each not_many s r =
    Stops-row coding width rows 0 tag left fault is (last_of-width width rows each) refl (room_left coding width rows tag left fault (width_some width is) not_many s r) r s

-- where a piece brought no EOL
piece_row : (coding : Coding) (width : ℕ) (rows : List Elements) (tag : Bool) (held piece all : List ℕ) (used n : ℕ) → drop used (bits_of all) ≡ drop used (bits_of held) ++ bits_of piece
    → n ≤ (used + length (drop used (bits_of held))) - 13 → (HoldsEol (drop n (bits_of all)) → ⊥)
    → (BeginsRow coding width tag (last_of rows) (drop used (bits_of held)) → ⊥) → BeginsRow coding width tag (last_of rows) (drop used (bits_of all)) → ⊥
piece_row coding width rows tag held piece all used n bits le none before r =
    let next : Bool = r.after.0 in
    let separator : List Bool = r.after.1 in
    let rest : List Bool = r.after.2 in
    let ends = separator_ends coding next separator r.after.3 in
    let text : r.line ++ separator ≡ (r.line ++ ends.0) ++ (end_of_line ++ ends.1) = ap (λ b. r.line ++ b) ends.2 ∙ sym (append_assoc r.line ends.0 (end_of_line ++ ends.1)) in
    let whole : drop used (bits_of held) ++ bits_of piece ≡ (r.line ++ separator) ++ rest = sym bits ∙ r.bits_are ∙ ap (λ b. r.line ++ b) r.after.4 ∙ sym (append_assoc r.line separator rest) in
    let was = begins_before (bits_of all) (drop used (bits_of held)) (bits_of piece) (r.line ++ separator) (r.line ++ ends.0) ends.1 rest used n bits le none text ends.3 whole in
    before record {
      line = r.line;
      row = r.row;
      rest = separator ++ was.0;
      spelt = r.spelt;
      bits_are = was.1 ∙ append_assoc r.line separator was.0;
      after = (next, separator, was.0, r.after.3, refl);
    }

pub piece_waits : (coding : Coding) (width : ℕ) (rows : List Elements) (tag : Option Bool) (held piece all : List ℕ) (used n : ℕ) → IsSome tag → used ≤ 8 * length held
    → all ≡ held ++ piece → n ≤ 8 * length held - 13 → (HoldsEol (drop n (bits_of all)) → ⊥) → NoMoreIsWhole coding width rows tag (drop used (bits_of held))
    → NoMoreIsWhole coding width rows tag (drop used (bits_of all))
piece_waits coding width rows None held piece all used n some inside e le none before = absurd (cc some)
piece_waits coding width rows (Some tag) held piece all used n some inside e le none before =
    let least : n ≤ (used + length (drop used (bits_of held))) - 13 = omega (arith, length-drop used (bits_of held), length-bits_of held) in
    piece_row coding width rows tag held piece all used n (with_piece held piece all used inside e) least none before

-- ---- the front

pub front_read : (coding : Coding) (width : ℕ) (octets : List ℕ) (rows : List Elements) (tag : Bool) (old new : Place) → IsReadUpTo coding width octets rows None old.left
    → (front : List Bool) × IsFront coding tag front × Passes old new front → ReadSoFar coding width octets rows 0 tag new.left
front_read coding width octets rows tag old new (none, before, whole, begin) (front, is, p) = record {
  front = before ++ front;
  lines = [];
  separators = [];
  front_tag = tag;
  row_tag = tag;
  is_front = front_after coding tag before old.left front new.left begin is p.bits;
  spelt = subst (λ (rs : List Elements). SpellsRows coding width tag None rs [] tag) (sym none) (refl, refl);
  in_a_row = (refl, refl);
  bits_are = whole ∙ ap (λ b. before ++ b) p.bits ∙ sym (append_assoc before front new.left);
}

-- where the bits that are left hold no EOL with its tag, only those after this place are kept
pub none_used : (coding : Coding) (width : ℕ) (octets held : List ℕ) (rows : List Elements) (used place : ℕ) → used ≤ place → (used < place → place + 13 ≤ 8 * length held)
    → HoldsNoTaggedEol coding (drop used (bits_of held)) → IsReadUpTo coding width octets rows None (drop used (bits_of held)) → IsReadUpTo coding width octets rows None (drop place (bits_of held))
none_used coding width octets held rows used place le enough none read =
    let after = left_after coding octets held used place le enough none (read.1, read.2, read.3) in
    (read.0, after.0, after.1, after.2)

-- nothing came
pub nothing_read : (format : Format) (coding : Coding) → IsAfter [] (new_reader format coding)
nothing_read format coding = record {
  read = λ not_yet. (refl, [], bits_of-nil, BeginNoEol-none []);
  waits = λ not_yet. HoldsNoTaggedEol-none coding;
  settled = λ what none. absurd (cc);
}

pub new_is : (format : Format) (coding : Coding) (rows : List Elements) (items : List ℕ) → rows ≡ [] → items ≡ []
    → (let made : ReaderValue = record { format = format; coding = coding; rows = rows; tag = None; left = drop 0 (bits_of items); zeros = 0; settled = None } in made ≡ new_reader format coding)
new_is format coding rows items none no_items =
    ap (λ (rs : List Elements). let made : ReaderValue = record { format = format; coding = coding; rows = rs; tag = None; left = drop 0 (bits_of items); zeros = 0; settled = None } in made) none
    ∙ ap (λ (bits : List Bool). let made : ReaderValue = record { format = format; coding = coding; rows = []; tag = None; left = bits; zeros = 0; settled = None } in made) (ap bits_of no_items ∙ bits_of-nil)

-- ---- what is judged

-- by what is settled
pub settled_judged : (octets : List ℕ) (reader : ReaderValue) (what : Settled) → IsAfter octets reader → reader.settled ≡ Some what
    → AreJudged reader.coding (elements_of reader.format.width) octets reader.rows (fault_of what)
settled_judged octets reader what has is =
    subst (λ all. AreJudged reader.coding (elements_of reader.format.width) all reader.rows (fault_of what)) (append-nil octets) ((has.settled what is).1 [])

-- before the first EOL
pub no_front_judged : (coding : Coding) (width : ℕ) (octets : List ℕ) (rows : List Elements) (left : List Bool) → IsReadUpTo coding width octets rows None left
    → NoMoreIsWhole coding width rows None left → FailsPage width coding octets NoEol
no_front_judged coding width octets rows left (none, before, whole, begin) waits = inl (refl, nowhere_eol coding octets before left whole begin waits)

-- ---- the one answer

-- octets that are judged are no page and a fault, nor two faults
pub no_page : (format : Format) (coding : Coding) (octets : List ℕ) (fault : PageFault) (page : PageValue) → FailsPage (elements_of format.width) coding octets fault
    → MeansPage format coding octets page → ⊥
no_page format coding octets fault page fails means = pages_dont_fail (elements_of format.width) coding octets page.rows fault (IsWidth-elements format.width) means.1 fails

pub no_fault : (format : Format) (coding : Coding) (octets : List ℕ) (fault : PageFault) (rows : List Elements) → MeansRows (elements_of format.width) coding octets rows
    → FailsPage (elements_of format.width) coding octets fault → ⊥
no_fault format coding octets fault rows means fails = pages_dont_fail (elements_of format.width) coding octets rows fault (IsWidth-elements format.width) means fails

pub same_fault : (format : Format) (coding : Coding) (octets : List ℕ) (fault other : PageFault) → FailsPage (elements_of format.width) coding octets fault
    → FailsPage (elements_of format.width) coding octets other → fault ≡ other
same_fault format coding octets fault other one two = faults_are_unique (elements_of format.width) coding octets fault other (IsWidth-elements format.width) one two

-- the page of a reader is the one that its octets mean
pub same_page : (octets : List ℕ) (reader : ReaderValue) (page made : PageValue) → MeansRows (elements_of reader.format.width) reader.coding octets reader.rows
    → MeansPage reader.format reader.coding octets page → made ≡ record { format = reader.format; rows = reader.rows } → made ≡ page
same_page octets reader page made mine means e =
    let rows : reader.rows ≡ page.rows =
    pages_are_unique (elements_of reader.format.width) reader.coding octets reader.rows page.rows (IsWidth-elements reader.format.width) mine means.1 in
    e
    ∙ ap (λ (rs : List Elements). let p : PageValue = record { format = reader.format; rows = rs } in p) rows
    ∙ ap (λ (f : Format). let p : PageValue = record { format = f; rows = page.rows } in p) (sym means.0)

-- ---- a line that is passed

pub OnOk_is : {T E : Type 0} (result : Result T E) (P : Type 0) → OnOk result P → IsOk result → P
OnOk_is (Ok value) P p is = p
OnOk_is (Err fault) P p is = absurd (cc is)

pub IfSome_at : {A : Type 0} (value : Option A) (P : A → Type 0) → IfSome value P → (what : A) → value ≡ Some what → P what
IfSome_at (Some value) P p what is =
    let same : value ≡ what = cc is in
    subst P same p
IfSome_at None P p what is = absurd (cc is)

-- a two-dimensional line against the last row
pub SpellsRow-last : (width : ℕ) (tag : Bool) (rows : List Elements) (reference : Elements) (old new : Place) → tag ≡ false → last_of rows ≡ Some reference
    → (row : Elements) × (text : List Bool) × mr.SpellsLine reference text row × Passes old new text
    → (row : Elements) × (text : List Bool) × SpellsRow width tag (last_of rows) text row × Passes old new text
SpellsRow-last width tag rows reference old new two last (row, text, spelt, passes) =
    (row, text, subst (λ (t : Bool). SpellsRow width t (last_of rows) text row) (sym two) (subst (λ (before : Option Elements). SpellsRow width false before text row) (sym last) spelt), passes)

pub FailsRow-last : (width : ℕ) (tag : Bool) (rows : List Elements) (reference : Elements) (bits : List Bool) → tag ≡ false → last_of rows ≡ Some reference
    → (fault : LineFault) × mr_faults.FailsLine reference bits fault → FailsRow width tag (last_of rows) bits
FailsRow-last width tag rows reference bits two last fails =
    subst (λ (t : Bool). FailsRow width t (last_of rows) bits) (sym two) (subst (λ (before : Option Elements). FailsRow width false before bits) (sym last) fails)

-- ---- whether it is settled

pub some_if : {A : Type 0} (value : Option A) (what : A) → value ≡ Some what → IsSome value
some_if value what is = ap is_some is

pub not_none : {A : Type 0} (value : Option A) → IsSome value → value ≡ None → ⊥
not_none (Some value) some none = absurd (cc none)
not_none None some none = absurd (cc some)

pub none_if : {A : Type 0} (value : Option A) → is_some value ≡ false → value ≡ None
none_if (Some value) is = absurd (cc is)
none_if None is = refl

-- ---- where no further row is read

-- an EOL after a place is after one before it
holds_before : (bits : List Bool) (n m : ℕ) → n ≤ m → HoldsEol (drop m bits) → HoldsEol (drop n bits)
holds_before bits n m le (before, rest, e) =
    let whole : n + (m - n) ≡ m = omega arith in
    let split : drop n bits ≡ take (m - n) (drop n bits) ++ drop m bits =
    sym (take-append-drop (m - n) (drop n bits)) ∙ ap (λ b. take (m - n) (drop n bits) ++ b) (drop-drop (m - n) n bits ∙ ap (λ k. drop k bits) whole) in
    (take (m - n) (drop n bits) ++ before, rest, split ∙ ap (λ b. take (m - n) (drop n bits) ++ b) e ∙ sym (append_assoc (take (m - n) (drop n bits)) before (end_of_line ++ rest)))

-- where so many bits of octets were passed, after all EOLs
pub after_all : (octets : List ℕ) (first used : ℕ) (place : Place) → (HoldsEol (drop (8 * first) (bits_of octets)) → ⊥) → IsReached octets used place → 8 * first ≤ place.passed → HoldsEol place.left → ⊥
after_all octets first used place none is le holds = none (holds_before (bits_of octets) (8 * first) place.passed le (subst HoldsEol (sym is.left_is) holds))

pub stopped_waits : (coding : Coding) (width : ℕ) (rows : List Elements) (tag : Bool) (left : List Bool) (stop : Stop) → IsWidth width → All (λ row. length row ≡ width) rows
    → (stop ≡ NoEols → HoldsEol left → ⊥) → (stop ≡ NoLine → LineBegins left → ⊥) → ((fault : PageFault) → stop ≡ Fault fault → Stops coding width rows 0 tag left fault)
    → stop ≢ Fault TooManyRows → NoMoreIsWhole coding width rows (Some tag) left
stopped_waits coding width rows tag left NoEols is each eol line met not_many = no_eol_waits coding width rows tag left (eol refl)
stopped_waits coding width rows tag left NoLine is each eol line met not_many = no_line_waits coding width rows tag left (width_some width is) (line refl)
stopped_waits coding width rows tag left (Fault fault) is each eol line met not_many =
    fault_waits coding width rows tag left fault is each (λ many. not_many (ap (λ (f : PageFault). Fault f) many)) (met fault refl)

-- ---- what is kept

-- Of octets of zeros no more are kept than may be.
pub fill_kept : (held piece all : List ℕ) (used place before after n : ℕ) → all ≡ held ++ less_fill before piece → after ≡ zeros_after before piece → piece ≡ replicate n 0
    → used ≤ place → used ≤ 8 * length held → length (drop place (bits_of all)) + 8 * (4 - after) ≤ length (drop used (bits_of held)) + 8 * (4 - before)
fill_kept held piece all used place before after n whole count zeros on within =
    let few = subst (λ os. length (less_fill before os) + (4 - zeros_after before os) ≤ 4 - before) (sym zeros) (few_zeros_kept before n) in
    omega (arith, few, count, on, within, ap length whole, length-append held (less_fill before piece), length-drop place (bits_of all), length-bits_of all, length-drop used (bits_of held), length-bits_of held)

-- how many octets those are in which bits stand of which fewer than eight are used
pub octets_of_bits : (octets : List ℕ) (used : ℕ) → used < 8 → used ≤ 8 * length octets → length octets ≡ (length (drop used (bits_of octets)) + 7) / 8
octets_of_bits octets used few within = omega (arith, few, within, length-drop used (bits_of octets), length-bits_of octets)
