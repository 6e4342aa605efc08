-- Octets mean a page, or meet a fault.
use Rattle.std.proofs.Common.{◌≡◌, ◌⊎◌, ℕ, zero, suc, ◌+◌, ◌<◌, ◌≤◌, Bool, true, false, List, [], ◌∷◌, ◌++◌, Option, Some, None, length, replicate, refl, sym, ◌∙◌, ap, subst, arith, inl, inr, append_assoc, append-nil, length-append}
use Rattle.std.proofs.lemmas.Bool.{cases_eq, cases_lt}
use Rattle.std.proofs.lemmas.List.{length_push}
use Rattle.fax_bits.specs.Bits.{bits_of}
use Rattle.fax_bits.specs.Reading.{Place, Passes}
use Rattle.fax_runcodes.specs.declared.format.Coding.{Coding}
use Rattle.fax_runcodes.specs.declared.format.Coding.TheVariants.{Mh, Mr}
use Rattle.fax_runcodes.specs.Rows.{Elements}
use Rattle.fax_mhcode.proofs.ReadOrFail as mh
use Rattle.fax_mrcode.proofs.ReadOrFail as mr
use Rattle.fax_pagestore.specs.declared.fault.PageFault.{PageFault}
use Rattle.fax_pagestore.specs.declared.fault.PageFault.TheVariants.{NoEol, BadLine, NoRtc, Empty, TooManyRows}
use Rattle.fax_pagestore.specs.Ends.{HoldsNoTaggedEol}
use Rattle.fax_pagestore.specs.PageFaults.{LineBegins, RunsOut, SeparatorBegins, WantsLine, FailsRow, ReadsRow, Stops, HasNoEol, FailsPage, last_of}
use Rattle.fax_pagestore.specs.PageLaws.{PagesAreReadOrFail}
use Rattle.fax_pagestore.specs.PageRows.{most_rows}
use Rattle.fax_pagestore.specs.PageTexts.{end_of_line, IsTag, IsSeparator, IsFront, ReadSoFar, MeansRows}
use Rattle.fax_pagestore.proofs.FrontLemmas.{FrontSoFar, FrontSoFar-none, FrontSoFar-more, IsFront-from, no_front, no_tag, zeros_one_shorter}
use Rattle.fax_pagestore.proofs.PageReading.{InARow-push, ReadSoFar-row}
use Rattle.fax_pagestore.proofs.ReadLemmas.{ReadSoFar-lengths}
use Rattle.fax_pagestore.proofs.TextLemmas.{zeros_or_one, what_begins}

-- ---- the front

-- bits begin with a tag, or end before it
tag_or_none : (coding : Coding) (bits : List Bool) → ((tag : Bool) × (text rest : List Bool) × IsTag coding tag text × (bits ≡ text ++ rest)) ⊎ ((coding ≡ Mr) × (bits ≡ []))
tag_or_none Mh bits = inl (true, [], bits, (refl, refl), refl)
tag_or_none Mr [] = inr (refl, refl)
tag_or_none Mr (tag ∷ rest) = inl (tag, tag ∷ [], rest, refl, refl)

-- the front was passed, or there is none
abbrev FrontOrNone : Coding → Place → Type 0
FrontOrNone coding old = ((tag : Bool) × (front : List Bool) × (new : Place) × IsFront coding tag front × Passes old new front) ⊎ HoldsNoTaggedEol coding old.left

-- where only zeros are left
only_zeros_left : (coding : Coding) (old mid : Place) (zeros : ℕ) → FrontSoFar old mid → mid.left ≡ replicate zeros false → FrontOrNone coding old
only_zeros_left coding old mid zeros r e =
    let new : Place = record { passed = mid.passed + length (replicate zeros false); left = [] } in
    let p : Passes mid new (replicate zeros false) = record { bits = e ∙ sym (append-nil (replicate zeros false)); place = refl } in
    inr (no_front old mid new zeros r p (omega arith) coding)

-- where the first EOL was passed
after_eol : (coding : Coding) (old mid last : Place) (zeros : ℕ) → FrontSoFar old mid → Passes mid last (replicate zeros false ++ true ∷ []) → 11 ≤ zeros → FrontOrNone coding old
after_eol coding old mid last zeros r p enough = elim (tag_or_none coding last.left) [
  | inr none ↦ inr (no_tag old mid last zeros r p coding none)
  | inl tagged ↦
      let new : Place = record { passed = last.passed + length tagged.1; left = tagged.2 } in
      let q : Passes last new tagged.1 = record { bits = tagged.4; place = refl } in
      let front : (front : List Bool) × IsFront coding tagged.0 front × Passes old new front = IsFront-from coding tagged.0 old mid last new zeros r p enough (tagged.1, tagged.3, q) in
      inl (tagged.0, front.0, new, front.1, front.2)
]

front_or_none : (coding : Coding) (n : ℕ) (old mid : Place) → length mid.left < n → FrontSoFar old mid → FrontOrNone coding old
front_or_none coding zero old mid few r = absurd (omega arith)
front_or_none coding (suc n) old mid few r = elim (zeros_or_one mid.left) [
  | inl zeros ↦ only_zeros_left coding old mid zeros.0 r zeros.1
  | inr one ↦
      let last : Place = record { passed = mid.passed + length (replicate one.0 false ++ true ∷ []); left = one.1 } in
      let p : Passes mid last (replicate one.0 false ++ true ∷ []) = record { bits = one.2 ∙ sym (append_assoc (replicate one.0 false) (true ∷ []) one.1); place = refl } in
      elim (cases_lt one.0 11) [
        | inr enough ↦ after_eol coding old mid last one.0 r p enough
        | inl less ↦ front_or_none coding n old last (omega (arith, zeros_one_shorter mid last one.0 p)) (FrontSoFar-more old mid last one.0 r p less)
      ]
]

-- where no EOL has its tag, none of the octets' fronts ends with one
no_eol : (coding : Coding) (octets : List ℕ) → HoldsNoTaggedEol coding (bits_of octets) → HasNoEol coding octets
no_eol coding octets none tag front rest is e =
    let text : front ≡ (is.ends.0 ++ end_of_line) ++ is.tag_text = is.text_is ∙ ap (λ b. b ++ is.tag_text) is.ends.1 in
    none tag is.ends.0 is.tag_text rest is.is_tag
    (e ∙ ap (λ b. b ++ rest) text ∙ append_assoc (is.ends.0 ++ end_of_line) is.tag_text rest ∙ append_assoc is.ends.0 end_of_line (is.tag_text ++ rest))

-- ---- a row

-- a row is read, or can't be
row_or_fails : (width : ℕ) (tag : Bool) (before : Option Elements) (bits : List Bool) → ((rest : List Bool) × ReadsRow width tag before bits rest) ⊎ FailsRow width tag before bits
row_or_fails width true before bits = elim (mh.lines_are_read_or_fail width bits) [
  | inl line ↦ inl (line.1, (line.0, line.2, line.3, line.4))
  | inr fails ↦ inr fails
]
row_or_fails width false (Some reference) bits = elim (mr.lines_are_read_or_fail reference bits) [
  | inl line ↦ inl (line.1, (line.0, line.2, line.3, line.4))
  | inr fails ↦ inr fails
]
row_or_fails width false None bits = inr tt

-- a separator has bits
separator_some : (coding : Coding) (tag : Bool) (text : List Bool) → IsSeparator coding tag text → 0 < length text
separator_some coding tag text is =
    let parts : length text ≡ length (replicate is.0 false) + length (true ∷ is.1) = ap length is.4 ∙ length-append (replicate is.0 false) (true ∷ is.1) in
    omega arith

-- ---- where reading stops

-- Octets of which the same is read: any for which this holds.
module _ (width : ℕ) (coding : Coding) (Is : List ℕ → Type 0) where
  -- what is read of each of them
  abbrev pub Read : List Elements → ℕ → Bool → List Bool → Type 0
  Read rows further tag rest = (octets : List ℕ) → Is octets → ReadSoFar coding width octets rows further tag rest

  -- all of them mean one page, or meet one fault
  abbrev pub MeanOrFail : Type 0
  MeanOrFail = ((rows : List Elements) × ((octets : List ℕ) → Is octets → MeansRows width coding octets rows))
      ⊎ ((fault : PageFault) × ((octets : List ℕ) → Is octets → FailsPage width coding octets fault))

  stops_here : (rows : List Elements) (further : ℕ) (tag : Bool) (rest : List Bool) (fault : PageFault) → length rows ≤ most_rows → further ≤ 5
      → Read rows further tag rest → Stops coding width rows further tag rest fault → MeanOrFail
  stops_here rows further tag rest fault few six r stops =
      inr (fault, λ octets is. inr (record { rows = rows; further = further; tag = tag; rest = rest; few = few; at_most_six = six; read = r octets is; stops = stops }))

  -- one separator more
  separator_more : (rows : List Elements) (further : ℕ) (next : Bool) (rest separator more : List Bool) → Read rows further true rest
      → IsSeparator coding next separator → rest ≡ separator ++ more → Read rows (suc further) next more
  separator_more rows further next rest separator more read is e = λ octets here.
      let r : ReadSoFar coding width octets rows further true rest = read octets here in
      record {
        front = r.front;
        lines = r.lines;
        separators = r.separators ++ separator;
        front_tag = r.front_tag;
        row_tag = r.row_tag;
        is_front = r.is_front;
        spelt = r.spelt;
        in_a_row = InARow-push coding further r.row_tag true next r.separators separator r.in_a_row refl is;
        bits_are = r.bits_are ∙ ap (λ b. r.front ++ (r.lines ++ (r.separators ++ b))) e ∙ ap (λ b. r.front ++ (r.lines ++ b)) (sym (append_assoc r.separators separator more));
      }

  -- all six separators were read
  six_read : (rows : List Elements) (tag : Bool) (rest : List Bool) → length rows ≤ most_rows → Read rows 5 tag rest → MeanOrFail
  six_read rows false rest few r = stops_here rows 5 false rest NoRtc few (omega arith) r (inr (inr (inl (refl, inr refl))))
  six_read [] true rest few r = stops_here [] 5 true rest Empty few (omega arith) r (refl, refl, refl)
  six_read (row ∷ rows) true rest few r =
      inl (
        row ∷ rows,
        λ octets here. record {
          are_rows = record { some = omega arith; few = few; each = ReadSoFar-lengths coding width octets (row ∷ rows) 5 true rest (r octets here) };
          more = rest;
          read = r octets here;
        },
      )

  -- no separator begins after two to five
  breaks_return : (rows : List Elements) (further : ℕ) (tag : Bool) (rest : List Bool) → length rows ≤ most_rows → 0 < further → further < 5
      → Read rows further tag rest → LineBegins rest ⊎ RunsOut coding rest → MeanOrFail
  breaks_return rows further tag rest few some less r (inl line) = stops_here rows further tag rest NoRtc few (omega arith) r (inr (inl (some, less, line)))
  breaks_return rows further tag rest few some less r (inr out) = stops_here rows further tag rest NoRtc few (omega arith) r (inl (less, out))

  -- a separator follows one of tag 0
  tag_breaks : (rows : List Elements) (further : ℕ) (rest : List Bool) → length rows ≤ most_rows → further < 5
      → Read rows further false rest → SeparatorBegins coding rest → MeanOrFail
  tag_breaks rows further rest few less r begins = stops_here rows further false rest NoRtc few (omega arith) r (inr (inr (inl (refl, inl (less, begins)))))

  -- further separators were read, of which so many are missing yet
  return_from : (rows : List Elements) (n further : ℕ) (tag : Bool) (rest : List Bool) → length rows ≤ most_rows → further + n ≡ 5 → 0 < further
      → Read rows further tag rest → MeanOrFail
  return_from rows zero further tag rest few sum some r =
      let five : further ≡ 5 = omega arith in
      six_read rows tag rest few (subst (λ n. Read rows n tag rest) five r)
  return_from rows (suc n) further false rest few sum some r = elim (what_begins coding rest) [
    | inl begins ↦ tag_breaks rows further rest few (omega arith) r begins
    | inr other ↦ breaks_return rows further false rest few some (omega arith) r other
  ]
  return_from rows (suc n) further true rest few sum some r = elim (what_begins coding rest) [
    | inl next ↦ return_from rows n (suc further) next.0 next.2 few (omega arith) (omega arith) (separator_more rows further next.0 rest next.1 next.2 r next.3 next.4)
    | inr other ↦ breaks_return rows further true rest few some (omega arith) r other
  ]

  -- a separator follows the one after the rows
  in_return : (rows : List Elements) (tag : Bool) (rest : List Bool) → length rows ≤ most_rows → Read rows 0 tag rest → SeparatorBegins coding rest → MeanOrFail
  in_return rows false rest few r begins = tag_breaks rows 0 rest few (omega arith) r begins
  in_return rows true rest few r next =
      return_from rows 4 1 next.0 next.2 few (omega arith) (omega arith) (separator_more rows 0 next.0 rest next.1 next.2 r next.3 next.4)

  -- ---- the rows

  -- the row after these can't be read, or no separator is after it
  row_stops : (rows : List Elements) (tag : Bool) (rest : List Bool) → length rows ≤ most_rows → Read rows 0 tag rest → WantsLine rows 0 rest
      → FailsRow width tag (last_of rows) rest ⊎ ((after : List Bool) × ReadsRow width tag (last_of rows) rest after × (LineBegins after ⊎ RunsOut coding after)) → MeanOrFail
  row_stops rows tag rest few r wants (inl fails) = stops_here rows 0 tag rest (BadLine (length rows)) few (omega arith) r (refl, wants, inl fails)
  row_stops rows tag rest few r wants (inr (after, reads, inl line)) = stops_here rows 0 tag rest (BadLine (length rows)) few (omega arith) r (refl, wants, inr (after, reads, line))
  row_stops rows tag rest few r wants (inr (after, reads, inr out)) = stops_here rows 0 tag rest NoRtc few (omega arith) r (inr (inr (inr (wants, after, reads, out))))

  -- one row more, with less left after its separator
  record RowMore (rest : List Bool) : Type 0 where
    pub rows : List Elements
    pub tag : Bool
    pub left : List Bool
    pub less : length left < length rest
    pub few : length rows ≤ most_rows
    pub read : Read rows 0 tag left

  row_more : (rows : List Elements) (tag : Bool) (rest after : List Bool) → Read rows 0 tag rest → WantsLine rows 0 rest
      → ReadsRow width tag (last_of rows) rest after → SeparatorBegins coding after → RowMore rest
  row_more rows tag rest after r wants (line, row, spelt, e) (next, separator, left, is, e2) =
      let some : 0 < length separator = separator_some coding next separator is in
      let size : length rest ≡ length line + length after = ap length e ∙ length-append line after in
      let size2 : length after ≡ length separator + length left = ap length e2 ∙ length-append separator left in
      let whole : rest ≡ (line ++ separator) ++ left = e ∙ ap (λ b. line ++ b) e2 ∙ sym (append_assoc line separator left) in
      record {
        rows = rows ++ row ∷ [];
        tag = next;
        left = left;
        less = omega arith;
        few = omega (arith, length_push rows row, wants.room);
        read = λ octets here. ReadSoFar-row coding width octets rows row tag next rest line separator left (r octets here) spelt is whole;
      }

  -- where a line is wanted
  line_from : (rows : List Elements) (tag : Bool) (rest : List Bool) → length rows ≤ most_rows → Read rows 0 tag rest → WantsLine rows 0 rest → RowMore rest ⊎ MeanOrFail
  line_from rows tag rest few r wants = elim (row_or_fails width tag (last_of rows) rest) [
    | inr fails ↦ inr (row_stops rows tag rest few r wants (inl fails))
    | inl reads ↦ elim (what_begins coding reads.0) [
      | inl next ↦ inl (row_more rows tag rest reads.0 r wants reads.1 next)
      | inr other ↦ inr (row_stops rows tag rest few r wants (inr (reads.0, reads.1, other)))
    ]
  ]

  -- where a line or a separator begins, or the bits run out
  one_row : (rows : List Elements) (tag : Bool) (rest : List Bool) → length rows ≤ most_rows → Read rows 0 tag rest → RowMore rest ⊎ MeanOrFail
  one_row rows tag rest few r = elim (what_begins coding rest) [
    | inl begins ↦ inr (in_return rows tag rest few r begins)
    | inr other ↦ elim other [
      | inr out ↦ inr (stops_here rows 0 tag rest NoRtc few (omega arith) r (inl (omega arith, out)))
      | inl line ↦ elim (cases_eq (length rows) most_rows) [
        | inl full ↦ inr (stops_here rows 0 tag rest TooManyRows few (omega arith) r (refl, line, full))
        | inr apart ↦ line_from rows tag rest few r (record { one_separator = refl; begins = line; room = omega arith })
      ]
    ]
  ]

  pub rows_from : (n : ℕ) (rows : List Elements) (tag : Bool) (rest : List Bool) → length rest < n → length rows ≤ most_rows → Read rows 0 tag rest → MeanOrFail
  rows_from zero rows tag rest less few r = absurd (omega arith)
  rows_from (suc n) rows tag rest less few r = elim (one_row rows tag rest few r) [
    | inr ended ↦ ended
    | inl more ↦ rows_from n more.rows more.tag more.left (omega (arith, more.less)) more.few more.read
  ]

-- after the front nothing more is read yet
front_read : (width : ℕ) (coding : Coding) (octets : List ℕ) (tag : Bool) (front rest : List Bool) → IsFront coding tag front → bits_of octets ≡ front ++ rest
    → ReadSoFar coding width octets [] 0 tag rest
front_read width coding octets tag front rest is e = record {
  front = front;
  lines = [];
  separators = [];
  front_tag = tag;
  row_tag = tag;
  is_front = is;
  spelt = (refl, refl);
  in_a_row = (refl, refl);
  bits_are = e;
}

-- what octets alone are
alone : (width : ℕ) (coding : Coding) (octets : List ℕ) → MeanOrFail width coding (λ os. os ≡ octets)
    → ((rows : List Elements) × MeansRows width coding octets rows) ⊎ ((fault : PageFault) × FailsPage width coding octets fault)
alone width coding octets (inl (rows, means)) = inl (rows, means octets refl)
alone width coding octets (inr (fault, fails)) = inr (fault, fails octets refl)

-- Octets mean a page, or meet a fault.
pub pages_are_read_or_fail : PagesAreReadOrFail
pages_are_read_or_fail width coding octets =
    let start : Place = record { passed = 0; left = bits_of octets } in
    elim (front_or_none coding (suc (length (bits_of octets))) start start (omega arith) (FrontSoFar-none start)) [
      | inr none ↦ inr (NoEol, inl (refl, no_eol coding octets none))
      | inl found ↦
          alone width coding octets
          (rows_from width coding (λ os. os ≡ octets) (suc (length found.2.left)) [] found.0 found.2.left (omega arith) (omega arith)
          (λ os here. subst (λ (o : List ℕ). ReadSoFar coding width o [] 0 found.0 found.2.left) (sym here) (front_read width coding octets found.0 found.1 found.2.left found.3 found.4.bits)))
    ]
