-- A two-dimensional line that is being read: the steps so far, and one more.
use Rattle.std.proofs.Common.{◌≡◌, ◌≢◌, ℕ, zero, suc, ◌+◌, ◌-◌, ◌<◌, ◌≤◌, Bool, List, [], ◌∷◌, ◌++◌, length, replicate, refl, sym, ◌∙◌, ap, subst, arith, inl, inr, ◌⊎◌, append_assoc, append-nil, length-append, add-one, slice_index, slice_index_or}
use Rattle.std.proofs.lemmas.List.{length-replicate, get_or_default, get_or_past, get_or_append_left, get_or-append_right, get_or-replicate}
use Rattle.std.proofs.lemmas.Bool.{cases_lt, cases_eq}
use Rattle.fax_bits.specs.Reading.{Place, Passes}
use Rattle.fax_bits.proofs.ReadingLemmas.{Passes-none, Passes-then}
use Rattle.fax_runcodes.specs.declared.Colour.{Colour}
use Rattle.fax_runcodes.specs.declared.Colour.TheVariants.{White}
use Rattle.fax_runcodes.specs.Rows.{Elements, other, colour_at, colour_before}
use Rattle.fax_runcodes.specs.Painted.{painted, AreRising, colour_after_changes}
use Rattle.fax_runcodes.proofs.RowPixelsLemmas.{rising_before_end}
use Rattle.fax_runcodes.specs.Spelling.{SpellsRun}
use Rattle.fax_mhcode.specs.declared.fault.LineFault.{LineFault}
use Rattle.fax_mhcode.specs.declared.fault.LineFault.TheVariants.{Run, PastWidth, NoMode, BadPlace, NoMemory}
use Rattle.fax_mrcode.specs.declared.mode.Mode.{Mode}
use Rattle.fax_mrcode.specs.declared.mode.Mode.TheVariants.{Pass, Horizontal, Vertical}
use Rattle.fax_mrcode.specs.declared.mode.Offset.{Offset}
use Rattle.fax_mrcode.specs.declared.reading.Start.{Start}
use Rattle.fax_mrcode.specs.declared.reading.TakenStep.{TakenStep}
use Rattle.fax_mrcode.specs.Modes.{mode_word, IsAt}
use Rattle.fax_mrcode.specs.Places.{a1, a2, b1, b2, run_start}
use Rattle.fax_mrcode.specs.Lines.{Steps, SpellsLine}
use Rattle.fax_mrcode.specs.LineFaults.{FailsLine, Stops, StopsAtRun}
use Rattle.fax_mrcode.specs.Starts.{IsCursor, IsIndexOfB1, IsStart, IsTaken, Completes, TakesStep, TakesSteps, StepsSoFar, after_step}
use Rattle.fax_mrcode.proofs.PlaceLemmas.{IsStretch, IsA1, IsA2, a1_is, a2_is}
use Rattle.fax_mrcode.proofs.CursorLemmas.{colour_after-more, other_apart, rising_below, IsCursor-first, IsCursor-on, IsCursor-right, IsCursor-second, place_le, b1_is, b2_is, b2_right}

-- ---- rows that begin with the elements so far

-- the row's elements are these as far as these go
abbrev pub BeginsLike : Elements → Elements → Type 0
BeginsLike line row = (k : ℕ) → k < length line → colour_at row k ≡ colour_at line k

begins_left : (line more row : Elements) → BeginsLike (line ++ more) row → BeginsLike line row
begins_left line more row h k lt =
    let parts : length (line ++ more) ≡ length line + length more = length-append line more in
    h k (omega arith) ∙ get_or_append_left line more White k lt

begins_right : (line row : Elements) (n : ℕ) (colour : Colour) (from to : ℕ) → BeginsLike (line ++ replicate n colour) row → length line ≤ from → to ≤ length line + n → IsStretch row colour from to
begins_right line row n colour from to h low high = record {
  all = λ k a b. (
      let parts : length (line ++ replicate n colour) ≡ length line + length (replicate n colour) = length-append line (replicate n colour) in
      let size : length (replicate n colour) ≡ n = length-replicate n colour in
      h k (omega arith)
      ∙ get_or-append_right line (replicate n colour) (length line) k White refl (omega arith)
      ∙ get_or-replicate n (k - length line) colour White (omega arith));
}

pub length-painted_more : (line : Elements) (n : ℕ) (colour : Colour) → length (line ++ replicate n colour) ≡ length line + n
length-painted_more line n colour = length-append line (replicate n colour) ∙ ap (λ m. length line + m) (length-replicate n colour)

before_next : (row : Elements) (place : ℕ) → colour_before row (place + 1) ≡ colour_at row place
before_next row place = ap (colour_before row) (add-one place)

-- the colour at a0, where the elements from it on have one
before_stretch : (row : Elements) (colour : Colour) (from to : ℕ) → (from ≡ 0 → colour ≡ White) → run_start from < to ⊎ (from ≡ 0) → IsStretch row colour (run_start from) to → colour_before row from ≡ colour
before_stretch row colour zero to first some s = sym (first refl)
before_stretch row colour (suc a0) to first (inl some) s =
    let at : suc a0 - 1 ≡ a0 = omega arith in
    s.all a0 (omega arith) (omega arith)
before_stretch row colour (suc a0) to first (inr none) s = absurd (omega arith)

-- ---- a1 and a2 of a row
pub a1_at : (row : Elements) (colour : Colour) (from place : ℕ) → from ≤ length row → colour_before row from ≡ colour → from ≤ place → place ≤ length row
    → IsStretch row colour from place → (place < length row → colour_at row place ≡ other colour) → a1 row from ≡ place
a1_at row colour from place le before low high s change =
    let first : IsA1 row from = a1_is row from le in
    elim (cases_eq (a1 row from) place) [
      | inl same ↦ same
      | inr apart ↦ elim (cases_lt (a1 row from) place) [
        | inl left ↦
            let here : colour_at row (a1 row from) ≡ colour = s.all (a1 row from) first.low left in
            let there : colour_at row (a1 row from) ≡ other (colour_before row from) = first.change (omega arith) in
            absurd (other_apart colour (sym (ap other before) ∙ sym there ∙ here))
        | inr right ↦
            let up : a1 row from ≤ length row = first.high in
            let here : colour_at row place ≡ colour_before row from = first.stretch.all place low (omega arith) in
            absurd (other_apart colour (sym (change (omega arith)) ∙ here ∙ before))
      ]
    ]

pub a2_at : (row : Elements) (colour : Colour) (from middle place : ℕ) → from ≤ length row → colour_before row from ≡ colour → a1 row from ≡ middle → middle ≤ place → place ≤ length row
    → IsStretch row (other colour) middle place → (place < length row → colour_at row place ≡ colour) → a2 row from ≡ place
a2_at row colour from middle place le before first low high s change =
    let second : IsA2 row from = a2_is row from le in
    let order : a1 row from ≤ a2 row from = second.low in
    elim (cases_eq (a2 row from) place) [
      | inl same ↦ same
      | inr apart ↦ elim (cases_lt (a2 row from) place) [
        | inl left ↦
            let here : colour_at row (a2 row from) ≡ other colour = s.all (a2 row from) (omega arith) left in
            let there : colour_at row (a2 row from) ≡ colour_before row from = second.change (omega arith) in
            absurd (other_apart colour (sym here ∙ there ∙ before))
        | inr right ↦
            let up : a2 row from ≤ length row = second.high in
            let here : colour_at row place ≡ other (colour_before row from) = second.stretch.all place (omega arith) (omega arith) in
            absurd (other_apart colour (sym (here ∙ ap other before) ∙ change (omega arith)))
      ]
    ]

-- where a row goes on in the colour at a0, a1 lies further right
pub past_stretch : (row : Elements) (colour : Colour) (from place : ℕ) → from ≤ length row → colour_before row from ≡ colour → place < length row → IsStretch row colour from (place + 1) → place < a1 row from
past_stretch row colour from place le before within s =
    let first : IsA1 row from = a1_is row from le in
    elim (cases_lt place (a1 row from)) [
      | inl right ↦ right
      | inr left ↦
          let low : from ≤ a1 row from = first.low in
          let here : colour_at row (a1 row from) ≡ colour = s.all (a1 row from) low (omega arith) in
          let there : colour_at row (a1 row from) ≡ other (colour_before row from) = first.change (omega arith) in
          absurd (other_apart colour (sym (ap other before) ∙ sym there ∙ here))
    ]

-- a stretch and the element after it
stretch_more : (row : Elements) (colour : Colour) (from to : ℕ) → IsStretch row colour from to → colour_at row to ≡ colour → IsStretch row colour from (to + 1)
stretch_more row colour from to s here = record { all = λ k a b. elim (cases_eq k to) [ inl same ↦ rw same here | inr apart ↦ s.all k a (omega arith) ] }

-- ---- one more step
module _ (ps : List ℕ) (width : ℕ) (rising : AreRising 0 ps width) (line : Elements) (start : Start) (is_start : IsStart ps width line start) (inside : start.from ≤ width) where
  start_size : length line ≡ run_start start.from
  start_size = is_start.size

  -- a row that has the colour at a0 up to this place is one that the line might become before
  completes_before : (n : ℕ) (row : Elements) → length row ≡ width → BeginsLike (line ++ replicate n start.colour) row → (0 < n) ⊎ (start.from ≡ 0) → Completes width line start.from start.colour row
  completes_before n row wide like some =
      let s : IsStretch row start.colour (run_start start.from) (length line + n) = begins_right line row n start.colour (run_start start.from) (length line + n) like (omega (arith, start_size)) (omega arith) in
      let reach : (run_start start.from < length line + n) ⊎ (start.from ≡ 0) = elim some [ inl more ↦ inl (omega (arith, start_size)) | inr none ↦ inr none ] in
      record {
        same_width = wide;
        front = begins_left line (replicate n start.colour) row like;
        here = λ le. before_stretch row start.colour start.from (length line + n) is_start.first reach s;
      }

  -- up to a place right of a0
  some_more : (place : ℕ) → start.from ≤ place → (0 < place - length line) ⊎ (start.from ≡ 0)
  some_more place right = elim (cases_eq start.from 0) [ inl none ↦ inr none | inr some ↦ inl (omega (arith, start_size)) ]

  place_sum : (place : ℕ) → start.from ≤ place → length line + (place - length line) ≡ place
  place_sum place right = omega (arith, start_size)

  -- the row's elements from a0 up to a place
  stretch_to : (place : ℕ) → start.from ≤ place → (row : Elements) → BeginsLike (line ++ replicate (place - length line) start.colour) row → IsStretch row start.colour start.from place
  stretch_to place right row like = begins_right line row (place - length line) start.colour start.from place like (omega (arith, start_size)) (omega (arith, place_sum place right))

  -- the next start, where the elements up to a place are painted
  pub IsStart-next : (colour : Colour) (place index : ℕ) → start.from ≤ place → place ≤ width → (place + 1 ≤ width → IsCursor ps colour (place + 1) index)
      → IsStart ps width (line ++ replicate (place - length line) start.colour) (record { from = place + 1; colour = colour; index = index })
  IsStart-next colour place index right le cursor = record {
    size = length-painted_more line (place - length line) start.colour ∙ place_sum place right ∙ omega arith;
    within = omega arith;
    first = λ none. absurd (omega arith);
    cursor = cursor;
  }

  pub TakesStep-pass : IsIndexOfB1 ps start.colour start.from start.index → (place : ℕ) → place ≡ slice_index_or ps (start.index + 1) width → place ≢ width
      → TakesStep (painted White 0 ps width) width Pass [] line start (line ++ replicate (place - length line) start.colour) (record { from = place + 1; colour = start.colour; index = start.index })
  TakesStep-pass at place is apart =
      let right : start.from ≤ place = omega (arith, b2_right ps width rising start.colour start.from start.index inside at) in
      let below : place < width = omega (arith, place_le ps width rising (start.index + 1)) in
      let before : (row : Elements) → Completes width (line ++ replicate (place - length line) start.colour) (place + 1) start.colour row → Completes width line start.from start.colour row =
      λ row c. completes_before (place - length line) row c.same_width c.front (some_more place right) in
      record {
        place = place;
        from_is = refl;
        right = right;
        completes = before;
        step = λ row c. (
            let wide : length row ≡ width = c.same_width in
            let colour : colour_before row start.from ≡ start.colour = (before row c).here inside in
            let here : colour_at row place ≡ start.colour = sym (before_next row place) ∙ c.here (omega arith) in
            let s : IsStretch row start.colour start.from (place + 1) = stretch_more row start.colour start.from place (stretch_to place right row c.front) here in
            let b : b2 (painted White 0 ps width) row start.from ≡ place = b2_is ps width rising row start.colour start.from start.index wide colour inside at ∙ sym is in
            (subst (λ n. n < a1 row start.from) (sym b) (past_stretch row start.colour start.from place (omega arith) colour (omega arith) s), refl, sym b));
      }

  pub TakesStep-vertical : IsIndexOfB1 ps start.colour start.from start.index → (offset : Offset) (place index : ℕ) → IsAt offset place (slice_index_or ps start.index width) → start.from ≤ place → place ≤ width
      → TakesStep (painted White 0 ps width) width (Vertical offset) [] line start (line ++ replicate (place - length line) start.colour) (record { from = place + 1; colour = other start.colour; index = index })
  TakesStep-vertical at offset place index is right le =
      let before : (row : Elements) → Completes width (line ++ replicate (place - length line) start.colour) (place + 1) (other start.colour) row → Completes width line start.from start.colour row =
      λ row c. completes_before (place - length line) row c.same_width c.front (some_more place right) in
      record {
        place = place;
        from_is = refl;
        right = right;
        completes = before;
        step = λ row c. (
            let wide : length row ≡ width = c.same_width in
            let colour : colour_before row start.from ≡ start.colour = (before row c).here inside in
            let change : place < length row → colour_at row place ≡ other start.colour = λ lt. sym (before_next row place) ∙ c.here (omega arith) in
            let a : a1 row start.from ≡ place = a1_at row start.colour start.from place (omega arith) colour right (omega arith) (stretch_to place right row c.front) change in
            let b : b1 (painted White 0 ps width) row start.from ≡ slice_index_or ps start.index width = b1_is ps width rising row start.colour start.from start.index wide colour inside at in
            (subst (λ n. IsAt offset n (b1 (painted White 0 ps width) row start.from)) (sym a) (subst (λ n. IsAt offset place n) (sym b) is), refl, sym a));
      }

  pub TakesStep-horizontal : (first second : ℕ) (s t : List Bool) (index : ℕ) → SpellsRun start.colour s first → SpellsRun (other start.colour) t second
      → (0 < first) ⊎ (start.from ≡ 0) → length line + first ≤ width → (0 < second) ⊎ (length line + first ≡ width) → length line + first + second ≤ width
      → TakesStep (painted White 0 ps width) width Horizontal (s ++ t) line start ((line ++ replicate first start.colour) ++ replicate second (other start.colour))
      (record { from = length line + first + second + 1; colour = start.colour; index = index })
  TakesStep-horizontal first second s t index spelt spelt2 some le some2 le2 =
      let middle : Elements = line ++ replicate first start.colour in
      let place : ℕ = length line + first + second in
      let mid_size : length middle ≡ length line + first = length-painted_more line first start.colour in
      let right : start.from ≤ length line + first = elim some [ inl more ↦ omega (arith, start_size) | inr none ↦ omega arith ] in
      let before : (row : Elements) → Completes width (middle ++ replicate second (other start.colour)) (place + 1) start.colour row → Completes width line start.from start.colour row =
      λ row c. completes_before first row c.same_width (begins_left middle (replicate second (other start.colour)) row c.front) some in
      record {
        place = place;
        from_is = refl;
        right = omega arith;
        completes = before;
        step = λ row c. (
            let wide : length row ≡ width = c.same_width in
            let colour : colour_before row start.from ≡ start.colour = (before row c).here inside in
            let like : BeginsLike middle row = begins_left middle (replicate second (other start.colour)) row c.front in
            let s1 : IsStretch row start.colour start.from (length line + first) = begins_right line row first start.colour start.from (length line + first) like (omega (arith, start_size)) (omega arith) in
            let s2 : IsStretch row (other start.colour) (length line + first) place = begins_right middle row second (other start.colour) (length line + first) place c.front (omega arith) (omega arith) in
            let change : length line + first < length row → colour_at row (length line + first) ≡ other start.colour = λ lt. elim some2 [
              | inl more ↦ s2.all (length line + first) (omega arith) (omega arith)
              | inr none ↦ absurd (omega arith)
            ] in
            let change2 : place < length row → colour_at row place ≡ start.colour = λ lt. sym (before_next row place) ∙ c.here (omega arith) in
            let one : a1 row start.from ≡ length line + first = a1_at row start.colour start.from (length line + first) (omega arith) colour right (omega arith) s1 change in
            let two : a2 row start.from ≡ place = a2_at row start.colour start.from (length line + first) place (omega arith) colour one (omega arith) (omega arith) s2 change2 in
            let run : first ≡ a1 row start.from - run_start start.from = omega (arith, start_size) in
            let run2 : second ≡ a2 row start.from - a1 row start.from = omega arith in (
              s,
              t,
              refl,
              subst (λ (k : Colour). SpellsRun k s (a1 row start.from - run_start start.from)) (sym colour) (subst (λ n. SpellsRun start.colour s n) run spelt),
              subst (λ (k : Colour). SpellsRun (other k) t (a2 row start.from - a1 row start.from)) (sym colour) (subst (λ n. SpellsRun (other start.colour) t n) run2 spelt2),
              sym two,
            ));
      }

-- the index after that of b1, where a1 lies no further left or b1 is the first change
pub cursor_on : (ps : List ℕ) (width : ℕ) → AreRising 0 ps width → (colour : Colour) (from index place : ℕ) → IsIndexOfB1 ps colour from index → from ≤ place → place + 1 ≤ width
    → (slice_index_or ps index width ≤ place) ⊎ (index ≡ 0) → IsCursor ps (other colour) (place + 1) (index + 1)
cursor_on ps width rising colour from index place at right inside (inl no_left) = elim (cases_lt index (length ps)) [
  | inl more ↦
      let here : slice_index_or ps index width ≡ slice_index ps index = get_or_default ps index width 0 more in
      IsCursor-on ps width colour from index (place + 1) rising at.cursor more (omega arith) (omega arith)
  | inr past ↦
      let here : slice_index_or ps index width ≡ width = get_or_past ps index width past in
      absurd (omega arith)
]
cursor_on ps width rising colour from index place at right inside (inr none) =
    let one : 1 ≡ index + 1 = omega arith in
    subst (λ n. IsCursor ps (other colour) (place + 1) n) one (IsCursor-second ps colour from (place + 1) (subst (λ n. IsCursor ps colour from n) none at.cursor))

-- and where a1 lies one element left of b1, since the changes lie one element apart at least
pub cursor_near : (ps : List ℕ) (width : ℕ) → AreRising 0 ps width → (colour : Colour) (from index place : ℕ) → IsIndexOfB1 ps colour from index → index ≤ length ps
    → slice_index_or ps index width ≤ place + 1 → IsCursor ps (other colour) (place + 1) (index + 1)
cursor_near ps width rising colour from index place at within near = record {
  parity = colour_after-more index ∙ ap other at.cursor.parity;
  passed = λ k lt inside same. elim (cases_lt k index) [
    | inl before ↦
        elim (cases_lt index (length ps)) [
          | inl more ↦
              let here : slice_index_or ps index width ≡ slice_index ps index = get_or_default ps index width 0 more in
              let order : slice_index ps k < slice_index ps index = rising_below ps width k index rising before more in
              omega arith
          | inr past ↦
              let here : slice_index_or ps index width ≡ width = get_or_past ps index width past in
              let order : slice_index ps k < width = rising_before_end ps width k inside rising in
              omega arith
        ]
    | inr from_here ↦
        let here : k ≡ index = omega arith in
        absurd (other_apart colour (sym same ∙ ap colour_after_changes here ∙ at.cursor.parity))
  ];
  few = omega arith;
}

-- ---- steps that are taken whatever stands left of a0

-- a step that gives the colour at a0 up to a place
pub IsTaken-to : (ps : List ℕ) (width : ℕ) (mode : Mode) (start next : Start) (place : ℕ)
    → ((line : Elements) → IsStart ps width line start → IsStart ps width (line ++ replicate (place - length line) start.colour) next)
    → ((line : Elements) → IsStart ps width line start → TakesStep (painted White 0 ps width) width mode [] line start (line ++ replicate (place - length line) start.colour) next)
    → IsTaken ps width mode [] start (record { first = place - run_start start.from; second = 0; next = next })
IsTaken-to ps width mode start next place is_next takes = record {
  next = λ line s. subst (λ (row : Elements). IsStart ps width row next) (same line s) (is_next line s);
  takes = λ line s. subst (λ (row : Elements). TakesStep (painted White 0 ps width) width mode [] line start row next) (same line s) (takes line s);
} where
  same : (line : Elements) → IsStart ps width line start
      → line ++ replicate (place - length line) start.colour ≡ after_step line start (record { first = place - run_start start.from; second = 0; next = next })
  same line s = ap (λ n. line ++ replicate (place - n) start.colour) s.size ∙ sym (append-nil (line ++ replicate (place - run_start start.from) start.colour))

module _ (ps : List ℕ) (width : ℕ) (rising : AreRising 0 ps width) (start : Start) (inside : start.from ≤ width) where
  pub IsTaken-pass : IsIndexOfB1 ps start.colour start.from start.index → (place : ℕ) → place ≡ slice_index_or ps (start.index + 1) width → place ≢ width
      → IsTaken ps width Pass [] start (record { first = place - run_start start.from; second = 0; next = record { from = place + 1; colour = start.colour; index = start.index } })
  IsTaken-pass at place is apart =
      let right : start.from ≤ place = omega (arith, b2_right ps width rising start.colour start.from start.index inside at) in
      let low : place ≤ width = omega (arith, place_le ps width rising (start.index + 1)) in
      IsTaken-to ps width Pass start (record { from = place + 1; colour = start.colour; index = start.index }) place
      (λ line s. IsStart-next ps width rising line start s inside start.colour place start.index right low
      (λ le. IsCursor-right ps start.colour start.from (place + 1) start.index (omega arith) at.cursor))
      (λ line s. TakesStep-pass ps width rising line start s inside at place is apart)

  pub IsTaken-vertical : IsIndexOfB1 ps start.colour start.from start.index → (offset : Offset) (place index : ℕ) → IsAt offset place (slice_index_or ps start.index width) → start.from ≤ place → place ≤ width
      → (place + 1 ≤ width → IsCursor ps (other start.colour) (place + 1) index)
      → IsTaken ps width (Vertical offset) [] start (record { first = place - run_start start.from; second = 0; next = record { from = place + 1; colour = other start.colour; index = index } })
  IsTaken-vertical at offset place index is right low cursor =
      IsTaken-to ps width (Vertical offset) start (record { from = place + 1; colour = other start.colour; index = index }) place
      (λ line s. IsStart-next ps width rising line start s inside (other start.colour) place index right low cursor)
      (λ line s. TakesStep-vertical ps width rising line start s inside at offset place index is right low)

  pub IsTaken-horizontal : (first second : ℕ) (s t : List Bool) → SpellsRun start.colour s first → SpellsRun (other start.colour) t second
      → (0 < first) ⊎ (start.from ≡ 0) → run_start start.from + first ≤ width → (0 < second) ⊎ (run_start start.from + first ≡ width) → run_start start.from + first + second ≤ width
      → IsTaken ps width Horizontal (s ++ t) start
      (record { first = first; second = second; next = record { from = run_start start.from + first + second + 1; colour = start.colour; index = start.index } })
  IsTaken-horizontal first second s t spelt spelt2 some le some2 le2 = record {
    next = λ line is. (
        let middle : Elements = line ++ replicate first start.colour in
        let size : length middle ≡ length line + first = length-painted_more line first start.colour in
        let size2 : length (middle ++ replicate second (other start.colour)) ≡ length middle + second = length-painted_more middle second (other start.colour) in
        let here : length line ≡ run_start start.from = is.size in
        let right : start.from ≤ run_start start.from + first + second + 1 = omega arith in
        record {
          size = omega arith;
          within = omega arith;
          first = λ none. absurd (omega arith);
          cursor = λ more. IsCursor-right ps start.colour start.from (run_start start.from + first + second + 1) start.index right (is.cursor inside);
        });
    takes = λ line is. (
        let here : length line ≡ run_start start.from = is.size in
        let ends : (0 < second) ⊎ (length line + first ≡ width) = elim some2 [ inl more ↦ inl more | inr end ↦ inr (omega arith) ] in
        subst (λ n. TakesStep (painted White 0 ps width) width Horizontal (s ++ t) line start ((line ++ replicate first start.colour) ++ replicate second (other start.colour))
        (record { from = n + first + second + 1; colour = start.colour; index = start.index })) here
        (TakesStep-horizontal ps width rising line start is inside first second s t start.index spelt spelt2 some (omega arith) ends (omega arith)));
  }

-- it is taken from the start whose index is not that of b1 yet
pub IsTaken-at : (ps : List ℕ) (width : ℕ) (mode : Mode) (text : List Bool) (start : Start) (index : ℕ) (taken : TakenStep) → IsCursor ps start.colour start.from index
    → IsTaken ps width mode text (record { from = start.from; colour = start.colour; index = index }) taken → IsTaken ps width mode text start taken
IsTaken-at ps width mode text start index taken cursor t = record {
  next = λ line s. t.next line (at line s);
  takes = λ line s. (
      let step = t.takes line (at line s) in
      record { place = step.place; from_is = step.from_is; right = step.right; completes = step.completes; step = step.step });
} where
  at : (line : Elements) → IsStart ps width line start → IsStart ps width line (record { from = start.from; colour = start.colour; index = index })
  at line s = record { size = s.size; within = s.within; first = s.first; cursor = λ le. cursor }

-- what it gives ends within the width
pub IsTaken-fits : (ps : List ℕ) (width : ℕ) (mode : Mode) (text : List Bool) (line : Elements) (start : Start) (taken : TakenStep) → IsStart ps width line start → IsTaken ps width mode text start taken
    → length line + taken.first + taken.second ≤ width
IsTaken-fits ps width mode text line start taken s t =
    let middle : Elements = line ++ replicate taken.first start.colour in
    let size : length middle ≡ length line + taken.first = length-painted_more line taken.first start.colour in
    let size2 : length (middle ++ replicate taken.second (other start.colour)) ≡ length middle + taken.second = length-painted_more middle taken.second (other start.colour) in
    let next = t.next line s in
    let end : length (after_step line start taken) ≡ run_start taken.next.from = next.size in
    omega (arith, next.within)

-- a run's fault, told of a row and not of its width
pub StopsAtRun-other : (width width' : ℕ) (colour colour' : Colour) (start start' : ℕ) {P Q : Type 0} (bits : List Bool) (fault : LineFault) → width ≡ width' → colour ≡ colour' → start ≡ start' → (Q → P)
    → StopsAtRun width colour start P bits fault → StopsAtRun width' colour' start' Q bits fault
StopsAtRun-other width width' colour colour' start start' {P} {Q} bits fault ew ec es back s =
    subst (λ n. StopsAtRun n colour' start' Q bits fault) ew (subst (λ (k : Colour). StopsAtRun width k start' Q bits fault) ec (subst (λ n. StopsAtRun width colour n Q bits fault) es (weaker fault s))) where
      weaker : (fault : LineFault) → StopsAtRun width colour start P bits fault → StopsAtRun width colour start Q bits fault
      weaker (Run f) t = t
      weaker PastWidth t = t
      weaker BadPlace (rest, reads, none) = (rest, reads, λ q. none (back q))
      weaker NoMode t = t
      weaker NoMemory t = t

-- ---- the steps so far

pub StepsSoFar-none : (reference : Elements) (width : ℕ) (p : Place) → StepsSoFar reference width p p [] (record { from = 0; colour = White; index = 0 })
StepsSoFar-none reference width p = record { modes = []; text = []; passes = Passes-none p; steps = λ row c. (refl, refl) }

pub IsStart-first : (ps : List ℕ) (width : ℕ) → IsStart ps width [] (record { from = 0; colour = White; index = 0 })
IsStart-first ps width = record { size = refl; within = omega arith; first = λ e. refl; cursor = λ le. IsCursor-first ps }

pub Steps-then : (reference row : Elements) (from : ℕ) (modes : List Mode) (text : List Bool) (middle : ℕ) → Steps reference row from modes text middle
    → (more : List Mode) (after : List Bool) (end : ℕ) → Steps reference row middle more after end → Steps reference row from (modes ++ more) (text ++ after) end
Steps-then reference row from [] text middle (none, same) more after end later =
    subst (λ b. Steps reference row from more b end) (ap (λ b. b ++ after) (sym none)) (subst (λ n. Steps reference row n more after end) same later)
Steps-then reference row from (m ∷ ms) text middle (here, f, r, n, e, taken, rest) more after end later = (
  here,
  f,
  r ++ after,
  n,
  ap (λ b. b ++ after) e ∙ append_assoc (mode_word m ++ f) r after,
  taken,
  Steps-then reference row (n + 1) ms r middle rest more after end later,
)

-- one step
pub TakesSteps-one : (reference : Elements) (width : ℕ) (mode : Mode) (text : List Bool) (before : Elements) (start : Start) (after : Elements) (next : Start) → start.from ≤ width
    → TakesStep reference width mode text before start after next → TakesSteps reference width (mode_word mode ++ text) before start after next
TakesSteps-one reference width mode text before start after next inside takes = record {
  modes = mode ∷ [];
  right = omega (arith, takes.right, takes.from_is);
  completes = takes.completes;
  steps = λ row c. (
      let wide : length row ≡ width = c.same_width in (
        omega arith,
        text,
        [],
        takes.place,
        sym (append-nil (mode_word mode ++ text)),
        takes.step row c,
        (refl, takes.from_is),
      ));
}

-- steps after others
pub TakesSteps-then : (reference : Elements) (width : ℕ) (text more : List Bool) (before : Elements) (start : Start) (mid : Elements) (middle : Start) (after : Elements) (next : Start)
    → TakesSteps reference width text before start mid middle → TakesSteps reference width more mid middle after next → TakesSteps reference width (text ++ more) before start after next
TakesSteps-then reference width text more before start mid middle after next first later = record {
  modes = first.modes ++ later.modes;
  right = omega (arith, first.right, later.right);
  completes = λ row c. first.completes row (later.completes row c);
  steps = λ row c. Steps-then reference row start.from first.modes text middle.from (first.steps row (later.completes row c)) later.modes more next.from (later.steps row c);
}

-- the steps are the same, whatever the index
pub TakesSteps-at : (reference : Elements) (width : ℕ) (text : List Bool) (before : Elements) (start : Start) (index : ℕ) (after : Elements) (next : Start)
    → TakesSteps reference width text before (record { from = start.from; colour = start.colour; index = index }) after next → TakesSteps reference width text before start after next
TakesSteps-at reference width text before start index after next t = record { modes = t.modes; right = t.right; completes = t.completes; steps = t.steps }

pub StepsSoFar-then : (reference : Elements) (width : ℕ) (old mid new : Place) (line : Elements) (start : Start) (after : Elements) (next : Start) (text : List Bool)
    → StepsSoFar reference width old mid line start → Passes mid new text → TakesSteps reference width text line start after next → StepsSoFar reference width old new after next
StepsSoFar-then reference width old mid new line start after next text so_far passes takes = record {
  modes = so_far.modes ++ takes.modes;
  text = so_far.text ++ text;
  passes = Passes-then old mid new so_far.text text so_far.passes passes;
  steps = λ row c. Steps-then reference row 0 so_far.modes so_far.text start.from (so_far.steps row (takes.completes row c)) takes.modes text next.from (takes.steps row c);
}

pub StepsSoFar-more : (reference : Elements) (width : ℕ) (old mid new : Place) (line : Elements) (start : Start) (after : Elements) (next : Start) (mode : Mode) (text : List Bool)
    → StepsSoFar reference width old mid line start → start.from ≤ width → Passes mid new (mode_word mode ++ text) → TakesStep reference width mode text line start after next
    → StepsSoFar reference width old new after next
StepsSoFar-more reference width old mid new line start after next mode text so_far inside passes takes =
    StepsSoFar-then reference width old mid new line start after next (mode_word mode ++ text) so_far passes (TakesSteps-one reference width mode text line start after next inside takes)

-- the line, once a0 is the width
pub SpellsLine-from : (reference : Elements) (ps : List ℕ) (width : ℕ) (old new : Place) (line : Elements) (start : Start) → length reference ≡ width → StepsSoFar reference width old new line start → IsStart ps width line start
    → width < start.from → (text : List Bool) × SpellsLine reference text line × Passes old new text
SpellsLine-from reference ps width old new line start wide so_far is_start past =
    let whole : length line ≡ width = omega (arith, is_start.size, is_start.within) in
    let itself : Completes width line start.from start.colour line = record { same_width = whole; front = λ k lt. refl; here = λ le. absurd (omega arith) } in
    let end : start.from ≡ length line + 1 = omega (arith, is_start.within) in
    (so_far.text, record { same_width = whole ∙ sym wide; modes = so_far.modes; steps = subst (λ n. Steps reference line 0 so_far.modes so_far.text n) end (so_far.steps line itself) }, so_far.passes)

-- a row that goes on in the colour at a0
pub Completes-on : (ps : List ℕ) (width : ℕ) (line : Elements) (start : Start) → IsStart ps width line start → start.from ≤ width
    → Completes width line start.from start.colour (line ++ replicate (width - length line) start.colour)
Completes-on ps width line start is_start inside =
    let row : Elements = line ++ replicate (width - length line) start.colour in
    let size : length line ≡ run_start start.from = is_start.size in
    let like : BeginsLike row row = λ k lt. refl in
    let s : IsStretch row start.colour (run_start start.from) width = begins_right line row (width - length line) start.colour (run_start start.from) width like (omega arith) (omega arith) in
    let reach : (run_start start.from < width) ⊎ (start.from ≡ 0) = elim (cases_eq start.from 0) [ inl none ↦ inr none | inr some ↦ inl (omega arith) ] in
    record {
      same_width = length-painted_more line (width - length line) start.colour ∙ omega arith;
      front = begins_left line (replicate (width - length line) start.colour) row like;
      here = λ le. before_stretch row start.colour start.from width is_start.first reach s;
    }

-- a fault after the steps so far, and the place that they end at
pub FailsLine-at : (reference : Elements) (ps : List ℕ) (width : ℕ) (old mid : Place) (line : Elements) (start : Start) (fault : LineFault) → length reference ≡ width → StepsSoFar reference width old mid line start
    → IsStart ps width line start → start.from ≤ width → ((row : Elements) → Completes width line start.from start.colour row → Stops reference row start.from mid.left fault)
    → (fails : FailsLine reference old.left fault) × Passes old mid fails.text
FailsLine-at reference ps width old mid line start fault wide so_far is_start inside stops =
    let row : Elements = line ++ replicate (width - length line) start.colour in
    let c : Completes width line start.from start.colour row = Completes-on ps width line start is_start inside in
    let size : length row ≡ width = c.same_width in (
      record {
        row = row;
        modes = so_far.modes;
        from = start.from;
        text = so_far.text;
        rest = mid.left;
        same_width = size ∙ sym wide;
        steps = so_far.steps row c;
        bits_are = so_far.passes.bits;
        within = omega arith;
        stops = stops row c;
      },
      so_far.passes,
    )

-- a fault after the steps so far
pub FailsLine-from : (reference : Elements) (ps : List ℕ) (width : ℕ) (old mid : Place) (line : Elements) (start : Start) (fault : LineFault) → length reference ≡ width → StepsSoFar reference width old mid line start
    → IsStart ps width line start → start.from ≤ width → ((row : Elements) → Completes width line start.from start.colour row → Stops reference row start.from mid.left fault) → FailsLine reference old.left fault
FailsLine-from reference ps width old mid line start fault wide so_far is_start inside stops = (FailsLine-at reference ps width old mid line start fault wide so_far is_start inside stops).0
