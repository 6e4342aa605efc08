-- Lines of the whole width, in which the elements right of a0 turn.
use Rattle.std.proofs.Common.{◌≡◌, ◌≢◌, ℕ, zero, suc, ◌+◌, ◌-◌, ◌<◌, ◌≤◌, List, [], ◌∷◌, ◌++◌, length, take, drop, replicate, slice_index, slice_index_or, Bool, true, refl, sym, ◌∙◌, ap, subst, arith, inl, inr, ◌⊎◌, take_at, length-append, length-drop, append_assoc}
use Rattle.std.proofs.lemmas.Bool.{cases_lt, cases_eq}
use Rattle.std.proofs.lemmas.List.{take_all, take_more, get_or-take, get_or_default, get_or_past, drop-drop, drop_at, drop_all, length-replicate, length-take-le, replicate-append-replicate, get_or-drop, get_or-replicate}
use Rattle.std.proofs.Math.Seq.{take-add}
use Rattle.fax_runcodes.specs.declared.Colour.{Colour}
use Rattle.fax_runcodes.specs.declared.Colour.TheVariants.{White}
use Rattle.fax_runcodes.specs.Rows.{Elements, other, colour_at, colour_before}
use Rattle.fax_mrcode.specs.declared.reading.Start.{Start}
use Rattle.fax_mrcode.specs.Places.{run_start}
use Rattle.fax_runcodes.specs.Spelling.{SpellsRun}
use Rattle.fax_runcodes.specs.Painted.{painted, AreRising, colour_after_changes}
use Rattle.fax_mrcode.specs.declared.mode.Mode.TheVariants.{Pass, Horizontal, Vertical}
use Rattle.fax_mrcode.specs.declared.mode.Offset.{Offset}
use Rattle.fax_mrcode.specs.Modes.{IsAt}
use Rattle.fax_mrcode.specs.Starts.{IsBack, IsCursor, IsIndexOfB1, IsStart, IsStartIn, Rests, TakesStep, TakesSteps, left_of_a0}
use Rattle.fax_runcodes.proofs.PaintedLemmas.{colour_then, painted-join, painted-turn, rising_le}
use Rattle.fax_runcodes.proofs.RowPixelsLemmas.{rising_before_end}
use Rattle.fax_runcodes.proofs.TurningLemmas.{rising_after}
use Rattle.fax_mrcode.proofs.CursorLemmas.{IsCursor-back, IsCursor-more, IsCursor-right, rising_below, IsCursor-second, other_twice, colour_after-more, b2_right, place_le}
use Rattle.fax_mrcode.proofs.StepLemmas.{IsStart-next, TakesStep-horizontal, TakesStep-pass, TakesStep-vertical, length-painted_more, TakesSteps-at, cursor_near}
use Rattle.fax_mrcode.proofs.VerticalLemmas.{TakesStep-at, TakesStep-to}
use Rattle.fax_mrcode.proofs.ZerosLemmas.{last_le, steps_rise, steps_taken}

-- the first of elements that have one colour, and the rest of them
take-one_colour : (n k : ℕ) (colour : Colour) → k ≤ n → take k (replicate n colour) ≡ replicate k colour
take-one_colour n k colour le =
    let sum : k + (n - k) ≡ n = omega arith in
    ap (λ (m : ℕ). take k (replicate m colour)) (sym sum) ∙ ap (take k) (sym (replicate-append-replicate k (n - k) colour)) ∙ take_at (replicate k colour) (replicate (n - k) colour) k (length-replicate k colour)

drop-one_colour : (n k : ℕ) (colour : Colour) → k ≤ n → drop k (replicate n colour) ≡ replicate (n - k) colour
drop-one_colour n k colour le =
    let sum : k + (n - k) ≡ n = omega arith in
    ap (λ (m : ℕ). drop k (replicate m colour)) (sym sum) ∙ ap (drop k) (sym (replicate-append-replicate k (n - k) colour)) ∙ drop_at (replicate k colour) (replicate (n - k) colour) k (length-replicate k colour)

-- ---- a line that has one colour from a place on, and a place further right
module _ (width : ℕ) (line : Elements) (from : ℕ) (colour : Colour) (rests : Rests width line from colour) (place : ℕ) (low : from ≤ place) (high : place ≤ width) where
  pub Rests-right : Rests width line place colour
  Rests-right =
      let sum : from + (place - from) ≡ place = omega arith in
      let left : width - from - (place - from) ≡ width - place = omega arith in
      record {
        wide = rests.wide;
        within = high;
        rest = ap (λ (n : ℕ). drop n line) (sym sum) ∙ sym (drop-drop (place - from) from line) ∙ ap (drop (place - from)) rests.rest
            ∙ drop-one_colour (width - from) (place - from) colour (omega arith) ∙ ap (λ (n : ℕ). replicate n colour) left;
      }

  -- the elements left of it
  pub take-right : take place line ≡ take from line ++ replicate (place - from) colour
  take-right =
      let sum : from + (place - from) ≡ place = omega arith in
      ap (λ (n : ℕ). take n line) (sym sum) ∙ take-add from (place - from) line
      ∙ ap (λ (es : Elements). take from line ++ take (place - from) es) rests.rest
      ∙ ap (λ (es : Elements). take from line ++ es) (take-one_colour (width - from) (place - from) colour (omega arith))

  colour_here : (k : ℕ) → from ≤ k → k < width → colour_at line k ≡ colour
  colour_here k right inside =
      let sum : from + (k - from) ≡ k = omega arith in
      ap (colour_at line) (sym sum) ∙ sym (get_or-drop from line (k - from) White) ∙ ap (λ (es : Elements). colour_at es (k - from)) rests.rest
      ∙ get_or-replicate (width - from) (k - from) colour White (omega arith)

  -- the element before it has the colour too, or an imaginary one does
  pub before : (from < place) ⊎ ((place ≡ 0) × (colour ≡ White)) → place < width → colour_before line place ≡ colour
  before (inr (none, white)) inside = ap (colour_before line) none ∙ sym white
  before (inl some) inside = before_of place some (omega arith) where
    before_of : (k : ℕ) → from < k → k ≤ width → colour_before line k ≡ colour
    before_of zero lt le = absurd (omega arith)
    before_of (suc k) lt le = colour_here k (omega arith) (omega arith)

  -- there may be a turn
  pub may_turn : (from < place) ⊎ ((place ≡ 0) × (colour ≡ White)) ⊎ (place ≡ width) → drop place line ≡ replicate (width - place) (colour_before line place)
  may_turn some = elim (cases_lt place width) [
    | inl inside ↦ Rests-right.rest ∙ ap (replicate (width - place)) (sym (before (right_or some inside) inside))
    | inr past ↦ drop_all place line (omega (arith, rests.wide)) ∙ (let none : width - place ≡ 0 = omega arith in rw none refl)
  ] where
    right_or : (from < place) ⊎ ((place ≡ 0) × (colour ≡ White)) ⊎ (place ≡ width) → place < width → (from < place) ⊎ ((place ≡ 0) × (colour ≡ White))
    right_or (inl one) inside = inl one
    right_or (inr (inl two)) inside = inr two
    right_or (inr (inr end)) inside = absurd (omega arith)

  -- and after it the colour is the other one
  pub Rests-turned : (from < place) ⊎ ((place ≡ 0) × (colour ≡ White)) ⊎ (place ≡ width) → (after : Elements) → Rests width after place (other (colour_before line place)) → Rests width after place (other colour)
  Rests-turned some after r = record {
    wide = r.wide;
    within = r.within;
    rest = elim (cases_lt place width) [
      | inl inside ↦ r.rest ∙ ap (λ (c : Colour). replicate (width - place) (other c)) (before (right_or some inside) inside)
      | inr past ↦ drop_all place after (omega (arith, r.wide)) ∙ (let none : width - place ≡ 0 = omega arith in rw none refl)
    ];
  } where
    right_or : (from < place) ⊎ ((place ≡ 0) × (colour ≡ White)) ⊎ (place ≡ width) → place < width → (from < place) ⊎ ((place ≡ 0) × (colour ≡ White))
    right_or (inl one) inside = inl one
    right_or (inr (inl two)) inside = inr two
    right_or (inr (inr end)) inside = absurd (omega arith)

-- at the end of the width nothing is left, of whatever colour
pub Rests-end : (width : ℕ) (line : Elements) (colour other : Colour) → Rests width line width colour → Rests width line width other
Rests-end width line colour other r =
    let none : width - width ≡ 0 = omega arith in
    record { wide = r.wide; within = r.within; rest = drop_all width line (omega (arith, r.wide)) ∙ rw none refl }

-- ---- the next start
-- a start in a line, by the elements left of a0
pub IsStartIn-of : (ps : List ℕ) (width : ℕ) (line : Elements) (next : Start) (place : ℕ) (left : Elements) → next.from ≡ place + 1 → take place line ≡ left → IsStart ps width left next → Rests width line place next.colour
    → IsStartIn ps width line next × (left_of_a0 line next ≡ left)
IsStartIn-of ps width line next place left e taken is_start rests =
    let a0 : run_start next.from ≡ place = omega arith in
    let same : left_of_a0 line next ≡ left = ap (λ (n : ℕ). take n line) a0 ∙ taken in
    (record { is_start = subst (λ (es : Elements). IsStart ps width es next) (sym same) is_start; rests = subst (λ (n : ℕ). Rests width line n next.colour) (sym a0) rests }, same)

-- a start of elements, painted on to the width
pub IsStartIn-painted : (ps : List ℕ) (width : ℕ) (line : Elements) (next : Start) → IsStart ps width line next
    → IsStartIn ps width (line ++ replicate (width - length line) next.colour) next × (left_of_a0 (line ++ replicate (width - length line) next.colour) next ≡ line)
IsStartIn-painted ps width line next is =
    let rest : Elements = replicate (width - length line) next.colour in
    let size : length line ≡ run_start next.from = is.size in
    let left : left_of_a0 (line ++ rest) next ≡ line = take_at line rest (run_start next.from) size in
    let less : width - length line ≡ width - run_start next.from = omega arith in (
      record {
        is_start = subst (λ (es : Elements). IsStart ps width es next) (sym left) is;
        rests = record {
          wide = length-painted_more line (width - length line) next.colour ∙ omega (arith, is.within);
          within = omega (arith, is.within);
          rest = drop_at line rest (run_start next.from) size ∙ ap (λ (n : ℕ). replicate n next.colour) less;
        };
      },
      left,
    )

-- past the width the elements left of a0 are all
pub left_of_end : (ps : List ℕ) (width : ℕ) (line : Elements) (start : Start) → IsStartIn ps width line start → width < start.from → left_of_a0 line start ≡ line
left_of_end ps width line start is past = take_all (run_start start.from) line (omega (arith, is.rests.wide))

-- ---- steps
module _ (ps : List ℕ) (width : ℕ) (rising : AreRising 0 ps width) (line : Elements) (start : Start) (is : IsStartIn ps width line start) (inside : start.from ≤ width) where
  -- a place right of a0, where the elements may turn
  pub right_of_a0 : (place : ℕ) → start.from ≤ place → (run_start start.from < place) ⊎ ((place ≡ 0) × (start.colour ≡ White)) ⊎ (place ≡ width)
  right_of_a0 place right = elim (cases_eq place 0) [
    | inl none ↦ inr (inl (none, is.is_start.first (omega arith)))
    | inr some ↦ inl (omega arith)
  ]

  pub may_turn_at : (place : ℕ) → start.from ≤ place → place ≤ width → drop place line ≡ replicate (width - place) (colour_before line place)
  may_turn_at place right high = may_turn width line (run_start start.from) start.colour is.rests place (omega arith) high (right_of_a0 place right)

  -- the elements left of a place right of a0
  left_of : (place : ℕ) → start.from ≤ place → place ≤ width → take place line ≡ left_of_a0 line start ++ replicate (place - length (left_of_a0 line start)) start.colour
  left_of place right high =
      let size : length (left_of_a0 line start) ≡ run_start start.from = is.is_start.size in
      rw size (take-right width line (run_start start.from) start.colour is.rests place (omega arith) high)

  -- the start, with the index of b1
  at_b1 : (index : ℕ) → IsIndexOfB1 ps start.colour start.from index → IsStart ps width (left_of_a0 line start) (record { from = start.from; colour = start.colour; index = index })
  at_b1 index at = record { size = is.is_start.size; within = is.is_start.within; first = is.is_start.first; cursor = λ le. at.cursor }

  -- vertical mode: the elements turn at a1
  pub vertical_taken : (b1 : ℕ) → IsIndexOfB1 ps start.colour start.from b1 → (offset : Offset) (place index : ℕ) → IsAt offset place (slice_index_or ps b1 width) → start.from ≤ place → place ≤ width
      → (place + 1 ≤ width → IsCursor ps (other start.colour) (place + 1) index) → (after : Elements) → take place after ≡ take place line → Rests width after place (other (colour_before line place))
      → let next : Start = record { from = place + 1; colour = other start.colour; index = index } in
      IsStartIn ps width after next × TakesStep (painted White 0 ps width) width (Vertical offset) [] (left_of_a0 line start) start (left_of_a0 after next) next
  vertical_taken b1 at offset place index is_at right high cursor after left turned =
      let next : Start = record { from = place + 1; colour = other start.colour; index = index } in
      let rests : Rests width after place (other start.colour) = Rests-turned width line (run_start start.from) start.colour is.rests place (omega arith) high (right_of_a0 place right) after turned in
      let is_next = IsStart-next ps width rising (left_of_a0 line start) (record { from = start.from; colour = start.colour; index = b1 }) (at_b1 b1 at) inside (other start.colour) place index right high cursor in
      let in_line = IsStartIn-of ps width after next place (left_of_a0 line start ++ replicate (place - length (left_of_a0 line start)) start.colour) refl (left ∙ left_of place right high) is_next rests in
      let taken = TakesStep-at (painted White 0 ps width) width (Vertical offset) [] (left_of_a0 line start) start b1 (left_of_a0 line start ++ replicate (place - length (left_of_a0 line start)) start.colour) next
      (TakesStep-vertical ps width rising (left_of_a0 line start) (record { from = start.from; colour = start.colour; index = b1 }) (at_b1 b1 at) inside at offset place index is_at right high) in
      (in_line.0, subst (λ (es : Elements). TakesStep (painted White 0 ps width) width (Vertical offset) [] (left_of_a0 line start) start es next) (sym in_line.1) taken)

  -- pass mode: nothing turns
  pub pass_taken : (b1 : ℕ) → IsIndexOfB1 ps start.colour start.from b1 → (place : ℕ) → place ≡ slice_index_or ps (b1 + 1) width → place ≢ width
      → let next : Start = record { from = place + 1; colour = start.colour; index = b1 + 2 } in
      IsStartIn ps width line next × TakesStep (painted White 0 ps width) width Pass [] (left_of_a0 line start) start (left_of_a0 line next) next
  pass_taken b1 at place place_is apart =
      let next : Start = record { from = place + 1; colour = start.colour; index = b1 + 2 } in
      let right : start.from ≤ place = omega (arith, b2_right ps width rising start.colour start.from b1 inside at) in
      let high : place ≤ width = omega (arith, place_le ps width rising (b1 + 1)) in
      let rests : Rests width line place start.colour = Rests-right width line (run_start start.from) start.colour is.rests place (omega arith) high in
      let more : b1 + 1 < length ps = elim (cases_lt (b1 + 1) (length ps)) [ inl lt ↦ lt | inr past ↦ absurd (apart (place_is ∙ get_or_past ps (b1 + 1) width past)) ] in
      let b2_is : slice_index_or ps (b1 + 1) width ≡ slice_index ps (b1 + 1) = get_or_default ps (b1 + 1) width 0 more in
      let order : slice_index ps b1 < slice_index ps (b1 + 1) = rising_below ps width b1 (b1 + 1) rising (omega arith) more in
      let is_next = IsStart-next ps width rising (left_of_a0 line start) (record { from = start.from; colour = start.colour; index = b1 }) (at_b1 b1 at) inside start.colour place (b1 + 2) right high
      (λ le. IsCursor-more ps start.colour (place + 1) b1 (IsCursor-right ps start.colour start.from (place + 1) b1 (omega arith) at.cursor) (omega arith) (omega arith)) in
      let in_line = IsStartIn-of ps width line next place (left_of_a0 line start ++ replicate (place - length (left_of_a0 line start)) start.colour) refl (left_of place right high) is_next rests in
      let taken = TakesStep-at (painted White 0 ps width) width Pass [] (left_of_a0 line start) start b1 (left_of_a0 line start ++ replicate (place - length (left_of_a0 line start)) start.colour) next
      (TakesStep-to (painted White 0 ps width) width Pass [] (left_of_a0 line start) (record { from = start.from; colour = start.colour; index = b1 }) _ next b1
      (TakesStep-pass ps width rising (left_of_a0 line start) (record { from = start.from; colour = start.colour; index = b1 }) (at_b1 b1 at) inside at place place_is apart)) in
      (in_line.0, subst (λ (es : Elements). TakesStep (painted White 0 ps width) width Pass [] (left_of_a0 line start) start es next) (sym in_line.1) taken)

  -- horizontal mode: the elements turn at a1 and at a2
  module _ (first second : ℕ) (some : (0 < first) ⊎ (start.from ≡ 0)) (some2 : (0 < second) ⊎ (run_start start.from + first ≡ width)) (high : run_start start.from + first + second ≤ width) where
    abbrev pub one : ℕ
    one = run_start start.from + first

    abbrev pub two : ℕ
    two = one + second

    one_right : (run_start start.from < one) ⊎ ((one ≡ 0) × (start.colour ≡ White)) ⊎ (one ≡ width)
    one_right = elim (cases_eq first 0) [
      | inl none ↦ elim some [ inl more ↦ absurd (omega arith) | inr at_first ↦ inr (inl (omega arith, is.is_start.first at_first)) ]
      | inr more ↦ inl (omega arith)
    ]

    pub one_may_turn : drop one line ≡ replicate (width - one) (colour_before line one)
    one_may_turn = may_turn width line (run_start start.from) start.colour is.rests one (omega arith) (omega arith) one_right

    module _ (mid : Elements) (left : take one mid ≡ take one line) (turned : Rests width mid one (other (colour_before line one))) where
      mid_rests : Rests width mid one (other start.colour)
      mid_rests = Rests-turned width line (run_start start.from) start.colour is.rests one (omega arith) (omega arith) one_right mid turned

      two_right : (one < two) ⊎ ((two ≡ 0) × (other start.colour ≡ White)) ⊎ (two ≡ width)
      two_right = elim some2 [ inl more ↦ inl (omega arith) | inr whole ↦ inr (inr (omega arith)) ]

      pub two_may_turn : drop two mid ≡ replicate (width - two) (colour_before mid two)
      two_may_turn = may_turn width mid one (other start.colour) mid_rests two (omega arith) high two_right

      module _ (after : Elements) (left2 : take two after ≡ take two mid) (turned2 : Rests width after two (other (colour_before mid two))) where
        after_rests : Rests width after two start.colour
        after_rests = subst (λ (c : Colour). Rests width after two c) (other_twice start.colour) (Rests-turned width mid one (other start.colour) mid_rests two (omega arith) high two_right after turned2)

        abbrev pub front : Elements
        front = left_of_a0 line start

        abbrev pub both : Elements
        both = (front ++ replicate first start.colour) ++ replicate second (other start.colour)

        both_are : take two after ≡ both
        both_are =
            let run : one - run_start start.from ≡ first = omega arith in
            let run2 : two - one ≡ second = omega arith in
            left2 ∙ take-right width mid one (other start.colour) mid_rests two (omega arith) high
            ∙ ap (λ (es : Elements). es ++ replicate (two - one) (other start.colour)) (left ∙ take-right width line (run_start start.from) start.colour is.rests one (omega arith) (omega arith))
            ∙ ap (λ (n : ℕ). (front ++ replicate n start.colour) ++ replicate (two - one) (other start.colour)) run
            ∙ ap (λ (n : ℕ). (front ++ replicate first start.colour) ++ replicate n (other start.colour)) run2

        abbrev pub after_both : Start
        after_both = record { from = two + 1; colour = start.colour; index = start.index }

        both_start : IsStart ps width both after_both
        both_start = record {
          size = length-painted_more (front ++ replicate first start.colour) second (other start.colour) ∙ ap (λ (n : ℕ). n + second) (length-painted_more front first start.colour ∙ ap (λ (n : ℕ). n + first) is.is_start.size) ∙ omega arith;
          within = omega arith;
          first = λ none. absurd (omega arith);
          cursor = λ le. IsCursor-right ps start.colour start.from (two + 1) start.index (omega arith) (is.is_start.cursor inside);
        }

        in_line : IsStartIn ps width after after_both × (left_of_a0 after after_both ≡ both)
        in_line = IsStartIn-of ps width after after_both two both refl both_are both_start after_rests

        pub horizontal_next : IsStartIn ps width after after_both
        horizontal_next = in_line.0

        pub horizontal_taken : (s t : List Bool) → SpellsRun start.colour s first → SpellsRun (other start.colour) t second
            → TakesStep (painted White 0 ps width) width Horizontal (s ++ t) (left_of_a0 line start) start (left_of_a0 after after_both) after_both
        horizontal_taken s t spelt spelt2 =
            let size : length front ≡ run_start start.from = is.is_start.size in
            let whole : length front + first + second + 1 ≡ two + 1 = omega arith in
            let taken = TakesStep-horizontal ps width rising front start is.is_start inside first second s t start.index spelt spelt2 some (omega arith) (elim some2 [ inl more ↦ inl more | inr end ↦ inr (omega arith) ]) (omega arith) in
            subst (λ (es : Elements). TakesStep (painted White 0 ps width) width Horizontal (s ++ t) front start es after_both) (sym in_line.1)
            (subst (λ (n : ℕ). TakesStep (painted White 0 ps width) width Horizontal (s ++ t) front start both (record { from = n; colour = start.colour; index = start.index })) whole taken)

-- ---- the next index

module _ (b1 back index : ℕ) (is : (index + back ≡ b1 + 1) ⊎ ((b1 + 1 < back) × (index ≡ 1))) where
  one_of : back ≡ 2 → b1 ≡ 0 → index ≡ 1
  one_of two none = elim is [ inl sum ↦ absurd (omega arith) | inr few ↦ few.1 ]

  more_of : back ≡ 0 → index ≡ b1 + 1
  more_of none = elim is [ inl sum ↦ omega arith | inr few ↦ absurd (omega (arith, few.0)) ]

  less_of : back ≡ 2 → b1 ≢ 0 → index ≡ b1 - 1
  less_of two some = elim is [ inl sum ↦ omega arith | inr few ↦ absurd (omega (arith, few.0)) ]

-- the one after that of b1, or two further back where a1 lies two elements or more left of b1 and there are so many
pub next_index : (ps : List ℕ) (width : ℕ) → AreRising 0 ps width → (colour : Colour) (from b1 : ℕ) → IsIndexOfB1 ps colour from b1 → (offset : Offset) (back : ℕ) → IsBack offset back
    → b1 ≤ length ps → (place : ℕ) → IsAt offset place (slice_index_or ps b1 width) → from ≤ place → (index : ℕ) → (index + back ≡ b1 + 1) ⊎ ((b1 + 1 < back) × (index ≡ 1))
    → (colour_after_changes index ≡ other colour) × (place + 1 ≤ width → IsCursor ps (other colour) (place + 1) index)
next_index ps width rising colour from b1 at offset back is_back within place is_at right index is = elim (cases_eq b1 0) [
  | inl none ↦ elim (is_back) [
    | inl two ↦
        let one : index ≡ 1 = one_of b1 back index is two none in
        rw one ((IsCursor-second ps colour from (place + 1) (subst (λ (n : ℕ). IsCursor ps colour from n) none at.cursor)).parity, λ le. IsCursor-second ps colour from (place + 1) (subst (λ (n : ℕ). IsCursor ps colour from n) none at.cursor))
    | inr on ↦
        let more : index ≡ b1 + 1 = more_of b1 back index is on.0 in
        rw more (colour_after-more b1 ∙ ap other at.cursor.parity, λ le. cursor_near ps width rising colour from b1 place at within (on.1 place (slice_index_or ps b1 width) is_at))
  ]
  | inr some ↦ elim is_back [
    | inl two ↦
        let less : index ≡ b1 - 1 = less_of b1 back index is two some in
        rw less ((IsCursor-back ps width colour from b1 (place + 1) rising at.cursor (omega arith) (omega arith)).parity, λ le. IsCursor-back ps width colour from b1 (place + 1) rising at.cursor (omega arith) (omega arith))
    | inr on ↦
        let more : index ≡ b1 + 1 = more_of b1 back index is on.0 in
        rw more (colour_after-more b1 ∙ ap other at.cursor.parity, λ le. cursor_near ps width rising colour from b1 place at within (on.1 place (slice_index_or ps b1 width) is_at))
  ]
]

-- ---- several steps in vertical mode with a1 at b1

rising_fewer : (from n : ℕ) (qs : List ℕ) (end : ℕ) → AreRising from qs end → AreRising from (take n qs) end
unfolding AreRising
rising_fewer from zero qs end r = rising_le from qs end r
rising_fewer from (suc n) [] end r = r
rising_fewer from (suc n) (q ∷ qs) end r = (r.0, rising_fewer (q + 1) n qs end r.1)

-- the colour after changes, by how many there are
after_after : (i : ℕ) (qs : List ℕ) → colour_then (colour_after_changes i) qs ≡ colour_after_changes (i + length qs)
after_after i [] = let none : i ≡ i + 0 = omega arith in ap colour_after_changes none
after_after i (q ∷ qs) =
    let sum : i + 1 + length qs ≡ i + length (q ∷ qs) = omega arith in
    ap (λ (c : Colour). colour_then c qs) (sym (colour_after-more i)) ∙ after_after (i + 1) qs ∙ ap colour_after_changes sum

module _ (ps : List ℕ) (width : ℕ) (rising : AreRising 0 ps width) (line : Elements) (start : Start) (is : IsStartIn ps width line start) (inside : start.from ≤ width)
    (b1 : ℕ) (at : IsIndexOfB1 ps start.colour start.from b1) (steps : ℕ) (some : 0 < steps) (there : b1 + steps ≤ length ps) (right : 0 < start.from) where
  -- the changing places of the reference that the line turns at
  abbrev pub places : List ℕ
  places = take (b1 + steps - b1) (drop b1 ps)

  pub places_rise : AreRising 0 places (length line)
  places_rise = subst (λ (n : ℕ). AreRising 0 places n) (sym is.rests.wide) (rising_fewer 0 (b1 + steps - b1) (drop b1 ps) width (rising_after 0 ps width b1 rising))

  first_is : slice_index_or places 0 (length line) ≡ slice_index ps b1
  first_is =
      let place : b1 + 0 ≡ b1 = omega arith in
      get_or-take (b1 + steps - b1) (drop b1 ps) 0 (length line) (omega arith) ∙ get_or-drop b1 ps 0 (length line) ∙ ap (λ (k : ℕ). slice_index_or ps k (length line)) place
      ∙ get_or_default ps b1 (length line) 0 (omega arith)

  first_right : start.from ≤ slice_index ps b1
  first_right = at.right (omega arith)

  first_inside : slice_index ps b1 < width
  first_inside = rising_before_end ps width b1 (omega arith) rising

  first_may_turn : drop (slice_index ps b1) line ≡ replicate (length line - slice_index ps b1) (colour_before line (slice_index ps b1))
  first_may_turn =
      may_turn_at ps width rising line start is inside (slice_index ps b1) first_right (omega (arith, first_inside))
      ∙ ap (λ (n : ℕ). replicate (n - slice_index ps b1) (colour_before line (slice_index ps b1))) (sym is.rests.wide)

  pub places_may_turn : let first : ℕ = slice_index_or places 0 (length line) in
      drop first line ≡ replicate (length line - first) (colour_before line first)
  places_may_turn = rw first_is first_may_turn

  abbrev pub last : ℕ
  last = slice_index ps (b1 + steps - 1)

  -- all but the last of them
  abbrev pub others : List ℕ
  others = take (b1 + steps - 1 - b1) (drop b1 ps)

  places_are : places ≡ others ++ last ∷ []
  places_are =
      let count : b1 + steps - b1 ≡ b1 + steps - 1 - b1 + 1 = omega arith in
      let place : b1 + (b1 + steps - 1 - b1) ≡ b1 + steps - 1 = omega arith in
      ap (λ (n : ℕ). take n (drop b1 ps)) count
      ∙ take_more (drop b1 ps) (b1 + steps - 1 - b1) 0 (omega (arith, length-drop b1 ps))
      ∙ ap (λ (p : ℕ). others ++ p ∷ []) (get_or-drop b1 ps (b1 + steps - 1 - b1) 0 ∙ ap (λ (k : ℕ). slice_index ps k) place)

  others_rise : AreRising (slice_index ps b1) others last
  others_rise = steps_rise ps width rising steps b1 (slice_index ps b1) some (omega arith) there

  -- the elements left of the last place
  abbrev pub left : Elements
  left = left_of_a0 line start ++ painted start.colour (length (left_of_a0 line start)) others last

  left_is : take (slice_index ps b1) line ++ painted start.colour (slice_index ps b1) others last ≡ left
  unfolding painted AreRising
  left_is =
      let front : Elements = left_of_a0 line start in
      let size : length front ≡ run_start start.from = is.is_start.size in
      let low : length front ≤ slice_index ps b1 = omega (arith, first_right) in
      let join : painted start.colour (length front) ([] ++ others) last ≡ replicate (slice_index ps b1 - length front) start.colour ++ painted start.colour (slice_index ps b1) others last =
      painted-join start.colour (length front) [] (slice_index ps b1) others last low others_rise in
      ap (λ (es : Elements). es ++ painted start.colour (slice_index ps b1) others last) (left_of ps width rising line start is inside (slice_index ps b1) first_right (omega (arith, first_inside)))
      ∙ append_assoc front (replicate (slice_index ps b1 - length front) start.colour) (painted start.colour (slice_index ps b1) others last)
      ∙ ap (λ (es : Elements). front ++ es) (sym join)

  abbrev pub next : Start
  next = record { from = last + 1; colour = colour_after_changes (b1 + steps); index = b1 + steps }

  colour_is : other (colour_then start.colour others) ≡ next.colour
  colour_is =
      let count : length others ≡ steps - 1 = length-take-le (b1 + steps - 1 - b1) (drop b1 ps) (omega (arith, length-drop b1 ps)) ∙ omega arith in
      let sum : b1 + length others + 1 ≡ b1 + steps = omega arith in
      ap (λ (c : Colour). other (colour_then c others)) (sym at.cursor.parity) ∙ ap other (after_after b1 others) ∙ sym (colour_after-more (b1 + length others)) ∙ ap colour_after_changes sum

  turned_is : (after : Elements) → (let first : ℕ = slice_index_or places 0 (length line) in after ≡ take first line ++ painted (colour_before line first) first places (length line))
      → after ≡ left ++ replicate (width - last) next.colour
  unfolding painted
  turned_is after e =
      let p : ℕ = slice_index ps b1 in
      let colour : colour_before line p ≡ start.colour = before width line (run_start start.from) start.colour is.rests p (omega (arith, first_right)) (omega (arith, first_inside)) (inl (omega (arith, first_right, right))) first_inside in
      let by_first : after ≡ take p line ++ painted (colour_before line p) p places (length line) = rw first_is at e in
      let turn : painted start.colour p (others ++ last ∷ []) width ≡ painted start.colour p others last ++ replicate (width - last) (other (colour_then start.colour others)) =
      painted-turn start.colour p others last [] width in
      by_first
      ∙ ap (λ (c : Colour). take p line ++ painted c p places (length line)) colour
      ∙ ap (λ (n : ℕ). take p line ++ painted start.colour p places n) is.rests.wide
      ∙ ap (λ (qs : List ℕ). take p line ++ painted start.colour p qs width) places_are
      ∙ ap (λ (es : Elements). take p line ++ es) turn
      ∙ sym (append_assoc (take p line) (painted start.colour p others last) (replicate (width - last) (other (colour_then start.colour others))))
      ∙ ap (λ (es : Elements). es ++ replicate (width - last) (other (colour_then start.colour others))) left_is
      ∙ ap (λ (c : Colour). left ++ replicate (width - last) c) colour_is

  pub zeros_in_line : (after : Elements) → (let first : ℕ = slice_index_or places 0 (length line) in after ≡ take first line ++ painted (colour_before line first) first places (length line))
      → IsStartIn ps width after next × TakesSteps (painted White 0 ps width) width (replicate steps true) (left_of_a0 line start) start (left_of_a0 after next) next
  zeros_in_line after e =
      let steps_are = steps_taken ps width rising steps (left_of_a0 line start) (record { from = start.from; colour = start.colour; index = b1 }) some (at_b1 ps width rising line start is inside b1 at) inside at there in
      let size : length left ≡ last = steps_are.1.size ∙ omega arith in
      let high : last ≤ width = last_le ps width rising (b1 + steps - 1) (omega arith) in
      let turned = turned_is after e in
      let rests : Rests width after last next.colour = record {
        wide = ap length turned ∙ length-append left (replicate (width - last) next.colour) ∙ ap (λ (n : ℕ). length left + n) (length-replicate (width - last) next.colour) ∙ omega arith;
        within = high;
        rest = ap (drop last) turned ∙ drop_at left (replicate (width - last) next.colour) last size;
      } in
      let in_line = IsStartIn-of ps width after next last left refl (ap (take last) turned ∙ take_at left (replicate (width - last) next.colour) last size) steps_are.1 rests in
      let taken = TakesSteps-at (painted White 0 ps width) width (replicate steps true) (left_of_a0 line start) start b1 left next steps_are.0 in
      (in_line.0, subst (λ (es : Elements). TakesSteps (painted White 0 ps width) width (replicate steps true) (left_of_a0 line start) start es next) (sym in_line.1) taken)
