-- A two-dimensional line that is being written: steps so far.
use Rattle.std.proofs.Common.{◌≡◌, ℕ, ◌+◌, ◌-◌, ◌*◌, ◌<◌, ◌≤◌, Bool, List, [], ◌∷◌, ◌++◌, length, max, get_or, refl, sym, ◌∙◌, ap, subst, arith, inl, inr, ◌⊎◌, append_assoc, append-nil}
use Rattle.std.proofs.lemmas.Bool.{cases_eq, cases_lt}
use Rattle.std.proofs.lemmas.List.{get_or_past}
use Rattle.fax_runcodes.specs.declared.Colour.{Colour}
use Rattle.fax_runcodes.specs.declared.Colour.TheVariants.{White, Black}
use Rattle.fax_runcodes.specs.Rows.{Elements, other, colour_before}
use Rattle.fax_runcodes.specs.Painted.{painted, AreRising, colour_after_changes}
use Rattle.fax_runcodes.specs.Spelling.{written_run}
use Rattle.fax_mrcode.specs.declared.mode.Mode.{Mode}
use Rattle.fax_mrcode.specs.declared.mode.Mode.TheVariants.{Pass, Horizontal, Vertical}
use Rattle.fax_mrcode.specs.declared.mode.Offset.{Offset}
use Rattle.fax_mrcode.specs.Modes.{mode_word, IsAt}
use Rattle.fax_mrcode.specs.Places.{a1, a2, b1, b2}
use Rattle.fax_mrcode.specs.Written.{WritesStep, WritesSteps, WritesLine}
use Rattle.fax_mrcode.proofs.ChangingPlaces.{IsRowIndex, IsReferenceIndex, other-other, colour_after-next, place_within, place_order, place_apart, colour_before-index, a1-index, a2-index, b1-index, b2-index}

-- ---- the text so far

-- from before to after a text was written which any steps from `from` complete to those of the line
pub record IsWrittenTo (reference row : Elements) (before after : List Bool) (from : ℕ) : Type 0 where
  pub text : List Bool
  pub after_is : after ≡ before ++ text
  pub completes : (more : List Mode) (tail : List Bool) → WritesSteps reference row from more tail
      → (modes : List Mode) × WritesSteps reference row 0 modes (text ++ tail)

IsWrittenTo-none : (reference row : Elements) (before : List Bool) → IsWrittenTo reference row before before 0
IsWrittenTo-none reference row before = record {
  text = [];
  after_is = sym (append-nil before);
  completes = λ more tail steps. (more, steps);
}

IsWrittenTo-more : (reference row : Elements) (before mid after : List Bool) (from : ℕ) (mode : Mode) (step : List Bool) (next : ℕ) → from ≤ length row
    → IsWrittenTo reference row before mid from → WritesStep reference row from mode step next → after ≡ mid ++ (mode_word mode ++ step) → IsWrittenTo reference row before after (next + 1)
IsWrittenTo-more reference row before mid after from mode step next inside w s e = record {
  text = w.text ++ (mode_word mode ++ step);
  after_is = e ∙ ap (λ (b : List Bool). b ++ (mode_word mode ++ step)) w.after_is ∙ append_assoc before w.text (mode_word mode ++ step);
  completes = λ more tail steps.
      let whole : (modes : List Mode) × WritesSteps reference row 0 modes (w.text ++ (mode_word mode ++ step ++ tail)) =
      w.completes (mode ∷ more) (mode_word mode ++ step ++ tail) (inside, step, tail, next, refl, s, steps) in
      (whole.0, subst (λ (b : List Bool). WritesSteps reference row 0 whole.0 b) (sym (append_assoc w.text (mode_word mode ++ step) tail)) whole.1);
}

WritesLine-from : (reference row : Elements) (before after : List Bool) (from : ℕ) → length row ≡ length reference → from ≡ length row + 1
    → IsWrittenTo reference row before after from → (text : List Bool) × WritesLine reference row text × (after ≡ before ++ text)
WritesLine-from reference row before after from widths end w =
    let whole : (modes : List Mode) × WritesSteps reference row 0 modes (w.text ++ []) = w.completes [] [] (refl, end) in (
      w.text,
      record { same_width = widths; modes = whole.0; steps = subst (λ (b : List Bool). WritesSteps reference row 0 whole.0 b) (append-nil w.text) whole.1 },
      w.after_is,
    )

-- ---- the index of the reference line

other-back : (a b : Colour) → other a ≡ b → a ≡ other b
other-back White Black e = refl
other-back Black White e = refl
other-back White White e = cc
other-back Black Black e = cc

other-apart : (a : Colour) → a ≡ other a → {A : Type 0} → A
other-apart White e = cc
other-apart Black e = cc

-- to the first place that doesn't lie left of `from`
IsReferenceIndex-ahead : (ps : List ℕ) (end from : ℕ) (colour : Colour) (index ahead : ℕ) → IsReferenceIndex ps end from colour index
    → colour_after_changes ahead ≡ colour_after_changes index
    → ((k : ℕ) → index ≤ k → k < ahead → colour_after_changes k ≡ colour_after_changes index → get_or ps k end < from) → IsReferenceIndex ps end from colour ahead
IsReferenceIndex-ahead ps end from colour index ahead at turns passed = record {
  turns = turns ∙ at.turns;
  below = λ k less same. elim (cases_lt k index) [ inl before ↦ at.below k before same | inr later ↦ passed k later less (same ∙ sym at.turns) ];
}

-- a place left of one that is not past the end stands in the list
pub place_inside : (ps : List ℕ) (index end from : ℕ) → get_or ps index end < from → from ≤ end → index < length ps
place_inside ps index end from left le = elim (cases_lt index (length ps)) [
  | inl there ↦ there
  | inr past ↦ absurd (omega (arith, get_or_past ps index end past))
]

-- further right, at the same colour
IsReferenceIndex-further : (ps : List ℕ) (end from further : ℕ) (colour : Colour) (index : ℕ) → from ≤ further → IsReferenceIndex ps end from colour index → IsReferenceIndex ps end further colour index
IsReferenceIndex-further ps end from further colour index le at = record { turns = at.turns; below = λ k less same. omega (arith, at.below k less same) }

-- on to the next place, at the other colour
IsReferenceIndex-on : (ps : List ℕ) (end from further : ℕ) (colour : Colour) (index : ℕ) → AreRising 0 ps end → (index ≡ 0) ⊎ (get_or ps (index - 1) end < further)
    → IsReferenceIndex ps end from colour index → IsReferenceIndex ps end further (other colour) (index + 1)
IsReferenceIndex-on ps end from further colour index rising passed at = record {
  turns = colour_after-next index ∙ ap other at.turns;
  below = λ k less same. elim (cases_eq k index) [
    | inl here ↦ other-apart colour (sym at.turns ∙ ap colour_after_changes (sym here) ∙ same)
    | inr apart ↦ elim passed [
      | inl none ↦ absurd (omega arith)
      | inr left ↦ omega (arith, place_order ps end rising k (index - 1) (omega arith))
    ]
  ];
}

-- on to the second place from here, at the same colour
IsReferenceIndex-second : (ps : List ℕ) (end from further : ℕ) (colour : Colour) (index : ℕ) → AreRising 0 ps end → get_or ps (index + 1) end < further
    → IsReferenceIndex ps end from colour index → IsReferenceIndex ps end further colour (index + 2)
IsReferenceIndex-second ps end from further colour index rising passed at =
    let twice : index + 1 + 1 ≡ index + 2 = omega arith in
    record {
      turns = ap colour_after_changes (sym twice) ∙ colour_after-next (index + 1) ∙ ap other (colour_after-next index) ∙ other-other (colour_after_changes index) ∙ at.turns;
      below = λ k less same. omega (arith, place_order ps end rising k (index + 1) (omega arith));
    }

-- back to the place before, at the other colour
IsReferenceIndex-back : (ps : List ℕ) (end from further : ℕ) (colour : Colour) (index : ℕ) → AreRising 0 ps end → 0 < index → from ≤ further
    → IsReferenceIndex ps end from colour index → IsReferenceIndex ps end further (other colour) (index - 1)
IsReferenceIndex-back ps end from further colour index rising some le at =
    let next : index - 1 + 1 ≡ index = omega arith in
    record {
      turns = other-back (colour_after_changes (index - 1)) colour (sym (colour_after-next (index - 1)) ∙ ap colour_after_changes next ∙ at.turns);
      below = λ k less same.
          let away : colour_after_changes (k + 1) ≡ colour = colour_after-next k ∙ ap other same ∙ other-other colour in
          omega (arith, at.below (k + 1) (omega arith) away, place_order ps end rising k (k + 1) (omega arith));
    }

-- where the line goes on after a vertical mode: back to the place before b1, or, where there is none
-- or it doesn't lie right of a1, on to the place after b1
abbrev pub IsIndexAfter : (ps : List ℕ) (end a index next : ℕ) → Type 0
IsIndexAfter ps end a index next = (next ≡ index - 1) × (0 < index) × (a < get_or ps (index - 1) end) ⊎ (next ≡ index + 1) × ((index ≡ 0) ⊎ (get_or ps (index - 1) end ≤ a))

pub IsReferenceIndex-other : (ps : List ℕ) (end from a : ℕ) (colour : Colour) (index next : ℕ) → AreRising 0 ps end → from ≤ a
    → IsIndexAfter ps end a index next → IsReferenceIndex ps end from colour index → IsReferenceIndex ps end (a + 1) (other colour) next
IsReferenceIndex-other ps end from a colour index next rising le (inl (e, some, left)) at = rw e (IsReferenceIndex-back ps end from (a + 1) colour index rising some (omega arith) at)
IsReferenceIndex-other ps end from a colour index next rising le (inr (e, inl none)) at = rw e (IsReferenceIndex-on ps end from (a + 1) colour index rising (inl none) at)
IsReferenceIndex-other ps end from a colour index next rising le (inr (e, inr right)) at = rw e (IsReferenceIndex-on ps end from (a + 1) colour index rising (inr (omega arith)) at)

-- ---- both lines, and the steps so far

-- a line and its reference line by their changing places
pub record AreLines (reference row : Elements) (changes above : List ℕ) : Type 0 where
  pub same_width : length row ≡ length reference
  pub few : length row ≤ 2432
  pub rising : AreRising 0 changes (length row)
  pub row_is : row ≡ painted White 0 changes (length row)
  pub rising_above : AreRising 0 above (length row)
  pub reference_is : reference ≡ painted White 0 above (length row)

pub AreLines-from : {reference row : Elements} {changes above : List ℕ} → length row ≡ length reference → length row ≤ 2432
    → AreRising 0 changes (length row) → row ≡ painted White 0 changes (length row)
    → AreRising 0 above (length reference) → reference ≡ painted White 0 above (length reference) → AreLines reference row changes above
AreLines-from {reference} {row} {changes} {above} widths few rising row_is rising_above reference_is = record {
  same_width = widths;
  few = few;
  rising = rising;
  row_is = row_is;
  rising_above = subst (λ n. AreRising 0 above n) (sym widths) rising_above;
  reference_is = subst (λ n. reference ≡ painted White 0 above n) (sym widths) reference_is;
}

-- From before to after the steps up to an a0 were written, at which the colour is this. The index is
-- that of a1 among the row's changing places, and `over` is not past that of b1 among the reference
-- line's.
pub record StepsSoFar (reference row : Elements) (changes above : List ℕ) (before after : List Bool) (from : ℕ) (colour : Colour) (index over : ℕ) : Type 0 where
  pub lines : AreLines reference row changes above
  pub inside : from ≤ length row + 1
  pub turns : colour_after_changes index ≡ colour
  pub at_row : IsRowIndex changes (length row) from index
  pub at_reference : IsReferenceIndex above (length row) from colour over
  pub few : index ≤ 2 * from
  pub few_above : over ≤ length above + 1 + from
  pub written : IsWrittenTo reference row before after from

pub StepsSoFar-none : {reference row : Elements} {changes above : List ℕ} {before : List Bool} → AreLines reference row changes above → StepsSoFar reference row changes above before before 0 White 0 0
StepsSoFar-none {reference} {row} {changes} {above} {before} lines = record {
  lines = lines;
  inside = omega arith;
  turns = refl;
  at_row = record { below = λ k less. absurd (omega arith); above = λ le. omega arith };
  at_reference = record { turns = refl; below = λ k less same. absurd (omega arith) };
  few = omega arith;
  few_above = omega arith;
  written = IsWrittenTo-none reference row before;
}

-- the colour is that after so many changes
pub StepsSoFar-turned : {reference row : Elements} {changes above : List ℕ} {before after : List Bool} {from : ℕ} {colour : Colour} {index over : ℕ}
    → StepsSoFar reference row changes above before after from colour index over → StepsSoFar reference row changes above before after from (colour_after_changes index) index over
StepsSoFar-turned {reference} {row} {changes} {above} {before} {after} {from} {colour} {index} {over} so =
    subst (λ c. StepsSoFar reference row changes above before after from c index over) (sym so.turns) so

pub StepsSoFar-done : {reference row : Elements} {changes above : List ℕ} {before after : List Bool} {from : ℕ} {colour : Colour} {index over : ℕ}
    → StepsSoFar reference row changes above before after from colour index over → length row < from → (text : List Bool) × WritesLine reference row text × (after ≡ before ++ text)
StepsSoFar-done {reference} {row} {changes} {above} {before} {after} {from} {colour} {index} {over} so past = WritesLine-from reference row before after from so.lines.same_width (omega (arith, so.inside)) so.written

-- ---- the places of the next step

-- Once `over` is the index of b1: these are a1, b1 and b2.
pub record IsAhead (reference row : Elements) (changes above : List ℕ) (before after : List Bool) (from : ℕ) (colour : Colour) (index over a b b' : ℕ) : Type 0 where
  pub so_far : StepsSoFar reference row changes above before after from colour index over
  pub inside : from ≤ length row
  pub colour_is : colour_before row from ≡ colour
  pub a_is : a ≡ get_or changes index (length row)
  pub b_is : b ≡ get_or above over (length row)
  pub b'_is : b' ≡ get_or above (over + 1) (length row)
  pub a1_is : a1 row from ≡ a
  pub b1_is : b1 reference row from ≡ b
  pub b2_is : b2 reference row from ≡ b'
  pub a1_low : from ≤ a
  pub a1_high : a ≤ length row
  pub b1_low : from ≤ b
  pub b2_low : b ≤ b'
  pub b2_high : b' ≤ length row

pub IsAhead-at : (reference row : Elements) (changes above : List ℕ) (before after : List Bool) (from : ℕ) (colour : Colour) (index over a b b' : ℕ)
    → StepsSoFar reference row changes above before after from colour index over → from ≤ length row → from ≤ get_or above over (length row)
    → a ≡ get_or changes index (length row) → b ≡ get_or above over (length row) → b' ≡ get_or above (over + 1) (length row)
    → IsAhead reference row changes above before after from colour index over a b b'
IsAhead-at reference row changes above before after from colour index over a b b' so inside found ea eb eb' =
    let lines = so.lines in
    let here : colour_before row from ≡ colour = colour_before-index row changes lines.rising lines.row_is from index inside so.at_row ∙ so.turns in
    let first : b1 reference row from ≡ get_or above over (length row) = b1-index reference row above lines.rising_above lines.reference_is from over colour here so.at_reference found in
    record {
      so_far = so;
      inside = inside;
      colour_is = here;
      a_is = ea;
      b_is = eb;
      b'_is = eb';
      a1_is = a1-index row changes lines.rising lines.row_is from index inside so.at_row ∙ sym ea;
      b1_is = first ∙ sym eb;
      b2_is = b2-index reference row above lines.rising_above lines.reference_is from over first ∙ sym eb';
      a1_low = omega (arith, so.at_row.above inside);
      a1_high = omega (arith, place_within changes (length row) lines.rising index);
      b1_low = omega arith;
      b2_low = omega (arith, place_order above (length row) lines.rising_above over (over + 1) (omega arith));
      b2_high = omega (arith, place_within above (length row) lines.rising_above (over + 1));
    }

-- what the walk along the reference line finds
pub IsAhead-from : {reference row : Elements} {changes above : List ℕ} {before after : List Bool} {from : ℕ} {colour : Colour} {index over ahead width a b b' : ℕ}
    → StepsSoFar reference row changes above before after from colour index over → width ≡ length row → from ≤ width
    → ahead ≤ max over (length above + 1) → colour_after_changes ahead ≡ colour_after_changes over
    → ((k : ℕ) → over ≤ k → k < ahead → colour_after_changes k ≡ colour_after_changes over → get_or above k width < from) → from ≤ b
    → a ≡ get_or changes index width → b ≡ get_or above ahead width → b' ≡ get_or above (ahead + 1) width
    → IsAhead reference row changes above before after from colour index ahead a b b'
IsAhead-from {reference} {row} {changes} {above} {before} {after} {from} {colour} {index} {over} {ahead} {width} {a} {b} {b'} so ew inside near turns passed found ea eb eb' =
    let next : StepsSoFar reference row changes above before after from colour index ahead = record {
      lines = so.lines;
      inside = so.inside;
      turns = so.turns;
      at_row = so.at_row;
      at_reference = IsReferenceIndex-ahead above (length row) from colour over ahead so.at_reference turns (λ k le less same. subst (λ n. get_or above k n < from) ew (passed k le less same));
      few = so.few;
      few_above = omega (arith, so.few_above);
      written = so.written;
    } in
    let first : b ≡ get_or above ahead (length row) = eb ∙ ap (get_or above ahead) ew in
    IsAhead-at reference row changes above before after from colour index ahead a b b' next (omega arith) (omega (arith, found, first))
    (ea ∙ ap (get_or changes index) ew) (eb ∙ ap (get_or above ahead) ew) (eb' ∙ ap (get_or above (ahead + 1)) ew)

-- this is a2, and this a1
pub record IsSecond (row : Elements) (changes : List ℕ) (from index a a' : ℕ) : Type 0 where
  pub a'_is : a' ≡ get_or changes (index + 1) (length row)
  pub a2_is : a2 row from ≡ a'
  pub low : a ≤ a'
  pub high : a' ≤ length row

pub IsSecond-from : {reference row : Elements} {changes above : List ℕ} {before after : List Bool} {from : ℕ} {colour : Colour} {index over width a b b' a' : ℕ}
    → IsAhead reference row changes above before after from colour index over a b b' → width ≡ length row → a' ≡ get_or changes (index + 1) width → IsSecond row changes from index a a'
IsSecond-from {reference} {row} {changes} {above} {before} {after} {from} {colour} {index} {over} {width} {a} {b} {b'} {a'} ahead ew ea' =
    let lines = ahead.so_far.lines in
    let second : a' ≡ get_or changes (index + 1) (length row) = ea' ∙ ap (get_or changes (index + 1)) ew in
    record {
      a'_is = second;
      a2_is = a2-index row changes lines.rising lines.row_is from index ahead.inside ahead.so_far.at_row ∙ sym second;
      low = omega (arith, ahead.a_is, place_order changes (length row) lines.rising index (index + 1) (omega arith));
      high = omega (arith, place_within changes (length row) lines.rising (index + 1));
    }

-- ---- one more step

module _ {reference row : Elements} {changes above : List ℕ} {before mid after : List Bool} {from : ℕ} {colour : Colour} {index over a b b' : ℕ}
    (at : IsAhead reference row changes above before mid from colour index over a b b') where
  pub StepsSoFar-pass : b' < a → after ≡ mid ++ mode_word Pass → StepsSoFar reference row changes above before after (b' + 1) colour index (over + 2)
  StepsSoFar-pass left e =
      let so = at.so_far in
      let lines = so.lines in
      record {
        lines = lines;
        inside = omega (arith, at.b2_high);
        turns = so.turns;
        at_row = record { below = λ k less. omega (arith, so.at_row.below k less, at.b1_low, at.b2_low); above = λ le. omega (arith, at.a_is) };
        at_reference = IsReferenceIndex-second above (length row) from (b' + 1) colour over lines.rising_above (omega (arith, at.b'_is)) so.at_reference;
        few = omega (arith, so.few, at.b1_low, at.b2_low);
        few_above = omega (arith, so.few_above, at.b1_low, at.a1_high, at.b_is, at.b'_is, place_apart above (length row) lines.rising_above over (over + 1) (omega (arith, at.b_is, at.b2_low, at.a1_high)) (omega arith));
        written = IsWrittenTo-more reference row before mid after from Pass [] b' at.inside so.written (omega (arith, at.a1_is, at.b2_is), refl, sym at.b2_is)
            (e ∙ ap (λ (t : List Bool). mid ++ t) (sym (append-nil (mode_word Pass))));
      }

  pub StepsSoFar-vertical : {next : ℕ} (offset : Offset) → a ≤ b' → IsAt offset a b → IsIndexAfter above (length row) a over next
      → after ≡ mid ++ mode_word (Vertical offset) → StepsSoFar reference row changes above before after (a + 1) (other colour) (index + 1) next
  StepsSoFar-vertical {next} offset right is_at moved e =
      let so = at.so_far in
      let lines = so.lines in
      let close : next ≤ over + 1 = elim moved [ inl back ↦ omega (arith, back.0) | inr on ↦ omega (arith, on.0) ] in
      record {
        lines = lines;
        inside = omega (arith, at.a1_high);
        turns = colour_after-next index ∙ ap other so.turns;
        at_row = record {
          below = λ k less. omega (arith, at.a_is, place_order changes (length row) lines.rising k index (omega arith));
          above = λ le. omega (arith, at.a_is, place_apart changes (length row) lines.rising index (index + 1) (omega (arith, at.a_is)) (omega arith));
        };
        at_reference = IsReferenceIndex-other above (length row) from a colour over next lines.rising_above at.a1_low moved so.at_reference;
        few = omega (arith, so.few, at.a1_low);
        few_above = omega (arith, so.few_above, at.a1_low);
        written = IsWrittenTo-more reference row before mid after from (Vertical offset) [] a at.inside so.written
            (omega (arith, at.a1_is, at.b2_is), rw (at.a1_is, at.b1_is) is_at, refl, sym at.a1_is)
            (e ∙ ap (λ (t : List Bool). mid ++ t) (sym (append-nil (mode_word (Vertical offset)))));
      }

  pub StepsSoFar-horizontal : {a' : ℕ} → IsSecond row changes from index a a' → a ≤ b' → ((offset : Offset) → IsAt offset a b → ⊥)
      → after ≡ mid ++ (mode_word Horizontal ++ (written_run colour (a - (from - 1)) ++ written_run (other colour) (a' - a)))
      → StepsSoFar reference row changes above before after (a' + 1) colour (index + 2) over
  StepsSoFar-horizontal {a'} second right none e =
      let so = at.so_far in
      let lines = so.lines in
      let one : List Bool = written_run colour (a - (from - 1)) in
      let two : List Bool = written_run (other colour) (a' - a) in
      let twice : index + 1 + 1 ≡ index + 2 = omega arith in
      record {
        lines = lines;
        inside = omega (arith, second.high);
        turns = ap colour_after_changes (sym twice) ∙ colour_after-next (index + 1) ∙ ap other (colour_after-next index) ∙ other-other (colour_after_changes index) ∙ so.turns;
        at_row = record {
          below = λ k less. omega (arith, second.a'_is, place_order changes (length row) lines.rising k (index + 1) (omega arith));
          above = λ le. omega (arith, second.a'_is, place_apart changes (length row) lines.rising (index + 1) (index + 2) (omega (arith, second.a'_is)) (omega arith));
        };
        at_reference = IsReferenceIndex-further above (length row) from (a' + 1) colour over (omega (arith, at.a1_low, second.low)) so.at_reference;
        few = omega (arith, so.few, at.a1_low, second.low);
        few_above = omega (arith, so.few_above, at.a1_low, second.low);
        written = IsWrittenTo-more reference row before mid after from Horizontal (one ++ two) a' at.inside so.written (
          omega (arith, at.a1_is, at.b2_is),
          λ offset is_at. none offset (rw (at.a1_is, at.b1_is) at is_at),
          rw (at.colour_is, at.a1_is, second.a2_is) refl,
          sym second.a2_is,
        ) e;
      }
