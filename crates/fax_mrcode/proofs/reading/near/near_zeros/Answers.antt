use Rattle.std.proofs.Common.{◌≡◌, ◌+◌, ◌-◌, ◌≤◌, ◌++◌, true, [], replicate, refl, inl, ◌∙◌, ap, arith}
use Rattle.std.proofs.lemmas.List.{length-replicate}
use Rattle.fax_bits.specs.Bits.{word_bits}
use Rattle.fax_runcodes.specs.Rows.{other}
use Rattle.fax_runcodes.specs.Painted.{painted, colour_after_changes}
use Rattle.fax_runcodes.specs.declared.Colour.TheVariants.{White}
use Rattle.fax_mrcode.specs.declared.mode.Mode.TheVariants.{Vertical}
use Rattle.fax_mrcode.specs.declared.mode.Offset.TheVariants.{Zero}
use Rattle.fax_mrcode.specs.Modes.{mode_word}
use Rattle.fax_mrcode.specs.Starts.{start_of, left_of_a0}
use Rattle.fax_mrcode.proofs.CursorLemmas.{b1_right, place_le, colour_after-more}
use Rattle.fax_mrcode.proofs.NearLemmas.{may_turn_at, vertical_taken, places_rise, places_may_turn, zeros_in_line}
use Rattle.fax_mrcode.proofs.StepLemmas.{TakesSteps-one, cursor_on}
use Rattle.fax_mrcode.proofs.VerticalLemmas.{FirstAre-word, zero_begins}
use Rattle.fax_mrcode.proofs.ZerosLemmas.{fewer_ones, last_le}
use Rattle.fax_mrcode.proofs.reading.near.near_zeros.Goals as goal
use Rattle.fax_mrcode.proofs.reading.near.near_zeros.Goals.{After-next_change-b1, After-past-2}

pub turn_at_all-requires-clause-rising : goal.turn_at_all-requires-clause-rising
turn_at_all-requires-clause-rising c =
    places_rise c.args.changes.now c.args.width c.requires.at.rising c.args.line.now (start_of c.args.near) c.requires.start c.requires.at.within c.next_change-b1.result.index c.next_change-b1.ensures.b1
    c.min-steps.result c.if-steps-gt0.true (omega (arith, c.min-steps.ensures, c.saturating_sub.ensures)) c.if-near-gt0.true

pub turn_at_all-requires-clause-same : goal.turn_at_all-requires-clause-same
turn_at_all-requires-clause-same c =
    places_may_turn c.args.changes.now c.args.width c.requires.at.rising c.args.line.now (start_of c.args.near) c.requires.start c.requires.at.within c.next_change-b1.result.index c.next_change-b1.ensures.b1
    c.min-steps.result c.if-steps-gt0.true (omega (arith, c.min-steps.ensures, c.saturating_sub.ensures)) c.if-near-gt0.true

pub overflow_add-result : goal.overflow_add-result
overflow_add-result c =
    let le = last_le c.args.changes.now c.args.width c.requires.at.rising (c.next_change-b1.result.index + c.min-steps.result - 1) (omega (arith, c.if-steps-gt0.true, c.min-steps.ensures, c.saturating_sub.ensures)) in
    omega (arith, le, c.requires.at.few)

pub returns-then-steps-gt0-clause-next : goal.returns-then-steps-gt0-clause-next
returns-then-steps-gt0-clause-next c =
    (zeros_in_line c.args.changes.now c.args.width c.requires.at.rising c.args.line.now (start_of c.args.near) c.requires.start c.requires.at.within c.next_change-b1.result.index c.next_change-b1.ensures.b1
    c.min-steps.result c.if-steps-gt0.true (omega (arith, c.min-steps.ensures, c.saturating_sub.ensures)) c.if-near-gt0.true c.turn_at_all.new.self c.turn_at_all.ensures).0

pub returns-then-steps-gt0-clause-taken : goal.returns-then-steps-gt0-clause-taken
returns-then-steps-gt0-clause-taken c =
    let steps = c.min-steps.result in
    let begun = fewer_ones c.ones.result steps (word_bits 64 c.args.near.ahead.window) (omega (arith, c.min-steps.ensures)) c.ones.ensures.ones in
    record {
      text = replicate steps true;
      first = rw c.past.ensures.left (FirstAre-word c.args.near.ahead.window c.args.near.ahead.left steps (replicate steps true) begun.0 (length-replicate steps true) (omega (arith, c.min-steps.ensures, c.ones.ensures.few)) begun.1);
      after = c.past.ensures.after;
      takes = (zeros_in_line c.args.changes.now c.args.width c.requires.at.rising c.args.line.now (start_of c.args.near) c.requires.start c.requires.at.within c.next_change-b1.result.index c.next_change-b1.ensures.b1
          steps c.if-steps-gt0.true (omega (arith, c.min-steps.ensures, c.saturating_sub.ensures)) c.if-near-gt0.true c.turn_at_all.new.self c.turn_at_all.ensures).1;
    }

-- ---- one step
high : (c : After-next_change-b1) → c.next_change-b1.result.place ≤ c.args.width
high c = rw c.next_change-b1.ensures.place (place_le c.args.changes.now c.args.width c.requires.at.rising c.next_change-b1.result.index)

right : (c : After-next_change-b1) → c.args.near.from ≤ c.next_change-b1.result.place
right c = rw c.next_change-b1.ensures.place (b1_right c.args.changes.now c.args.width c.requires.at.rising (colour_after_changes c.args.near.index) c.args.near.from c.next_change-b1.result.index c.requires.at.within c.next_change-b1.ensures.b1)

turned : (c : After-next_change-b1) → colour_after_changes (c.next_change-b1.result.index + 1) ≡ other (colour_after_changes c.args.near.index)
turned c = colour_after-more c.next_change-b1.result.index ∙ ap other c.next_change-b1.ensures.b1.cursor.parity

pub turn_below-requires-clause-within : goal.turn_below-requires-clause-within
turn_below-requires-clause-within c = high (goal.at.turn_below-requires-clause-within c).After-next_change-b1

pub turn_below-requires-clause-same : goal.turn_below-requires-clause-same
turn_below-requires-clause-same c =
    let at = (goal.at.turn_below-requires-clause-same c).After-next_change-b1 in
    may_turn_at c.args.changes.now c.args.width c.requires.at.rising c.args.line.now (start_of c.args.near) c.requires.start c.requires.at.within c.next_change-b1.result.place (right at) (high at)

pub returns-clause-next : goal.returns-clause-next
returns-clause-next c =
    let at = (goal.at.returns-clause-next c).After-next_change-b1 in
    rw (turned at)
    (vertical_taken c.args.changes.now c.args.width c.requires.at.rising c.args.line.now (start_of c.args.near) c.requires.start c.requires.at.within c.next_change-b1.result.index c.next_change-b1.ensures.b1 Zero
    c.next_change-b1.result.place (c.next_change-b1.result.index + 1) c.next_change-b1.ensures.place (right at) (high at)
    (λ le. cursor_on c.args.changes.now c.args.width c.requires.at.rising (colour_after_changes c.args.near.index) c.args.near.from c.next_change-b1.result.index c.next_change-b1.result.place c.next_change-b1.ensures.b1 (right at) le (inl (omega (arith, c.next_change-b1.ensures.place))))
    c.turn_below.new.line c.turn_below.ensures.left c.turn_below.ensures.right).0

pub returns-clause-taken : goal.returns-clause-taken
returns-clause-taken c =
    let at = (goal.at.returns-clause-taken c).After-next_change-b1 in
    record {
      text = mode_word (Vertical Zero) ++ [];
      first = rw c.past-2.ensures.left (FirstAre-word c.args.near.ahead.window c.args.near.ahead.left 1 (mode_word (Vertical Zero)) (word_bits 63 c.args.near.ahead.window) refl c.requires.some (zero_begins c.args.near.ahead.window c.requires.zero));
      after = c.past-2.ensures.after;
      takes = rw (turned at) (TakesSteps-one (painted White 0 c.args.changes.now c.args.width) c.args.width (Vertical Zero) [] (left_of_a0 c.args.line.now (start_of c.args.near)) (start_of c.args.near) _ _ c.requires.at.within
          (vertical_taken c.args.changes.now c.args.width c.requires.at.rising c.args.line.now (start_of c.args.near) c.requires.start c.requires.at.within c.next_change-b1.result.index c.next_change-b1.ensures.b1 Zero
          c.next_change-b1.result.place (c.next_change-b1.result.index + 1) c.next_change-b1.ensures.place (right at) (high at)
          (λ le. cursor_on c.args.changes.now c.args.width c.requires.at.rising (colour_after_changes c.args.near.index) c.args.near.from c.next_change-b1.result.index c.next_change-b1.result.place c.next_change-b1.ensures.b1 (right at) le (inl (omega (arith, c.next_change-b1.ensures.place))))
          c.turn_below.new.line c.turn_below.ensures.left c.turn_below.ensures.right).1);
    }
