use Rattle.std.proofs.Common.{◌≡◌, ◌+◌, ◌-◌, ◌≤◌, ◌++◌, [], sym, ◌∙◌, subst, arith, slice_index_or, append-nil}
use Rattle.fax_runcodes.specs.Rows.{other}
use Rattle.fax_runcodes.specs.Painted.{painted, colour_after_changes}
use Rattle.fax_runcodes.specs.declared.Colour.TheVariants.{White}
use Rattle.fax_mrcode.specs.declared.mode.Mode.TheVariants.{Vertical}
use Rattle.fax_mrcode.specs.Modes.{IsAt, mode_word}
use Rattle.fax_mrcode.specs.Starts.{IsCursor, start_of, left_of_a0}
use Rattle.fax_mrcode.proofs.CursorLemmas.{place_le}
use Rattle.fax_mrcode.proofs.NearLemmas.{may_turn_at, vertical_taken, next_index}
use Rattle.fax_mrcode.proofs.StepLemmas.{TakesSteps-one}
use Rattle.fax_mrcode.proofs.VerticalLemmas.{FirstAre-word}
use Rattle.fax_mrcode.proofs.reading.near.near_vertical.Goals as goal
use Rattle.fax_mrcode.proofs.reading.near.near_vertical.Goals.{After-past}

pub overflow_add-past_a1 : goal.overflow_add-past_a1
overflow_add-past_a1 c =
    omega (arith, place_le c.args.changes.now c.args.width c.requires.at.rising c.next_change-b1.result.index, c.next_change-b1.ensures.place, c.right_of_left3.ensures.few, c.requires.at.few)

pub turn_below-requires-clause-same : goal.turn_below-requires-clause-same
turn_below-requires-clause-same c =
    may_turn_at c.args.changes.now c.args.width c.requires.at.rising c.args.line.now (start_of c.args.near) c.requires.start c.requires.at.within
    (c.next_change-b1.result.place + c.right_of_left3.result - 3) (omega arith) (omega arith)

-- a1 lies at the offset from b1
is_at : (c : After-past) → IsAt c.args.word.offset (c.next_change-b1.result.place + c.right_of_left3.result - 3) (slice_index_or c.args.changes.now c.next_change-b1.result.index c.args.width)
is_at c = subst (λ n. IsAt c.args.word.offset (c.next_change-b1.result.place + c.right_of_left3.result - 3) n) c.next_change-b1.ensures.place
    ((c.right_of_left3.ensures.at (c.next_change-b1.result.place + c.right_of_left3.result - 3) c.next_change-b1.result.place).1 (omega arith))

next : (c : After-past) → (colour_after_changes c.index_after.result ≡ other (colour_after_changes c.args.near.index))
    × (c.next_change-b1.result.place + c.right_of_left3.result - 3 + 1 ≤ c.args.width
    → IsCursor c.args.changes.now (other (colour_after_changes c.args.near.index)) (c.next_change-b1.result.place + c.right_of_left3.result - 3 + 1) c.index_after.result)
next c =
    next_index c.args.changes.now c.args.width c.requires.at.rising (colour_after_changes c.args.near.index) c.args.near.from c.next_change-b1.result.index c.next_change-b1.ensures.b1 c.args.word.offset c.args.word.back c.requires.back (omega (arith, c.if-b1-changes.false))
    (c.next_change-b1.result.place + c.right_of_left3.result - 3) (is_at c) (omega arith) c.index_after.result
    c.index_after.ensures

pub returns-clause-next : goal.returns-clause-next
returns-clause-next c =
    let at = (goal.at.returns-clause-next c).After-past in
    rw (next at).0
    (vertical_taken c.args.changes.now c.args.width c.requires.at.rising c.args.line.now (start_of c.args.near) c.requires.start c.requires.at.within c.next_change-b1.result.index c.next_change-b1.ensures.b1 c.args.word.offset
    (c.next_change-b1.result.place + c.right_of_left3.result - 3) c.index_after.result (is_at at) (omega arith) (omega arith) (next at).1 c.turn_below.new.line c.turn_below.ensures.left c.turn_below.ensures.right).0

pub returns-clause-taken : goal.returns-clause-taken
returns-clause-taken c =
    let at = (goal.at.returns-clause-taken c).After-past in
    let n = c.from-bits.result in
    let word = mode_word (Vertical c.args.word.offset) in
    let begins = c.requires.begins in
    let size = c.requires.size ∙ sym c.from-bits.ensures in
    record {
      text = word ++ [];
      first = rw (c.past.ensures.left, append-nil) (FirstAre-word c.args.near.ahead.window c.args.near.ahead.left n word begins.0 size (omega (arith, c.if-bits-near.false)) begins.1);
      after = c.past.ensures.after;
      takes = rw (next at).0 (TakesSteps-one (painted White 0 c.args.changes.now c.args.width) c.args.width (Vertical c.args.word.offset) []
          (left_of_a0 c.args.line.now (start_of c.args.near)) (start_of c.args.near) _ _ c.requires.at.within
          (vertical_taken c.args.changes.now c.args.width c.requires.at.rising c.args.line.now (start_of c.args.near) c.requires.start c.requires.at.within c.next_change-b1.result.index c.next_change-b1.ensures.b1 c.args.word.offset
          (c.next_change-b1.result.place + c.right_of_left3.result - 3) c.index_after.result (is_at at) (omega arith) (omega arith) (next at).1 c.turn_below.new.line c.turn_below.ensures.left c.turn_below.ensures.right).1);
    }
