use Rattle.std.proofs.Common.{ℕ, ◌+◌, ◌-◌, ◌≤◌, ◌≡◌, refl, sym, ◌∙◌, arith, subst, inl, inr, ◌⊎◌, length, slice_index_or}
use Rattle.fax_mrcode.specs.Modes.{IsAt}
use Rattle.fax_mrcode.proofs.CursorLemmas.{IsCursor-back, b1_is, place_le}
use Rattle.fax_mrcode.proofs.StepLemmas.{IsTaken-vertical, cursor_on}
use Rattle.fax_mrcode.proofs.reading.vertical.Goals as goal
use Rattle.fax_mrcode.proofs.reading.vertical.Goals.{After-right_of_left3, After-run_start, then-past_a1-start-via-then-past_a1-start, then-past_a1-start-via-else-past_a1-start+then-past_a1-width, else-a1-b1-via-then-a1-b1+else-start-gt0, else-a1-b1-via-else-a1-b1}

b1_le : (c : After-right_of_left3) → c.place_at-b1.result ≤ c.args.width
b1_le c = rw c.place_at-b1.ensures (place_le c.args.changes.now c.args.width c.requires.at.rising c.args.start.index)

pub overflow_add-past_a1 : goal.overflow_add-past_a1
overflow_add-past_a1 c = omega (arith, b1_le (goal.at.overflow_add-past_a1 c).After-right_of_left3, c.right_of_left3.ensures.few)

pub returns-then-past_a1-start-clause-fault : goal.returns-then-past_a1-start-clause-fault
returns-then-past_a1-start-clause-fault c = λ line row bits r. (
  refl,
  λ place is. (
      let at = b1_is c.args.changes.now c.args.width c.requires.at.rising row c.args.start.colour c.args.start.from c.args.start.index r.same_width (r.here c.requires.at.within) c.requires.at.within c.requires.b1 ∙ sym c.place_at-b1.ensures in
      let wide : length row ≡ c.args.width = r.same_width in
      let sum : place + 3 ≡ c.place_at-b1.result + c.right_of_left3.result = (c.right_of_left3.ensures.at place c.place_at-b1.result).0 (subst (λ n. IsAt c.args.offset place n) at is) in
      elim c.then-past_a1-start.branch [
        | then-past_a1-start-via-then-past_a1-start w ↦ inl (omega arith)
        | then-past_a1-start-via-else-past_a1-start+then-past_a1-width w ↦ inr (omega arith)
      ]),
)

-- a1 lies at the offset from b1
is_at : (c : After-run_start) → IsAt c.args.offset (c.place_at-b1.result + c.right_of_left3.result - 3) (slice_index_or c.args.changes.now c.args.start.index c.args.width)
is_at c = subst (λ n. IsAt c.args.offset (c.place_at-b1.result + c.right_of_left3.result - 3) n) c.place_at-b1.ensures
    ((c.right_of_left3.ensures.at (c.place_at-b1.result + c.right_of_left3.result - 3) c.place_at-b1.result).1 (omega arith))

pub returns-then-start-gt0-clause-ok : goal.returns-then-start-gt0-clause-ok
returns-then-start-gt0-clause-ok c =
    rw (c.run_start.ensures, c.other.ensures)
    (IsTaken-vertical c.args.changes.now c.args.width c.requires.at.rising c.args.start c.requires.at.within c.requires.b1 c.args.offset (c.place_at-b1.result + c.right_of_left3.result - 3) (c.args.start.index - 1)
    (is_at (goal.at.returns-then-start-gt0-clause-ok c).After-run_start) (omega arith) (omega arith)
    (λ le. IsCursor-back c.args.changes.now c.args.width c.args.start.colour c.args.start.from c.args.start.index (c.place_at-b1.result + c.right_of_left3.result - 3 + 1) c.requires.at.rising c.requires.b1.cursor c.if-start-gt0.true (omega arith)))

pub returns-else-a1-b1-clause-ok : goal.returns-else-a1-b1-clause-ok
returns-else-a1-b1-clause-ok c =
    let place : ℕ = c.place_at-b1.result + c.right_of_left3.result - 3 in
    let kept : (slice_index_or c.args.changes.now c.args.start.index c.args.width ≤ place) ⊎ (c.args.start.index ≡ 0) = elim c.else-a1-b1.branch [
      | else-a1-b1-via-then-a1-b1+else-start-gt0 w ↦ inr (omega arith)
      | else-a1-b1-via-else-a1-b1 w ↦ inl (omega (arith, c.place_at-b1.ensures))
    ] in
    rw (c.run_start.ensures, c.other.ensures)
    (IsTaken-vertical c.args.changes.now c.args.width c.requires.at.rising c.args.start c.requires.at.within c.requires.b1 c.args.offset (c.place_at-b1.result + c.right_of_left3.result - 3) (c.args.start.index + 1)
    (is_at (goal.at.returns-else-a1-b1-clause-ok c).After-run_start) (omega arith) (omega arith)
    (λ le. cursor_on c.args.changes.now c.args.width c.requires.at.rising c.args.start.colour c.args.start.from c.args.start.index (c.place_at-b1.result + c.right_of_left3.result - 3) c.requires.b1 (omega arith) le kept))
