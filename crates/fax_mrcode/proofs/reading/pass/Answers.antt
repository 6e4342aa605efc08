use Rattle.std.proofs.Common.{◌+◌, ◌≤◌, refl, sym, ◌∙◌, arith}
use Rattle.fax_mrcode.proofs.CursorLemmas.{b2_is, b2_right, place_le}
use Rattle.fax_mrcode.proofs.StepLemmas.{IsTaken-pass}
use Rattle.fax_mrcode.proofs.reading.pass.Goals as goal
use Rattle.fax_mrcode.proofs.reading.pass.Goals.{After-place_at-b2}

right : (c : After-place_at-b2) → c.args.start.from ≤ c.place_at-b2.result
right c = rw c.place_at-b2.ensures (b2_right c.args.changes.now c.args.width c.requires.at.rising c.args.start.colour c.args.start.from c.args.start.index c.requires.at.within c.requires.b1)

within : (c : After-place_at-b2) → c.place_at-b2.result ≤ c.args.width
within c = rw c.place_at-b2.ensures (place_le c.args.changes.now c.args.width c.requires.at.rising (c.args.start.index + 1))

pub returns-then-b2-width-clause-fault : goal.returns-then-b2-width-clause-fault
returns-then-b2-width-clause-fault c = λ line row bits r. (
  refl,
  b2_is c.args.changes.now c.args.width c.requires.at.rising row c.args.start.colour c.args.start.from c.args.start.index r.same_width (r.here c.requires.at.within) c.requires.at.within c.requires.b1
      ∙ sym c.place_at-b2.ensures ∙ c.if-b2-width.true ∙ sym r.same_width,
)

pub overflow_sub-result : goal.overflow_sub-result
overflow_sub-result c = omega (arith, right (goal.at.overflow_sub-result c).After-place_at-b2, c.run_start.ensures)

pub overflow_add-result : goal.overflow_add-result
overflow_add-result c = omega (arith, within (goal.at.overflow_add-result c).After-place_at-b2)

pub returns-clause-ok : goal.returns-clause-ok
returns-clause-ok c =
    rw c.run_start.ensures
    (IsTaken-pass c.args.changes.now c.args.width c.requires.at.rising c.args.start c.requires.at.within c.requires.b1 c.place_at-b2.result c.place_at-b2.ensures c.if-b2-width.false)
