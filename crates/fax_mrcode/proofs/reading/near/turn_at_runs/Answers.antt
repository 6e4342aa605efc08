use Rattle.std.proofs.Common.{◌≡◌, ◌+◌, ◌<◌, ◌⊎◌, ◌-◌, inl, inr, arith}
use Rattle.fax_mrcode.specs.Starts.{start_of}
use Rattle.fax_mrcode.proofs.NearLemmas.{one_may_turn, two_may_turn, horizontal_next, horizontal_taken}
use Rattle.fax_mrcode.proofs.reading.near.turn_at_runs.Goals as goal
use Rattle.fax_mrcode.proofs.reading.near.turn_at_runs.Goals.{After-turn_below-arg-1, else-runs-eq0-via-then-runs-eq0+else-near-gt0, else-runs-eq0-via-else-runs-eq0, else-runs-eq0-2-via-then-runs-eq0-2+else-a1-width, else-runs-eq0-2-via-else-runs-eq0-2}

first_some : (c : After-turn_below-arg-1) → (0 < c.args.runs.first) ⊎ (c.args.near.from ≡ 0)
first_some c = elim c.else-runs-eq0.branch [
  | else-runs-eq0-via-then-runs-eq0+else-near-gt0 w ↦ inr (omega arith)
  | else-runs-eq0-via-else-runs-eq0 w ↦ inl (omega arith)
]

second_some : (c : After-turn_below-arg-1) → (0 < c.args.runs.second) ⊎ (c.args.near.from - 1 + c.args.runs.first ≡ c.args.width)
second_some c = elim c.else-runs-eq0-2.branch [
  | else-runs-eq0-2-via-then-runs-eq0-2+else-a1-width w ↦ inr (omega (arith, c.saturating_sub.ensures))
  | else-runs-eq0-2-via-else-runs-eq0-2 w ↦ inl (omega arith)
]

pub turn_below-requires-clause-same : goal.turn_below-requires-clause-same
turn_below-requires-clause-same c =
    let at = (goal.at.turn_below-requires-clause-same c).After-turn_below-arg-1 in
    rw c.saturating_sub.ensures
    (one_may_turn c.args.changes.now c.args.width c.requires.at.rising c.args.line.now (start_of c.args.near) c.requires.start c.requires.at.within c.args.runs.first c.args.runs.second
    (first_some at) (second_some at) (omega (arith, c.saturating_sub.ensures)))

pub turn_below-requires-2-clause-same : goal.turn_below-requires-2-clause-same
turn_below-requires-2-clause-same c =
    let at = (goal.at.turn_below-requires-2-clause-same c).After-turn_below-arg-1 in
    rw c.saturating_sub.ensures
    (two_may_turn c.args.changes.now c.args.width c.requires.at.rising c.args.line.now (start_of c.args.near) c.requires.start c.requires.at.within c.args.runs.first c.args.runs.second
    (first_some at) (second_some at) (omega (arith, c.saturating_sub.ensures))
    c.turn_below.new.line (rw c.saturating_sub.ensures at c.turn_below.ensures.left) (rw c.saturating_sub.ensures at c.turn_below.ensures.right))

pub returns-clause-next : goal.returns-clause-next
returns-clause-next c =
    let at = (goal.at.returns-clause-next c).After-turn_below-arg-1 in
    rw c.saturating_sub.ensures
    (horizontal_next c.args.changes.now c.args.width c.requires.at.rising c.args.line.now (start_of c.args.near) c.requires.start c.requires.at.within c.args.runs.first c.args.runs.second
    (first_some at) (second_some at) (omega (arith, c.saturating_sub.ensures))
    c.turn_below.new.line (rw c.saturating_sub.ensures at c.turn_below.ensures.left) (rw c.saturating_sub.ensures at c.turn_below.ensures.right)
    c.turn_below-2.new.line (rw c.saturating_sub.ensures at c.turn_below-2.ensures.left) (rw c.saturating_sub.ensures at c.turn_below-2.ensures.right))

pub returns-clause-taken : goal.returns-clause-taken
returns-clause-taken c =
    let at = (goal.at.returns-clause-taken c).After-turn_below-arg-1 in
    rw c.saturating_sub.ensures
    (horizontal_taken c.args.changes.now c.args.width c.requires.at.rising c.args.line.now (start_of c.args.near) c.requires.start c.requires.at.within c.args.runs.first c.args.runs.second
    (first_some at) (second_some at) (omega (arith, c.saturating_sub.ensures))
    c.turn_below.new.line (rw c.saturating_sub.ensures at c.turn_below.ensures.left) (rw c.saturating_sub.ensures at c.turn_below.ensures.right)
    c.turn_below-2.new.line (rw c.saturating_sub.ensures at c.turn_below-2.ensures.left) (rw c.saturating_sub.ensures at c.turn_below-2.ensures.right))
