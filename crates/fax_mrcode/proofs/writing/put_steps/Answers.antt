use Rattle.std.proofs.Common.{◌≡◌, ℕ, ◌+◌, ◌≤◌, get_or, arith, refl}
use Rattle.fax_runcodes.specs.Painted.{colour_after_changes}
use Rattle.fax_mhcode.proofs.WriteLemmas.{most_elements}
use Rattle.fax_mrcode.proofs.WriteLemmas.{AreLines-from, IsAhead, IsAhead-from, IsSecond-from, StepsSoFar-none, StepsSoFar-pass, StepsSoFar-vertical, StepsSoFar-horizontal, StepsSoFar-done, StepsSoFar-turned}
use Rattle.fax_mrcode.proofs.WrittenZeros.{zeros_from}
use Rattle.fax_mrcode.proofs.writing.put_steps.Goals as goal
use Rattle.fax_mrcode.proofs.writing.put_steps.Goals.{After-place_at-a1}

pub loop-from-init : goal.loop-from-init
loop-from-init c =
    let most : c.width-width.result ≤ 2432 = most_elements c.width-width.result c.width-width.ensures.is_width in
    record {
      so_far = StepsSoFar-none (AreLines-from c.requires.same_width (omega (arith, c.width-width.ensures.len))
          c.changes-changes.ensures.rising c.changes-changes.ensures.painted c.changes-above.ensures.rising c.changes-above.ensures.painted);
      room = omega (arith, c.requires.room, c.width-width.ensures.len);
    }

-- ---- the places of a step

ahead : (c : After-place_at-a1) (b' : ℕ) → b' ≡ get_or c.changes-above.result.now (c.first_from-over.result.0 + 1) c.width-width.result
    → IsAhead c.args.reference.now c.args.row.now c.changes-changes.result.now c.changes-above.result.now c.args.writer.now.bits c.loop-from.writer.bits
    c.loop-from.from (colour_after_changes c.loop-from.index) c.loop-from.index c.first_from-over.result.0 c.place_at-a1.result c.first_from-over.result.1 b'
ahead c b' e = IsAhead-from c.loop-from.invariant.so_far c.width-width.ensures.len c.loop-from-test.true
    c.first_from-over.ensures.near c.first_from-over.ensures.turns c.first_from-over.ensures.passed c.first_from-over.ensures.found
    c.place_at-a1.ensures c.first_from-over.ensures.place e

-- ---- pass

pub loop-from-smaller-then-b2-a1 : goal.loop-from-smaller-then-b2-a1
loop-from-smaller-then-b2-a1 c =
    let at = ahead (goal.at.loop-from-smaller-then-b2-a1 c).After-place_at-a1 c.place_at-b2.result c.place_at-b2.ensures in
    omega (arith, at.b1_low, at.b2_low)

pub loop-from-preserved-then-b2-a1 : goal.loop-from-preserved-then-b2-a1
loop-from-preserved-then-b2-a1 c =
    let at = ahead (goal.at.loop-from-preserved-then-b2-a1 c).After-place_at-a1 c.place_at-b2.result c.place_at-b2.ensures in
    record {
      so_far = StepsSoFar-pass at c.if-b2-a1.true c.put_mode.ensures.bits;
      room = omega (arith, c.loop-from.invariant.room, c.put_mode.ensures.room, at.b1_low, at.b2_low, at.b2_high, c.width-width.ensures.len);
    }

-- ---- vertical

pub offset_of-requires-clause-a1 : goal.offset_of-requires-clause-a1
offset_of-requires-clause-a1 c =
    let at = ahead (goal.at.offset_of-requires-clause-a1 c).After-place_at-a1 c.place_at-b2.result c.place_at-b2.ensures in
    omega (arith, at.a1_high, at.so_far.lines.few)

pub offset_of-requires-clause-b1 : goal.offset_of-requires-clause-b1
offset_of-requires-clause-b1 c =
    let at = ahead (goal.at.offset_of-requires-clause-b1 c).After-place_at-a1 c.place_at-b2.result c.place_at-b2.ensures in
    omega (arith, at.b2_low, at.b2_high, at.so_far.lines.few)

pub overflow_add-from-else-zeros-gt0 : goal.overflow_add-from-else-zeros-gt0
overflow_add-from-else-zeros-gt0 c =
    let at = ahead (goal.at.overflow_add-from-else-zeros-gt0 c).After-place_at-a1 c.place_at-b2.result c.place_at-b2.ensures in
    omega (arith, at.a1_high, at.so_far.lines.few)

pub loop-from-preserved-else-zeros-gt0 : goal.loop-from-preserved-else-zeros-gt0
loop-from-preserved-else-zeros-gt0 c =
    let at = ahead (goal.at.loop-from-preserved-else-zeros-gt0 c).After-place_at-a1 c.place_at-b2.result c.place_at-b2.ensures in
    record {
      so_far = StepsSoFar-turned (StepsSoFar-vertical at c.in-Some.offset c.if-b2-a1.false c.in-Some.ensures.some (rw c.width-width.ensures.len at c.index_after-index_above.ensures) c.put_mode-else-zeros-gt0.ensures.bits);
      room = omega (arith, c.loop-from.invariant.room, c.put_mode-else-zeros-gt0.ensures.room, at.a1_low, at.a1_high, c.width-width.ensures.len);
    }

-- ---- several vertical modes with a1 at b1

pub overflow_add-from-then-zeros-gt0 : goal.overflow_add-from-then-zeros-gt0
overflow_add-from-then-zeros-gt0 c =
    let at = ahead (goal.at.overflow_add-from-then-zeros-gt0 c).After-place_at-a1 c.place_at-b2.result c.place_at-b2.ensures in
    let zeros = c.places_alike-zeros.ensures in
    let taken = zeros_from c.places_alike-zeros.result at c.width-width.ensures.len c.if-zeros-gt0.true zeros.inside zeros.inside_above zeros.alike c.place_at-from.ensures in
    omega (arith, taken.2, at.so_far.lines.few, c.width-width.ensures.len)

pub loop-from-smaller-then-zeros-gt0 : goal.loop-from-smaller-then-zeros-gt0
loop-from-smaller-then-zeros-gt0 c =
    let at = ahead (goal.at.loop-from-smaller-then-zeros-gt0 c).After-place_at-a1 c.place_at-b2.result c.place_at-b2.ensures in
    let zeros = c.places_alike-zeros.ensures in
    let taken = zeros_from c.places_alike-zeros.result at c.width-width.ensures.len c.if-zeros-gt0.true zeros.inside zeros.inside_above zeros.alike c.place_at-from.ensures in
    omega (arith, taken.1, taken.2, c.if-zeros-gt0.true)

pub loop-from-preserved-then-zeros-gt0 : goal.loop-from-preserved-then-zeros-gt0
loop-from-preserved-then-zeros-gt0 c =
    let at = ahead (goal.at.loop-from-preserved-then-zeros-gt0 c).After-place_at-a1 c.place_at-b2.result c.place_at-b2.ensures in
    let zeros = c.places_alike-zeros.ensures in
    let taken = zeros_from c.places_alike-zeros.result at c.width-width.ensures.len c.if-zeros-gt0.true zeros.inside zeros.inside_above zeros.alike c.place_at-from.ensures in
    record {
      so_far = rw c.put_zeros.ensures.bits taken.0;
      room = omega (arith, c.loop-from.invariant.room, c.put_zeros.ensures.room, taken.1, taken.2);
    }

-- ---- horizontal

pub put_two_runs-requires-clause-first : goal.put_two_runs-requires-clause-first
put_two_runs-requires-clause-first c =
    let at = ahead (goal.at.put_two_runs-requires-clause-first c).After-place_at-a1 c.place_at-b2.result c.place_at-b2.ensures in
    omega (arith, at.a1_high, at.so_far.lines.few)

pub put_two_runs-requires-clause-second : goal.put_two_runs-requires-clause-second
put_two_runs-requires-clause-second c =
    let at = ahead (goal.at.put_two_runs-requires-clause-second c).After-place_at-a1 c.place_at-b2.result c.place_at-b2.ensures in
    let second = IsSecond-from at c.width-width.ensures.len c.place_at-a2.ensures in
    omega (arith, second.high, at.so_far.lines.few)

pub overflow_sub-a2 : goal.overflow_sub-a2
overflow_sub-a2 c =
    let at = ahead (goal.at.overflow_sub-a2 c).After-place_at-a1 c.place_at-b2.result c.place_at-b2.ensures in
    (IsSecond-from at c.width-width.ensures.len c.place_at-a2.ensures).low

pub overflow_add-from-in_default : goal.overflow_add-from-in_default
overflow_add-from-in_default c =
    let at = ahead (goal.at.overflow_add-from-in_default c).After-place_at-a1 c.place_at-b2.result c.place_at-b2.ensures in
    let second = IsSecond-from at c.width-width.ensures.len c.place_at-a2.ensures in
    omega (arith, second.high, at.so_far.lines.few)

pub loop-from-smaller : goal.loop-from-smaller
loop-from-smaller c =
    let at = ahead (goal.at.loop-from-smaller c).After-place_at-a1 c.place_at-b2.result c.place_at-b2.ensures in
    let second = IsSecond-from at c.width-width.ensures.len c.place_at-a2.ensures in
    omega (arith, at.a1_low, second.low)

pub loop-from-preserved : goal.loop-from-preserved
loop-from-preserved c =
    let at = ahead (goal.at.loop-from-preserved c).After-place_at-a1 c.place_at-b2.result c.place_at-b2.ensures in
    let second = IsSecond-from at c.width-width.ensures.len c.place_at-a2.ensures in
    record {
      so_far = StepsSoFar-turned (StepsSoFar-horizontal at second c.if-b2-a1.false (c.in_default.ensures.none refl) (rw (c.word_of-word.ensures.bits, c.from-first.ensures, c.from.ensures, c.saturating_sub.ensures, c.after_changes-colour.ensures) at c.put_two_runs.ensures.bits));
      room = omega (arith, c.loop-from.invariant.room, c.put_two_runs.ensures.room, at.a1_low, second.low, second.high, c.width-width.ensures.len);
    }

pub returns : goal.returns
returns c = StepsSoFar-done c.loop-from.invariant.so_far (omega (arith, c.loop-from-test.false, c.width-width.ensures.len))
