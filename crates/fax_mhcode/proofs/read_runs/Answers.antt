use Rattle.std.proofs.Common.{◌≡◌, ◌+◌, ◌<◌, length, arith, ap, ◌∙◌, subst, length-append}
use Rattle.std.proofs.lemmas.Result.{err_from_is_err_and}
use Rattle.fax_runcodes.specs.declared.Colour.{Colour}
use Rattle.fax_runcodes.specs.declared.Colour.TheVariants.{White, Black}
use Rattle.fax_runcodes.specs.RunFaults.{FailsRun, ReadsRun}
use Rattle.fax_runcodes.proofs.RunLaws.{SpellsRun-some}
use Rattle.fax_mhcode.specs.declared.fault.LineFault.TheVariants.{Run, PastWidth}
use Rattle.fax_mhcode.specs.Pairs.{RunsSoFar}
use Rattle.fax_mhcode.proofs.LineLemmas.{RunsSoFar-more, FailsLine-from, SpellsLine-from, length-paint}
use Rattle.fax_mhcode.proofs.read_runs.Goals as goal
use Rattle.fax_mhcode.proofs.read_runs.Goals.{After-paint, After-read_pairs-left}

-- the runs so far, and those of the pairs
pairs_read : (c : After-read_pairs-left) → RunsSoFar c.args.width c.args.reader.now c.read_pairs-left.new.reader c.read_pairs-left.new.line White
pairs_read c = c.read_pairs-left.ensures.goes_on c.args.width c.args.reader.now c.loop-left.invariant.so_far c.loop-left.invariant.left

-- the runs so far and the white one
mid : (c : After-paint) → RunsSoFar c.args.width c.args.reader.now c.read_run.new.reader c.paint.new.self Black
mid c =
    let white = c.in_ok-white.ensures.ok in
    rw c.paint.ensures
    (RunsSoFar-more c.args.width c.args.reader.now c.read_pairs-left.new.reader c.read_run.new.reader c.read_pairs-left.new.line White white.0 c.in_ok-white.white (c.read_pairs-left.ensures.goes_on c.args.width c.args.reader.now c.loop-left.invariant.so_far c.loop-left.invariant.left) white.1 white.2 (omega arith) (omega arith))

mid_length : (c : After-paint) → length c.paint.new.self ≡ length c.read_pairs-left.new.line + c.in_ok-white.white
mid_length c = length-paint c.read_pairs-left.new.line c.paint.new.self c.in_ok-white.white White c.paint.ensures

pub returns-in_err-black-clause-fault : goal.returns-in_err-black-clause-fault
returns-in_err-black-clause-fault c =
    let here = (goal.at.returns-in_err-black-clause-fault c).After-paint in
    let p = err_from_is_err_and c.from_residual-in_err-black.result c.from_residual-in_err-black.ensures.1 in
    let within : length c.paint.new.self < c.args.width = omega (arith, mid_length here) in
    rw (p.1, p.2) (FailsLine-from c.args.width c.args.reader.now c.read_run.new.reader c.paint.new.self Black (Run c.in_err-black.field-0.0) (mid here) within
    (subst (λ (k : Colour). FailsRun k c.read_run.new.reader.left c.in_err-black.field-0.0) (mid here).colour_is c.in_err-black.ensures.fault))

pub returns-then-black-left-clause-fault : goal.returns-then-black-left-clause-fault
returns-then-black-left-clause-fault c =
    let here = (goal.at.returns-then-black-left-clause-fault c).After-paint in
    let black = c.in_ok-black.ensures.ok in
    let within : length c.paint.new.self < c.args.width = omega (arith, mid_length here) in
    let reads : ReadsRun Black c.read_run.new.reader.left c.in_ok-black.black c.read_run-in-loop-left.new.reader.left = record { text = black.0; spelt = black.1; within = c.in_ok-black.ensures.short; bits_are = black.2.bits } in
    FailsLine-from c.args.width c.args.reader.now c.read_run.new.reader c.paint.new.self Black PastWidth (mid here) within
    (c.in_ok-black.black, c.read_run-in-loop-left.new.reader.left, subst (λ (k : Colour). ReadsRun k c.read_run.new.reader.left c.in_ok-black.black c.read_run-in-loop-left.new.reader.left) (mid here).colour_is reads, omega (arith, (mid here).sum_is, mid_length here))

pub loop-left-smaller : goal.loop-left-smaller
loop-left-smaller c =
    let white = c.in_ok-white.ensures.ok in
    let black = c.in_ok-black.ensures.ok in
    let some : 0 < length white.0 = SpellsRun-some White white.0 c.in_ok-white.white white.1 in
    let parts : length c.read_pairs-left.new.reader.left ≡ length white.0 + length c.read_run.new.reader.left = ap length white.2.bits ∙ length-append white.0 c.read_run.new.reader.left in
    let parts2 : length c.read_run.new.reader.left ≡ length black.0 + length c.read_run-in-loop-left.new.reader.left = ap length black.2.bits ∙ length-append black.0 c.read_run-in-loop-left.new.reader.left in
    let less : length c.read_run-in-loop-left.new.reader.left < length c.loop-left.reader.left = omega (arith, c.read_pairs-left.ensures.ahead) in
    less

pub loop-left-preserved : goal.loop-left-preserved
loop-left-preserved c =
    let here = (goal.at.loop-left-preserved c).After-paint in
    let black = c.in_ok-black.ensures.ok in
    let size : length c.paint.new.self ≡ length c.read_pairs-left.new.line + c.in_ok-white.white = mid_length here in
    let both : length c.paint-in-loop-left.new.self ≡ length c.paint.new.self + c.in_ok-black.black = length-paint c.paint.new.self c.paint-in-loop-left.new.self c.in_ok-black.black Black c.paint-in-loop-left.ensures in
    record {
      so_far = rw c.paint-in-loop-left.ensures
          (RunsSoFar-more c.args.width c.args.reader.now c.read_run.new.reader c.read_run-in-loop-left.new.reader c.paint.new.self Black black.0 c.in_ok-black.black (mid here) black.1 black.2 (omega arith) (omega arith));
      left = omega arith;
    }

pub returns-then-left-eq0-clause-ok : goal.returns-then-left-eq0-clause-ok
returns-then-left-eq0-clause-ok c =
    let here = pairs_read (goal.at.returns-then-left-eq0-clause-ok c).After-read_pairs-left in
    SpellsLine-from c.args.width c.args.reader.now c.read_pairs-left.new.reader c.read_pairs-left.new.line White here (omega (arith, c.read_pairs-left.ensures.left, c.loop-left.invariant.left))

pub returns-then-left-eq0-2-clause-ok : goal.returns-then-left-eq0-2-clause-ok
returns-then-left-eq0-2-clause-ok c =
    let here = (goal.at.returns-then-left-eq0-2-clause-ok c).After-paint in
    SpellsLine-from c.args.width c.args.reader.now c.read_run.new.reader c.paint.new.self Black (mid here) (omega (arith, mid_length here, c.read_pairs-left.ensures.left, c.loop-left.invariant.left))

pub returns-in_err-white-clause-fault : goal.returns-in_err-white-clause-fault
returns-in_err-white-clause-fault c =
    let here = pairs_read (goal.at.returns-in_err-white-clause-fault c).After-read_pairs-left in
    let p = err_from_is_err_and c.from_residual.result c.from_residual.ensures.1 in
    rw (p.1, p.2) (FailsLine-from c.args.width c.args.reader.now c.read_pairs-left.new.reader c.read_pairs-left.new.line White (Run c.in_err-white.field-0.0) here
    (omega (arith, c.read_pairs-left.ensures.left, c.loop-left.invariant.left))
    (subst (λ (k : Colour). FailsRun k c.read_pairs-left.new.reader.left c.in_err-white.field-0.0) here.colour_is c.in_err-white.ensures.fault))

pub returns-then-white-left-clause-fault : goal.returns-then-white-left-clause-fault
returns-then-white-left-clause-fault c =
    let here = pairs_read (goal.at.returns-then-white-left-clause-fault c).After-read_pairs-left in
    let white = c.in_ok-white.ensures.ok in
    let reads : ReadsRun White c.read_pairs-left.new.reader.left c.in_ok-white.white c.read_run.new.reader.left = record { text = white.0; spelt = white.1; within = c.in_ok-white.ensures.short; bits_are = white.2.bits } in
    FailsLine-from c.args.width c.args.reader.now c.read_pairs-left.new.reader c.read_pairs-left.new.line White PastWidth here (omega (arith, c.read_pairs-left.ensures.left, c.loop-left.invariant.left)) (
      c.in_ok-white.white,
      c.read_run.new.reader.left,
      subst (λ (k : Colour). ReadsRun k c.read_pairs-left.new.reader.left c.in_ok-white.white c.read_run.new.reader.left) here.colour_is reads,
      omega (arith, here.sum_is, c.read_pairs-left.ensures.left, c.loop-left.invariant.left),
    )
