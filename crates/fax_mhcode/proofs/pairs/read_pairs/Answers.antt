use Rattle.std.proofs.Common.{◌≤◌, length, take, arith, sym, ◌∙◌, ap, length-append}
use Rattle.fax_bits.proofs.WindowLemmas.{padded-le}
use Rattle.fax_mhcode.specs.Pairs.{GoesOn}
use Rattle.fax_mhcode.proofs.PairLemmas.{GoesOn-then}
use Rattle.fax_mhcode.proofs.pairs.read_pairs.Goals as goal
use Rattle.fax_mhcode.proofs.pairs.read_pairs.Goals.{After-skip}

-- what is passed, painted or left after one more window
on : (c : After-skip) → GoesOn c.args.reader.now c.args.line.now c.args.left c.skip.new.self c.paint_pairs-painted.new.line c.paint_pairs-painted.result.left
on c =
    let enough : 56 ≤ length c.loop-line.reader.left = omega arith in
    GoesOn-then c.args.reader.now c.loop-line.reader c.skip.new.self c.args.line.now c.loop-line.line c.paint_pairs-painted.new.line c.args.left c.loop-line.left c.paint_pairs-painted.result.left (sym c.loop-line.invariant.left)
    c.loop-line.invariant.goes_on
    (c.paint_pairs-painted.ensures.goes_on c.loop-line.reader c.skip.new.self (sym (c.window.ensures.bits ∙ padded-le 56 c.loop-line.reader.left enough)) c.skip.ensures)

fewer : (c : After-skip) → length c.skip.new.self.left ≤ length c.loop-line.reader.left
fewer c = omega (arith, ap length c.skip.ensures.bits ∙ length-append (take c.paint_pairs-painted.result.bits c.loop-line.reader.left) c.skip.new.self.left)

pub loop-line-preserved : goal.loop-line-preserved
loop-line-preserved c =
    let here = (goal.at.loop-line-preserved c).After-skip in
    record {
      goes_on = on here;
      left = omega (arith, c.paint_pairs-painted.ensures.left, c.loop-line.invariant.left);
      ahead = omega (arith, fewer here, c.loop-line.invariant.ahead);
    }

pub returns-then-not-painted-clause-goes_on : goal.returns-then-not-painted-clause-goes_on
returns-then-not-painted-clause-goes_on c = on (goal.at.returns-then-not-painted-clause-goes_on c).After-skip
