use Rattle.std.proofs.Common.{[]}
use Rattle.std.proofs.lemmas.Result.{err_from_is_err_and}
use Rattle.fax_runcodes.specs.Rows.{Elements}
use Rattle.fax_runcodes.specs.declared.Colour.TheVariants.{White}
use Rattle.fax_runcodes.specs.Painted.{painted}
use Rattle.fax_mrcode.specs.Starts.{after_step}
use Rattle.fax_mrcode.proofs.CursorLemmas.{size}
use Rattle.fax_mrcode.proofs.StepLemmas.{StepsSoFar-none, StepsSoFar-more, IsStart-first, SpellsLine-from, FailsLine-at}
use Rattle.fax_mrcode.proofs.reading.passing.pass_steps.Goals as goal

pub loop-start-init : goal.loop-start-init
loop-start-init c = record {
  line = [];
  so_far = rw c.of_line-start.ensures (StepsSoFar-none (painted White 0 c.args.changes.now c.args.width) c.args.width c.args.reader.now);
  is_start = rw c.of_line-start.ensures (IsStart-first c.args.changes.now c.args.width);
}

pub returns-in_err-taken-clause-fault : goal.returns-in_err-taken-clause-fault
returns-in_err-taken-clause-fault c =
    let p = err_from_is_err_and c.from_residual.result c.from_residual.ensures.1 in
    let stops = rw c.copy-ahead.ensures at c.in_err-taken.ensures.fault in
    rw (p.1, p.2) (FailsLine-at (painted White 0 c.args.changes.now c.args.width) c.args.changes.now c.args.width c.args.reader.now c.loop-start.reader c.loop-start.invariant.line c.loop-start.start
    c.in_err-taken.field-0.0 (size c.args.changes.now c.args.width c.requires.rising) c.loop-start.invariant.so_far c.loop-start.invariant.is_start c.loop-start-test.true
    (stops c.loop-start.invariant.line))

pub loop-start-preserved : goal.loop-start-preserved
loop-start-preserved c =
    let step = rw c.copy-ahead.ensures at c.in_ok-taken.ensures.ok in
    let line : Elements = c.loop-start.invariant.line in
    let after : Elements = after_step line c.loop-start.start c.in_ok-taken.taken in
    record {
      line = after;
      so_far = StepsSoFar-more (painted White 0 c.args.changes.now c.args.width) c.args.width c.args.reader.now c.loop-start.reader c.take_step.new.reader line c.loop-start.start
          after c.in_ok-taken.taken.next step.0 step.1 c.loop-start.invariant.so_far c.loop-start-test.true step.2 (step.3.takes line c.loop-start.invariant.is_start);
      is_start = step.3.next line c.loop-start.invariant.is_start;
    }

pub returns-clause-ok : goal.returns-clause-ok
returns-clause-ok c =
    let line : Elements = c.loop-start.invariant.line in
    let spelt = SpellsLine-from (painted White 0 c.args.changes.now c.args.width) c.args.changes.now c.args.width c.args.reader.now c.loop-start.reader line c.loop-start.start
    (size c.args.changes.now c.args.width c.requires.rising) c.loop-start.invariant.so_far c.loop-start.invariant.is_start c.loop-start-test.false in
    (line, spelt.0, spelt.1, spelt.2)
