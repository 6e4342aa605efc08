use Rattle.std.proofs.Common.{[], arith}
use Rattle.std.proofs.lemmas.Result.{err_from_is_err_and}
use Rattle.fax_runcodes.specs.declared.Colour.TheVariants.{White}
use Rattle.fax_runcodes.specs.Painted.{painted}
use Rattle.fax_mrcode.specs.Starts.{StepsSoFar, left_of_a0}
use Rattle.fax_mrcode.proofs.CursorLemmas.{size}
use Rattle.fax_mrcode.proofs.NearLemmas.{IsStartIn-painted, left_of_end}
use Rattle.fax_mrcode.proofs.StepLemmas.{StepsSoFar-none, StepsSoFar-more, IsStart-first, SpellsLine-from, FailsLine-from}
use Rattle.fax_mrcode.proofs.reading.read_steps.Goals as goal
use Rattle.fax_mrcode.proofs.reading.read_steps.Goals.{After-read_near_steps-near}

pub loop-start-init : goal.loop-start-init
loop-start-init c = record {
  so_far = rw c.of_line-start.ensures (StepsSoFar-none (painted White 0 c.args.changes.now c.args.width) c.args.width c.args.reader.now);
  is_start = rw (c.paint.ensures, c.len.ensures.len, c.of_line-start.ensures, c.requires.empty)
      (IsStartIn-painted c.args.changes.now c.args.width [] (record { from = 0; colour = White; index = 0 }) (IsStart-first c.args.changes.now c.args.width)).0;
}

-- the steps so far, with those of a window
so_far : (c : After-read_near_steps-near) → StepsSoFar (painted White 0 c.args.changes.now c.args.width) c.args.width c.args.reader.now c.read_near_steps-near.new.reader (left_of_a0 c.read_near_steps-near.new.line c.read_near_steps-near.result) c.read_near_steps-near.result
so_far c = c.read_near_steps-near.ensures.so_far c.args.reader.now c.loop-start.invariant.so_far

pub returns-in_err-start-clause-fault : goal.returns-in_err-start-clause-fault
returns-in_err-start-clause-fault c =
    let p = err_from_is_err_and c.from_residual.result c.from_residual.ensures.1 in
    rw (p.1, p.2) (FailsLine-from (painted White 0 c.args.changes.now c.args.width) c.args.changes.now c.args.width c.args.reader.now c.read_near_steps-near.new.reader (left_of_a0 c.read_near_steps-near.new.line c.read_near_steps-near.result) c.read_near_steps-near.result
    c.in_err-start.field-0.0 (size c.args.changes.now c.args.width c.requires.rising) (so_far (goal.at.returns-in_err-start-clause-fault c).After-read_near_steps-near) c.read_near_steps-near.ensures.next.is_start (omega (arith, c.if-near-start.false, c.loop-start-test.true))
    c.in_err-start.ensures.fault)

pub loop-start-preserved : goal.loop-start-preserved
loop-start-preserved c =
    let step = c.in_ok-start.ensures.ok in
    record {
      so_far = StepsSoFar-more (painted White 0 c.args.changes.now c.args.width) c.args.width c.args.reader.now c.read_near_steps-near.new.reader c.read_step_in.new.reader (left_of_a0 c.read_near_steps-near.new.line c.read_near_steps-near.result) c.read_near_steps-near.result
          (left_of_a0 c.read_step_in.new.line c.in_ok-start.start) c.in_ok-start.start step.0 step.1 (so_far (goal.at.loop-start-preserved c).After-read_near_steps-near) (omega (arith, c.if-near-start.false, c.loop-start-test.true)) step.2 step.3;
      is_start = c.in_ok-start.ensures.next;
    }

pub loop-start-preserved-then-near-start : goal.loop-start-preserved-then-near-start
loop-start-preserved-then-near-start c = record { so_far = so_far (goal.at.loop-start-preserved-then-near-start c).After-read_near_steps-near; is_start = c.read_near_steps-near.ensures.next }

pub returns-clause-ok : goal.returns-clause-ok
returns-clause-ok c =
    rw (← left_of_end c.args.changes.now c.args.width c.loop-start.line c.loop-start.start c.loop-start.invariant.is_start c.loop-start-test.false)
    (SpellsLine-from (painted White 0 c.args.changes.now c.args.width) c.args.changes.now c.args.width c.args.reader.now c.loop-start.reader (left_of_a0 c.loop-start.line c.loop-start.start) c.loop-start.start
    (size c.args.changes.now c.args.width c.requires.rising) c.loop-start.invariant.so_far c.loop-start.invariant.is_start.is_start c.loop-start-test.false)
