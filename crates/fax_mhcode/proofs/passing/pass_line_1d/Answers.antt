use Rattle.std.proofs.Common.{◌≡◌, ◌+◌, ◌<◌, Bool, List, [], ◌++◌, length, replicate, arith, refl, ap, ◌∙◌, subst, length-append}
use Rattle.std.proofs.lemmas.Result.{err_from_is_err_and}
use Rattle.fax_bits.specs.Reading.{Passes}
use Rattle.fax_runcodes.specs.declared.Colour.{Colour}
use Rattle.fax_runcodes.specs.RunFaults.{FailsRun, ReadsRun}
use Rattle.fax_runcodes.specs.Rows.{Elements}
use Rattle.fax_runcodes.specs.Widths.{elements_of}
use Rattle.fax_runcodes.proofs.RunLaws.{SpellsRun-some}
use Rattle.fax_mhcode.specs.declared.fault.LineFault.TheVariants.{Run, PastWidth}
use Rattle.fax_mhcode.specs.Lines.{SpellsLine}
use Rattle.fax_mhcode.specs.LineFaults.{FailsLine}
use Rattle.fax_mhcode.proofs.LineLemmas.{RunsSoFar-none, RunsSoFar-more, FailsLine-from, SpellsLine-from, length-paint}
use Rattle.fax_mhcode.proofs.LineLaws.{few_elements}
use Rattle.fax_mhcode.proofs.FaultLaws.{SpellsLine-not_fails, FailsLine-one}
use Rattle.fax_mhcode.proofs.passing.pass_line_1d.Goals as goal
use Rattle.fax_mhcode.proofs.passing.pass_line_1d.Goals.{After-from_residual, Then-run-left, After-loop-left}

pub loop-left-init : goal.loop-left-init
loop-left-init c = rw c.copy-ahead.ensures (record {
  row = [];
  so_far = RunsSoFar-none (elements_of c.args.width) c.args.reader.now;
  left = omega (arith, c.elements-left.ensures);
})

-- no run can be read
no_run : (c : After-from_residual) → FailsLine (elements_of c.args.width) c.args.reader.now.left (Run c.in_err-run.field-0.0)
no_run c =
    let so_far = c.loop-left.invariant.so_far in
    FailsLine-from (elements_of c.args.width) c.args.reader.now c.loop-left.ahead c.loop-left.invariant.row c.loop-left.colour (Run c.in_err-run.field-0.0) so_far (omega arith)
    (subst (λ (k : Colour). FailsRun k c.loop-left.ahead.left c.in_err-run.field-0.0) so_far.colour_is c.in_err-run.ensures.fault)

-- a run goes past the width
past_width : (c : Then-run-left) → FailsLine (elements_of c.args.width) c.args.reader.now.left PastWidth
past_width c =
    let so_far = c.loop-left.invariant.so_far in
    let run = c.in_ok-run.ensures.ok in
    let reads : ReadsRun c.loop-left.colour c.loop-left.ahead.left c.in_ok-run.run' c.read_run.new.reader.left = record { text = run.0; spelt = run.1; within = c.in_ok-run.ensures.short; bits_are = run.2.bits } in
    FailsLine-from (elements_of c.args.width) c.args.reader.now c.loop-left.ahead c.loop-left.invariant.row c.loop-left.colour PastWidth so_far (omega arith) (
      c.in_ok-run.run',
      c.read_run.new.reader.left,
      subst (λ (k : Colour). ReadsRun k c.loop-left.ahead.left c.in_ok-run.run' c.read_run.new.reader.left) so_far.colour_is reads,
      omega (arith, so_far.sum_is, c.loop-left.invariant.left),
    )

pub returns-in_err-run-clause-fault : goal.returns-in_err-run-clause-fault
returns-in_err-run-clause-fault c =
    let p = err_from_is_err_and c.from_residual.result c.from_residual.ensures.1 in
    rw (p.1, p.2) (no_run c)

pub returns-in_err-run-clause-reads : goal.returns-in_err-run-clause-reads
returns-in_err-run-clause-reads c = λ row text rest line bits.
    absurd (SpellsLine-not_fails (elements_of c.args.width) c.args.reader.now.left text rest row (Run c.in_err-run.field-0.0) (few_elements c.args.width) line bits (no_run c))

pub returns-in_err-run-clause-fails : goal.returns-in_err-run-clause-fails
returns-in_err-run-clause-fails c = λ fault meets. (
    let p = err_from_is_err_and c.from_residual.result c.from_residual.ensures.1 in
    let one = FailsLine-one (elements_of c.args.width) c.args.reader.now.left (Run c.in_err-run.field-0.0) fault (few_elements c.args.width) (no_run c) meets in
    cc)

pub returns-then-run-left-clause-fault : goal.returns-then-run-left-clause-fault
returns-then-run-left-clause-fault c = past_width c

pub returns-then-run-left-clause-reads : goal.returns-then-run-left-clause-reads
returns-then-run-left-clause-reads c = λ row text rest line bits.
    absurd (SpellsLine-not_fails (elements_of c.args.width) c.args.reader.now.left text rest row PastWidth (few_elements c.args.width) line bits (past_width c))

pub returns-then-run-left-clause-fails : goal.returns-then-run-left-clause-fails
returns-then-run-left-clause-fails c = λ fault meets. (
    let one = FailsLine-one (elements_of c.args.width) c.args.reader.now.left PastWidth fault (few_elements c.args.width) (past_width c) meets in
    cc)

pub loop-left-smaller : goal.loop-left-smaller
loop-left-smaller c =
    let run = c.in_ok-run.ensures.ok in
    let some : 0 < length run.0 = SpellsRun-some c.loop-left.colour run.0 c.in_ok-run.run' run.1 in
    let parts : length c.loop-left.ahead.left ≡ length run.0 + length c.read_run.new.reader.left = ap length run.2.bits ∙ length-append run.0 c.read_run.new.reader.left in
    let less : length c.read_run.new.reader.left < length c.loop-left.ahead.left = omega arith in
    less

pub loop-left-preserved : goal.loop-left-preserved
loop-left-preserved c =
    let row : Elements = c.loop-left.invariant.row in
    let more : Elements = row ++ replicate c.in_ok-run.run' c.loop-left.colour in
    let run = c.in_ok-run.ensures.ok in
    let size : length more ≡ length row + c.in_ok-run.run' = length-paint row more c.in_ok-run.run' c.loop-left.colour refl in
    record {
      row = more;
      so_far = rw c.other-colour.ensures
          (RunsSoFar-more (elements_of c.args.width) c.args.reader.now c.loop-left.ahead c.read_run.new.reader row c.loop-left.colour run.0 c.in_ok-run.run' c.loop-left.invariant.so_far run.1 run.2 (omega arith) (omega arith));
      left = omega arith;
    }

-- the line that was passed
passed : (c : After-loop-left) → (row : Elements) × (text : List Bool) × SpellsLine (elements_of c.args.width) text row × Passes c.args.reader.now c.loop-left.ahead text
passed c =
    let line : (text : List Bool) × SpellsLine (elements_of c.args.width) text c.loop-left.invariant.row × Passes c.args.reader.now c.loop-left.ahead text =
    SpellsLine-from (elements_of c.args.width) c.args.reader.now c.loop-left.ahead c.loop-left.invariant.row c.loop-left.colour c.loop-left.invariant.so_far (omega arith) in
    (c.loop-left.invariant.row, line.0, line.1, line.2)

pub returns-clause-ok : goal.returns-clause-ok
returns-clause-ok c = passed c

pub returns-clause-fails : goal.returns-clause-fails
returns-clause-fails c = λ fault meets. (
    let line = passed c in
    absurd (SpellsLine-not_fails (elements_of c.args.width) c.args.reader.now.left line.1 c.loop-left.ahead.left line.0 fault (few_elements c.args.width) line.2 line.3.bits meets))
