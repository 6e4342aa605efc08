use Rattle.std.proofs.Common.{ℕ, Ok, Err, sym, ◌∙◌, ap, subst}
use Rattle.std.proofs.lemmas.Result.{err_from_is_err_and}
use Rattle.fax_bits.specs.Reading.{Place}
use Rattle.fax_runcodes.specs.declared.fault.RunFault.{RunFault}
use Rattle.fax_runcodes.specs.RunFaults.{FailsRun, ReadsRun}
use Rattle.fax_runcodes.proofs.RunLaws.{SpellsRun-one, ReadsRun-not_fails, FailsRun-one}
use Rattle.fax_runcodes.proofs.run.read_long_run.Goals as goal
use Rattle.fax_runcodes.proofs.run.read_long_run.Goals.{In_ok-run, In_err-run}

-- the copy that was read from stands where the reader does
fault_is : (c : In_err-run) → FailsRun c.args.colour c.args.reader.now.left c.in_err-run.field-0.0
fault_is c = subst (λ (p : Place). FailsRun c.args.colour p.left c.in_err-run.field-0.0) c.copy-ahead.ensures c.in_err-run.ensures.fault

read_is : (c : In_ok-run) → ReadsRun c.args.colour c.args.reader.now.left c.in_ok-run.run' c.read_words.new.reader.left
read_is c =
    let found = c.in_ok-run.ensures.ok in
    record {
      text = found.0;
      spelt = found.1;
      within = c.in_ok-run.ensures.short;
      bits_are = ap (λ (p : Place). p.left) (sym c.copy-ahead.ensures) ∙ found.2.bits;
    }

pub returns-in_err-run-clause-reads : goal.returns-in_err-run-clause-reads
returns-in_err-run-clause-reads c =
    let shared : In_err-run = (goal.at.returns-in_err-run-clause-reads c).In_err-run in
    λ run rest r. absurd (ReadsRun-not_fails c.args.colour c.args.reader.now.left run rest c.in_err-run.field-0.0 r (fault_is shared))

pub returns-in_err-run-clause-fails : goal.returns-in_err-run-clause-fails
returns-in_err-run-clause-fails c =
    let shared : In_err-run = (goal.at.returns-in_err-run-clause-fails c).In_err-run in
    let p = err_from_is_err_and c.from_residual.result c.from_residual.ensures.1 in
    λ fault f. p.1 ∙ ap (λ (e : RunFault). Err e) (p.2 ∙ FailsRun-one c.args.colour c.args.reader.now.left c.in_err-run.field-0.0 fault (fault_is shared) f)

pub returns-clause-reads : goal.returns-clause-reads
returns-clause-reads c =
    let shared : In_ok-run = (goal.at.returns-clause-reads c).In_ok-run in
    let mine = read_is shared in
    λ run rest r. ap (λ (n : ℕ). Ok n) (SpellsRun-one c.args.colour mine.text r.text c.in_ok-run.run' run c.read_words.new.reader.left rest mine.spelt r.spelt (sym mine.bits_are ∙ r.bits_are)).1

pub returns-clause-fails : goal.returns-clause-fails
returns-clause-fails c =
    let shared : In_ok-run = (goal.at.returns-clause-fails c).In_ok-run in
    λ fault f. absurd (ReadsRun-not_fails c.args.colour c.args.reader.now.left c.in_ok-run.run' c.read_words.new.reader.left fault (read_is shared) f)
