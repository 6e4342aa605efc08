use Rattle.std.proofs.Common.{◌+◌, ◌<◌, ◌≡◌, ◌⊎◌, ◌++◌, length, sym, ◌∙◌, ap, subst, arith, inl, inr, eq-eqb}
use Rattle.std.proofs.lemmas.Result.{err_from_is_err_and}
use Rattle.std.proofs.lemmas.Bool.{eqb-true}
use Rattle.fax_bits.proofs.ReadingLemmas.{Passes-then}
use Rattle.fax_runcodes.specs.declared.Colour.{Colour}
use Rattle.fax_runcodes.specs.Rows.{other, colour_before}
use Rattle.fax_runcodes.specs.Spelling.{SpellsRun}
use Rattle.fax_mrcode.specs.Places.{run_start}
use Rattle.fax_mrcode.proofs.StepLemmas.{IsTaken-horizontal, StopsAtRun-other}
use Rattle.fax_mrcode.proofs.reading.horizontal.Goals as goal

pub returns-in_err-second-clause-fault : goal.returns-in_err-second-clause-fault
returns-in_err-second-clause-fault c =
    let first = c.in_ok-first.ensures.ok in
    let run = c.in_ok-first.first in
    let passes = rw c.copy-ahead.ensures at first.2 in
    let p = err_from_is_err_and c.from_residual-in_err-second.result c.from_residual-in_err-second.ensures.1 in
    let some : (0 < run) ⊎ (c.args.start.from ≡ 0) = elim first.4 [ inl more ↦ inl more | inr none ↦ inr (eqb-true c.args.start.from 0 none) ] in
    rw (p.1, p.2) (λ line row r. (
    let wide : length row ≡ c.args.width = r.same_width in
    let colour : colour_before row c.args.start.from ≡ c.args.start.colour = r.here c.requires.at.within in
    let start : c.run_start-a0.result + run ≡ run_start c.args.start.from + run = omega (arith, c.run_start-a0.ensures) in
    inr (
      run,
      c.read_stretch.new.reader.left,
      record {
        text = first.0;
        spelt = subst (λ (k : Colour). SpellsRun k first.0 run) (sym colour) first.1;
        within = omega (arith, first.3);
        bits_are = passes.bits;
      },
      some,
      omega (arith, first.3, start),
      StopsAtRun-other c.args.width (length row) c.other.result (other (colour_before row c.args.start.from)) (c.run_start-a0.result + run) (run_start c.args.start.from + run) {Q = run_start c.args.start.from + run ≡ length row}
          c.read_stretch.new.reader.left c.in_err-second.field-0.0 (sym wide) (c.other.ensures ∙ ap other (sym colour)) start
          (λ whole. eq-eqb (c.run_start-a0.result + run) c.args.width (start ∙ whole ∙ wide))
          c.in_err-second.ensures.fault,
    )))

pub returns-clause-ok : goal.returns-clause-ok
returns-clause-ok c =
    let first = c.in_ok-first.ensures.ok in
    let second = c.in_ok-second.ensures.ok in
    let run = c.in_ok-first.first in
    let run2 = c.in_ok-second.second in
    let passes = rw c.copy-ahead.ensures at first.2 in
    let some : (0 < run) ⊎ (c.args.start.from ≡ 0) = elim first.4 [ inl more ↦ inl more | inr none ↦ inr (eqb-true c.args.start.from 0 none) ] in
    let some2 : (0 < run2) ⊎ (run_start c.args.start.from + run ≡ c.args.width) = elim second.4 [
      | inl more ↦ inl more
      | inr none ↦ inr (omega (arith, eqb-true (c.run_start-a0.result + run) c.args.width none, c.run_start-a0.ensures))
    ] in (
      first.0 ++ second.0,
      Passes-then c.args.reader.now c.read_stretch.new.reader c.read_stretch-2.new.reader first.0 second.0 passes second.2,
      rw c.run_start-a0.ensures
          (IsTaken-horizontal c.args.changes.now c.args.width c.requires.at.rising c.args.start c.requires.at.within run run2 first.0 second.0
          first.1 (rw c.other.ensures at second.1) some (omega (arith, first.3, c.run_start-a0.ensures)) some2 (omega (arith, second.3, c.run_start-a0.ensures))),
    )
