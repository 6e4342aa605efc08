use Rattle.std.proofs.Common.{ap, refl, subst}
use Rattle.fax_line.specs.Operations.{LinesValue}
use Rattle.fax_redial.specs.Begun.{RestoredValue}
use Rattle.fax_redial.specs.Tries.{Begins, TryValue}
use Rattle.fax_redial.proofs.Trying.{tried_new}
use Rattle.fax_redial.proofs.job_try.JobTry.new.Goals as goal

pub returns : goal.returns
returns g c =
    let lines = c.in_ok-lines.lines in
    let inside = c.restored.inside in
    let held : TryValue = record { job = inside.job; lines = c.add.new.self; moment = 0; total = c.new-2.result } in
    subst (λ (r : RestoredValue). Begins r.job r.line held) c.restored.view_is (record {
      job = refl;
      total = c.new-2.ensures;
      pages = c.restored.invariant;
      tried = λ calls begins.
          tried_new calls inside.line held lines begins (ap (λ (l : LinesValue). l.lines) c.in_ok-lines.ensures) (ap (λ (l : LinesValue). l.slot) c.in_ok-lines.ensures) c.in_ok-add.ensures.added
          (λ are. c.add.ensures.begun calls are begins) c.add.ensures.slot refl;
    })
