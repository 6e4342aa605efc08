use Rattle.std.proofs.Common.{Ok, ◌∙◌, ap, inl, inr}
use Rattle.std.proofs.lemmas.Result.{err_from_is_err_and}
use Rattle.fax_runcodes.specs.Rows.{Elements}
use Rattle.fax_mrcode.proofs.reading.read_line_2d.Goals as goal

pub returns-in_err-read_line_2d_into-clause-reads : goal.returns-in_err-read_line_2d_into-clause-reads
returns-in_err-read_line_2d_into-clause-reads c = λ row text rest line bits. (
    let p = err_from_is_err_and c.from_residual-in_err-read_line_2d_into.result c.from_residual-in_err-read_line_2d_into.ensures.1 in
    rw (p.1, p.2) (elim (c.in_err-read_line_2d_into.ensures.reads row text rest (rw c.lend.ensures line) (ap (λ p. p.left) c.copy-ahead.ensures ∙ bits)) [
      | inl read ↦ absurd (cc)
      | inr memory ↦ inr (cc)
    ]))

pub returns-in_err-read_line_2d_into-clause-fails : goal.returns-in_err-read_line_2d_into-clause-fails
returns-in_err-read_line_2d_into-clause-fails c = λ fault meets. (
    let p = err_from_is_err_and c.from_residual-in_err-read_line_2d_into.result c.from_residual-in_err-read_line_2d_into.ensures.1 in
    rw (p.1, p.2) (elim (c.in_err-read_line_2d_into.ensures.fails fault (rw (c.lend.ensures, c.copy-ahead.ensures) meets)) [
      | inl same ↦ inl (cc)
      | inr memory ↦ inr (cc)
    ]))

pub returns-clause-reads : goal.returns-clause-reads
returns-clause-reads c = λ row text rest line bits. (
    elim (c.in_ok-read_line_2d_into.ensures.reads row text rest (rw c.lend.ensures line) (ap (λ p. p.left) c.copy-ahead.ensures ∙ bits)) [
      | inl read ↦ inl (ap (λ (r : Elements). Ok r) (c.in_ok-row.ensures ∙ read.1))
      | inr memory ↦ absurd (cc)
    ])

pub returns-clause-fails : goal.returns-clause-fails
returns-clause-fails c = λ fault meets. (
    elim (c.in_ok-read_line_2d_into.ensures.fails fault (rw (c.lend.ensures, c.copy-ahead.ensures) meets)) [
      | inl other ↦ absurd (cc)
      | inr memory ↦ absurd (cc)
    ])
