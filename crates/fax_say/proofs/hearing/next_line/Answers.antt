use Rattle.std.proofs.Common.{◌≡◌, None, Some}
use Rattle.fax_control.specs.ClientStreams.{octets_of_heard}
use Rattle.fax_say.proofs.AnswerLemmas.{heard_none, heard_so}
use Rattle.fax_say.proofs.hearing.next_line.Goals as goal

pub returns-in_err-heard-clause-none : goal.returns-in_err-heard-clause-none
returns-in_err-heard-clause-none c =
    let none : c.hear-heard.result.0 ≡ None = c.in_err-heard.was in
    rw c.from_residual.ensures (heard_none c.args.octets.now c.args.lines.now c.hear-heard.new.self (rw none at c.hear-heard.ensures.no_end) (rw none at c.hear-heard.ensures.waits))

pub returns-clause-line : goal.returns-clause-line
returns-clause-line c =
    let some : c.hear-heard.result.0 ≡ Some c.in_ok-heard.heard = c.in_ok-heard.was in
    heard_so c.args.octets.now c.hear-heard.result.1.now (octets_of_heard c.in_ok-heard.heard) c.args.lines.now c.hear-heard.new.self c.last_of.result
    (rw some at c.hear-heard.ensures.line) (rw some at c.hear-heard.ensures.begins) c.last_of.ensures
