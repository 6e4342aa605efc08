use Rattle.std.proofs.Common.{sym, ◌∙◌}
use Rattle.fax_explain.specs.Listening.{is_judged}
use Rattle.fax_explain.proofs.OpenedLemmas.{check_given, check_judged}
use Rattle.fax_explain.proofs.listener.Listener.words_of_check.Goals as goal

pub returns-then-not-is_judged : goal.returns-then-not-is_judged
returns-then-not-is_judged c =
    check_given (is_judged c.args.self.now.lane) c.args.is_good _ _ (sym c.is_judged.ensures ∙ c.if-not-is_judged.true) c.in_ok-format.ensures.ok

pub returns : goal.returns
returns c =
    check_judged (is_judged c.args.self.now.lane) c.args.is_good c.verdict_of-verdict.result.now _ _ (sym c.is_judged.ensures ∙ c.if-not-is_judged.false)
    c.verdict_of-verdict.ensures c.in_ok-format-2.ensures.ok
