use Rattle.std.proofs.Common.{sym, ◌∙◌, subst}
use Rattle.fax_answer.specs.Reached.{Rep, Stands}
use Rattle.fax_answer.proofs.AnswerLemmas.{in_page}
use Rattle.fax_answer.proofs.answerer.Answerer.answer.Goals as goal

pub returns-in-Judge : goal.returns-in-Judge
returns-in-Judge g c core s =
    let k = subst (λ (x : Rep). Stands core x) (sym c.self.view_is) s in
    let e = sym k.follows.state ∙ c.in-Page.is in
    in_page c.args.octets.now core c.in-Page.field-0 c.in-Judge.command c.args.self.now.image.readers c.judge.result e
    (sym c.read-order.ensures ∙ c.in-Judge.is) (c.judge.ensures core c.in-Page.field-0 s e)
