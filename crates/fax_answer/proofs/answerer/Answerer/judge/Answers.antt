use Rattle.std.proofs.Common.{◌≡◌, true, false, refl, sym, ◌∙◌, subst, rules}
use Rattle.fax_answer.specs.History.{since_answer, last_image}
use Rattle.fax_answer.specs.Table.{is_one_image, is_repeat}
use Rattle.fax_answer.specs.Reached.{Rep, Stands}
use Rattle.fax_answer.proofs.AnswerLemmas.{by_image, refused_in_page}
use Rattle.fax_answer.proofs.answerer.Answerer.judge.Goals as goal

pub returns-then-is_one_image : goal.returns-then-is_one_image
returns-then-is_one_image g c core dcs s e =
    let k = subst (λ (x : Rep). Stands core x) (sym c.self.view_is) s in
    let on : c.is_one_image.result ≡ true = search rules in
    let one : is_one_image (since_answer core.history) ≡ true = sym (c.is_one_image.ensures core.history k.follows.counts) ∙ on in
    by_image dcs c.args.command core.history (last_image core.history) c.args.self.now.image.readers c.read.result one refl
    (c.read.ensures dcs (last_image core.history) ((s.holds.page dcs e).last one))

pub returns : goal.returns
returns g c core dcs s e =
    let k = subst (λ (x : Rep). Stands core x) (sym c.self.view_is) s in
    let off : c.is_one_image.result ≡ false = search rules in
    let fresh : c.is_repeat.result ≡ false = search rules in
    let none : is_one_image (since_answer core.history) ≡ false = sym (c.is_one_image.ensures core.history k.follows.counts) ∙ off in
    let once : is_repeat core.history c.args.command ≡ false = sym (c.is_repeat.ensures core.history k.follows.counts) ∙ fresh in
    refused_in_page dcs c.args.command core.history c.args.self.now.image.readers c.refusal.result c.rtn.result none once (c.refusal.ensures core.history dcs k.follows.counts none) c.rtn.ensures
