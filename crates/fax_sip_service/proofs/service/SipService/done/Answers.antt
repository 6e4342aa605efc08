use Rattle.std.proofs.Common.{sym, ◌∙◌}
use Rattle.fax_sip_service.proofs.ServiceLemmas.{answered_if, none_waits}
use Rattle.fax_sip_service.proofs.service.SipService.done.Goals as goal

pub returns-in-Some : goal.returns-in-Some
returns-in-Some c =
    answered_if c.args.now c.in-Some.said _ c.args.reply c.args.self.now _ _ (sym c.take_waits.ensures.said ∙ c.in-Some.is) c.take_waits.ensures.rest c.answered.ensures

pub returns-in-None : goal.returns-in-None
returns-in-None c = none_waits c.args.now c.args.reply c.args.self.now _ (sym c.take_waits.ensures.said ∙ c.in-None.is) c.take_waits.ensures.rest
