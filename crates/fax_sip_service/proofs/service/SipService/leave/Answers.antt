use Rattle.std.proofs.Common.{sym, ◌∙◌}
use Rattle.fax_sip_service.proofs.ServiceLemmas.{leaves_now, left_before}
use Rattle.fax_sip_service.proofs.service.SipService.leave.Goals as goal

pub returns-in-true : goal.returns-in-true
returns-in-true c = left_before c.args.now c.args.self.now _ (sym c.begin_leaving.ensures.before ∙ c.in-true.is) c.begin_leaving.ensures.rest

pub returns-in-false : goal.returns-in-false
returns-in-false c = leaves_now c.args.now _ c.args.self.now _ _ (sym c.begin_leaving.ensures.before ∙ c.in-false.is) c.begin_leaving.ensures.rest c.say_goodbye.ensures
