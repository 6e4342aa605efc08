use Rattle.fax_switch.specs.declared.event.Event.TheVariants.{NotRung}
use Rattle.fax_sip_service.proofs.ServiceLemmas.{tells}
use Rattle.fax_sip_service.proofs.service.SipService.tell_not_rung.Goals as goal

pub returns : goal.returns
returns c = tells c.args.now (NotRung c.args.call 503) c.not_rung-outcome.result _ c.args.self.now _ _ c.self.view_is c.not_rung-outcome.ensures.queues c.not_rung-outcome.ensures.ok c.not_rung-outcome.ensures.err c.note.ensures
