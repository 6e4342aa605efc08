use Rattle.fax_switch.specs.declared.event.Event.TheVariants.{Rung}
use Rattle.fax_sip_service.proofs.ServiceLemmas.{tells}
use Rattle.fax_sip_service.proofs.service.SipService.tell_rung.Goals as goal

pub returns : goal.returns
returns c = tells c.args.now (Rung c.args.call c.args.on) c.rung-outcome.result _ c.args.self.now _ _ c.self.view_is c.rung-outcome.ensures.queues c.rung-outcome.ensures.ok c.rung-outcome.ensures.err c.note.ensures
