use Rattle.fax_switch.specs.declared.event.Event.TheVariants.{CallOver}
use Rattle.fax_sip_service.proofs.ServiceLemmas.{tells}
use Rattle.fax_sip_service.proofs.service.SipService.tell_call_over.Goals as goal

pub returns : goal.returns
returns c = tells c.args.now (CallOver c.args.on) c.call_over-outcome.result _ c.args.self.now _ _ c.self.view_is c.call_over-outcome.ensures.queues c.call_over-outcome.ensures.ok c.call_over-outcome.ensures.err c.note.ensures
