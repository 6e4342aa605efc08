use Rattle.fax_switch.specs.declared.event.Event.TheVariants.{JobOver}
use Rattle.fax_sip_service.proofs.ServiceLemmas.{tells}
use Rattle.fax_sip_service.proofs.service.SipService.tell_job_over.Goals as goal

pub returns : goal.returns
returns c = tells c.args.now (JobOver c.args.on) c.job_over-outcome.result _ c.args.self.now _ _ c.self.view_is c.job_over-outcome.ensures.queues c.job_over-outcome.ensures.ok c.job_over-outcome.ensures.err c.note.ensures
