use Rattle.fax_user_agent.specs.Agents.{IsQuiet}
use Rattle.fax_sip_service.proofs.ServiceLemmas.{does, on_err, on_ok}
use Rattle.fax_sip_service.proofs.service.SipService.end_registrations.Goals as goal

pub returns : goal.returns
returns c =
    let outcome = c.leave-outcome.result in
    does IsQuiet IsQuiet outcome _ c.args.self.now _ _ c.self.view_is c.leave-outcome.ensures.queues (on_ok outcome c.leave-outcome.ensures.quiet) (on_err outcome c.leave-outcome.ensures.quiet) c.note.ensures
