use Rattle.fax_sip_service.specs.Services.{GoesOn}
use Rattle.fax_sip_service.proofs.service.SipService.do_all_due.Given as goal

abbrev pub invariant-loop : goal.invariant-loop
invariant-loop l = GoesOn l.now l.initial.self l.self
