use Rattle.fax_sip_service.proofs.ServiceLemmas.{ended_on}
use Rattle.fax_sip_service.proofs.service.SipService.end.Goals as goal

pub returns : goal.returns
returns c = ended_on c.args.now c.args.place _ c.args.self.now _ _ c.self.view_is c.let_go.ensures c.tell_over.ensures
