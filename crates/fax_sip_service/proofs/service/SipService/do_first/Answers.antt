use Rattle.fax_user_agent.specs.Agents.{HearsSome, MayHearInPart}
use Rattle.fax_user_agent.specs.Dues.{MayBeDue}
use Rattle.fax_sip_service.proofs.ServiceLemmas.{does}
use Rattle.fax_sip_service.proofs.service.SipService.do_first.Goals as goal

pub returns : goal.returns
returns c = does (HearsSome MayBeDue c.args.now) (MayHearInPart MayBeDue c.args.now) c.go_on-outcome.result _ c.args.self.now _ _ c.self.view_is c.go_on-outcome.ensures.queues c.go_on-outcome.ensures.ok c.go_on-outcome.ensures.err c.note.ensures
