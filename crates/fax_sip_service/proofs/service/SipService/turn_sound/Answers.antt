use Rattle.fax_sip_service.proofs.ServiceLemmas.{notes_so}
use Rattle.fax_sip_service.proofs.service.SipService.turn_sound.Goals as goal

pub returns : goal.returns
returns c = notes_so c.obey-outcome.result _ c.args.self.now _ c.self.view_is c.note.ensures
