use Rattle.fax_sip_service.proofs.ServiceLemmas.{ends_all}
use Rattle.fax_sip_service.proofs.service.SipService.end_all.Goals as goal

pub returns : goal.returns
returns c = ends_all c.args.now _ c.args.self.now _ _ _ c.take_places-places.ensures.places c.take_places-places.ensures.rest c.tell_all_over.ensures c.collect.ensures
