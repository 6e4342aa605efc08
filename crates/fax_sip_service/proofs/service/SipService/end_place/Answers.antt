use Rattle.fax_sip_service.proofs.service.SipService.end_place.Goals as goal

pub returns : goal.returns
returns c = (c.end.new.self, c.end.ensures, c.collect.ensures)
