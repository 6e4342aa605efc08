use Rattle.fax_sip_service.proofs.service.SipService.hear.Goals as goal

pub returns : goal.returns
returns c = (c.hear_datagram.new.self, c.hear_datagram.ensures, c.collect.ensures)
