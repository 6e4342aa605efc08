use Rattle.fax_sip_service.proofs.service.SipService.answered.Goals as goal

pub returns : goal.returns
returns c = (c.hear_reply.new.self, c.hear_reply.ensures, c.collect.ensures)
