use Rattle.fax_sip_service.proofs.service.SipService.go_on.Goals as goal

pub returns : goal.returns
returns c = (c.do_all_due.new.self, c.do_all_due.ensures, c.collect.ensures)
