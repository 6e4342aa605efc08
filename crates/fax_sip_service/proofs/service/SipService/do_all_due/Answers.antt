use Rattle.fax_sip_service.proofs.ServiceLemmas.{goes_more}
use Rattle.fax_sip_service.proofs.service.SipService.do_all_due.Goals as goal

pub loop-preserved : goal.loop-preserved
loop-preserved c = goes_more c.args.now _ _ _ c.do_due.result c.loop.invariant c.do_due.ensures.due c.do_due.ensures.nothing
