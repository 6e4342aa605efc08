use Rattle.fax_sip.specs.Messages.{message_of}
use Rattle.fax_sip_service.proofs.ServiceLemmas.{heard_whole, heard_part}
use Rattle.fax_sip_service.proofs.service.SipService.hear_datagram.Goals as goal

pub returns-in-Ok : goal.returns-in-Ok
returns-in-Ok c = heard_whole c.args.now c.args.from (message_of c.args.octets.now) c.in-Ok.heard c.hear.result _ c.args.self.now _ _ c.self.view_is c.hear.ensures.queues c.hear.ensures.heard c.in-Ok.is c.count_dropped.ensures

pub returns-in-Err : goal.returns-in-Err
returns-in-Err c = heard_part c.args.now c.args.from (message_of c.args.octets.now) _ c.hear.result _ c.args.self.now _ _ c.self.view_is c.hear.ensures.queues c.hear.ensures.heard c.in-Err.is c.note.ensures
