use Rattle.fax_sip_service.proofs.ServiceLemmas.{dials_part, dials_whole}
use Rattle.fax_sip_service.proofs.service.SipService.tell_dialled.Goals as goal

-- the octets are those of the number
pub returns-in-Ok-clause-ok : goal.returns-in-Ok-clause-ok
returns-in-Ok-clause-ok c =
    dials_whole c.args.now c.args.on c.as_bytes.result.now c.args.number.now _ c.args.self.now c.dialled.new.self c.self.view_is c.as_bytes.ensures.octets c.dialled.ensures.queues c.in-Ok.ensures.ok

pub returns-in-Err-clause-err : goal.returns-in-Err-clause-err
returns-in-Err-clause-err c =
    dials_part c.args.now c.args.on c.as_bytes.result.now c.args.number.now _ c.args.self.now c.dialled.new.self c.note.new.self c.self.view_is c.as_bytes.ensures.octets c.dialled.ensures.queues c.in-Err.ensures.err c.note.ensures
