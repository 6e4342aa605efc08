use Rattle.std.proofs.Common.{Option, subst}
use Rattle.fax_sip_service.specs.declared.said.Said.{Said}
use Rattle.fax_sip_service.specs.Services.{KeepsIf}
use Rattle.fax_sip_service.proofs.service.SipService.take_order.Goals as goal

pub returns : goal.returns
returns c =
    (c.turn_sound.new.self, c.turn_sound.ensures, subst (λ (it : Option Said). KeepsIf c.args.now it c.turn_sound.new.self c.keep_if.new.self) c.said_of.ensures c.keep_if.ensures)
