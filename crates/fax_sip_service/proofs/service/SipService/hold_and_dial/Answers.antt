use Rattle.std.proofs.Common.{subst}
use Rattle.fax_switch.specs.declared.place.Place.{Place}
use Rattle.fax_sip_service.specs.Services.{Holds}
use Rattle.fax_sip_service.proofs.service.SipService.hold_and_dial.Goals as goal

pub returns : goal.returns
returns c = (c.hold.new.self, subst (λ (place : Place). Holds place c.args.self.now c.hold.new.self) c.on_called_leg.ensures c.hold.ensures, c.dial.ensures)
