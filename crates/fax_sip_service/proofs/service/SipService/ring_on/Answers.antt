use Rattle.std.proofs.Common.{Option, sym, subst}
use Rattle.std.specs.declared.net.socket_addr.SocketAddr.{SocketAddr}
use Rattle.fax_switch.specs.declared.place.Place.{Place}
use Rattle.fax_sip_service.specs.Services.{Holds, RingsOn}
use Rattle.fax_sip_service.proofs.service.SipService.ring_on.Goals as goal

pub returns-in-Some : goal.returns-in-Some
returns-in-Some c =
    subst (λ (leg : Option SocketAddr). RingsOn c.args.now c.args.call c.args.on leg c.args.self.now c.tell_rung.new.self) (sym c.in-Some.is)
    (c.hold.new.self, subst (λ (place : Place). Holds place c.args.self.now c.hold.new.self) c.on_calling_leg.ensures c.hold.ensures, c.tell_rung.ensures)
