use Rattle.std.proofs.Common.{Option, sym, subst}
use Rattle.std.specs.declared.net.socket_addr.SocketAddr.{SocketAddr}
use Rattle.fax_sip_service.specs.Services.{DialsFrom}
use Rattle.fax_sip_service.proofs.service.SipService.dial_from.Goals as goal

pub returns-in-Some : goal.returns-in-Some
returns-in-Some c =
    subst (λ (leg : Option SocketAddr). DialsFrom c.args.now c.args.on c.args.number.now leg c.args.self.now c.collect.new.self) (sym c.in-Some.is)
    (c.hold_and_dial.new.self, c.hold_and_dial.ensures, c.collect.ensures)
