use Rattle.fax_loop.proofs.SocketLemmas.{end_receives}
use Rattle.fax_loop.proofs.udp_end.UdpEndEnd.receive.Goals as goal

pub returns-in-Ok-clause-received : goal.returns-in-Ok-clause-received
returns-in-Ok-clause-received g c = end_receives c.receive_octets.new.buffer c.receive_octets.result c.in-Ok.came _ _ c.in-Ok.is c.receive_octets.ensures.received
