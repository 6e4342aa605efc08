use Rattle.fax_call.proofs.ClosedPackets.{gives_closed_packets}
use Rattle.fax_call.proofs.laws.gives_closed_packets.Goals as goal

pub returns : goal.returns
returns c = gives_closed_packets
