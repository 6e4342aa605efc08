use Rattle.std.proofs.Common.{refl}
use Rattle.fax_ifp.specs.WrittenPackets.{written_after}
use Rattle.fax_udptl.specs.Datagrams.{written_datagram, written_length, written_packet}
use Rattle.fax_legs.specs.HangUps.{goodbye}
use Rattle.fax_legs.proofs.hang_up.goodbye.Goals as goal

pub returns : goal.returns
unfolding goodbye written_after written_datagram written_length written_packet
returns c = refl
