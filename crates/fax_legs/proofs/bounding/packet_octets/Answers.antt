use Rattle.fax_udptl.proofs.WrittenLemmas.{short_packet_size, long_packet_size}
use Rattle.fax_legs.proofs.bounding.packet_octets.Goals as goal
use Rattle.fax_legs.proofs.bounding.packet_octets.Goals.{then-packet-lt128, else-packet-lt128}

pub returns-clause-octets : goal.returns-clause-octets
returns-clause-octets c =
    elim c.if-packet-lt128.branch [
      | then-packet-lt128 w ↦ rw w.result-is (short_packet_size c.args.packet.now w.if-packet-lt128.true)
      | else-packet-lt128 w ↦ rw w.result-is (long_packet_size c.args.packet.now w.if-packet-lt128.false)
    ]
