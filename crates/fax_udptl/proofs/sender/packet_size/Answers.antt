use Rattle.std.proofs.Common.{arith}
use Rattle.fax_udptl.proofs.WrittenLemmas.{short_packet_size, long_packet_size}
use Rattle.fax_udptl.proofs.sender.packet_size.Goals as goal
use Rattle.fax_udptl.proofs.sender.packet_size.Goals.{then-packet-lt128, else-packet-lt128}

pub returns-clause-size : goal.returns-clause-size
returns-clause-size c =
    elim c.if-packet-lt128.branch [
      | then-packet-lt128 w ↦ rw w.result-is (short_packet_size c.args.packet.now w.if-packet-lt128.true)
      | else-packet-lt128 w ↦ rw w.result-is (long_packet_size c.args.packet.now w.if-packet-lt128.false)
    ]

pub overflow_add-result : goal.overflow_add-result
overflow_add-result c =
    elim c.if-packet-lt128.branch [
      | then-packet-lt128 w ↦ omega (arith, c.requires, w.result-is)
      | else-packet-lt128 w ↦ omega (arith, c.requires, w.result-is)
    ]

pub returns-clause-few : goal.returns-clause-few
returns-clause-few c =
    elim c.if-packet-lt128.branch [
      | then-packet-lt128 w ↦ omega (arith, c.requires, w.result-is)
      | else-packet-lt128 w ↦ omega (arith, c.requires, w.result-is)
    ]
