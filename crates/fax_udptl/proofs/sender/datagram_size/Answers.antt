use Rattle.std.proofs.Common.{◌≡◌, ◌+◌, ◌<◌, length, arith, ◌∙◌}
use Rattle.fax_udptl.specs.Datagrams.{written_packet}
use Rattle.fax_udptl.proofs.WrittenLemmas.{packets_size, datagram_size_is}
use Rattle.fax_udptl.proofs.sender.datagram_size.Goals as goal

pub returns-clause-size : goal.returns-clause-size
returns-clause-size c = λ number.
    let few : length c.args.last.now.items < 128 = omega arith in
    let whole : 4 + c.packet_size.result + c.packets_size.result ≡ 4 + length (written_packet c.args.packet.now) + packets_size c.args.last.now.items = omega (arith, c.packet_size.ensures.size, c.packets_size.ensures.size) in
    whole ∙ datagram_size_is number c.args.packet.now c.args.last.now.items few
