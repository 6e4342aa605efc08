use Rattle.std.proofs.Common.{ℕ, List, ◌++◌, ap, arith, ◌∙◌, append_assoc, length}
use Rattle.fax_udptl.specs.Datagrams.{written_length, written_packet}
use Rattle.fax_udptl.proofs.WrittenLemmas.{packet_size_is}
use Rattle.fax_udptl.proofs.sender.put_packet.Goals as goal

pub put_length-requires-clause-room : goal.put_length-requires-clause-room
put_length-requires-clause-room c = omega (arith, packet_size_is c.args.packet.now)

pub put-requires : goal.put-requires
put-requires c = record { room = omega (arith, packet_size_is c.args.packet.now, c.put_length.ensures.len) }

pub returns-clause-items : goal.returns-clause-items
unfolding written_packet
returns-clause-items c =
    c.put.ensures.items
    ∙ ap (λ (os : List ℕ). os ++ c.args.packet.now) c.put_length.ensures.items
    ∙ append_assoc c.args.octets.now.items (written_length (length c.args.packet.now)) c.args.packet.now

pub returns-clause-len : goal.returns-clause-len
returns-clause-len c = omega (arith, packet_size_is c.args.packet.now, c.put_length.ensures.len, c.put.ensures.len)
