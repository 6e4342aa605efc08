use Rattle.std.proofs.Common.{ℕ, List, ◌++◌, ap, arith, ◌∙◌, append_assoc, length, take}
use Rattle.fax_udptl.specs.Datagrams.{written_length, written_packet}
use Rattle.fax_udptl.proofs.WrittenLemmas.{packet_size_is}
use Rattle.fax_legs.proofs.bounding.put_packet.Goals as goal

pub put_length-after-requires-clause-room : goal.put_length-after-requires-clause-room
put_length-after-requires-clause-room c = omega (arith, packet_size_is c.args.packet.now)

pub put-requires : goal.put-requires
put-requires c = record { room = omega (arith, packet_size_is c.args.packet.now, c.put_length-after.ensures.end, c.put_length-after.ensures.same_room) }

pub returns-clause-front : goal.returns-clause-front
unfolding written_packet
returns-clause-front c =
    c.put.ensures.front
    ∙ ap (λ (os : List ℕ). os ++ c.args.packet.now) c.put_length-after.ensures.front
    ∙ append_assoc (take c.args.from c.args.room.now) (written_length (length c.args.packet.now)) c.args.packet.now

pub returns-clause-end : goal.returns-clause-end
returns-clause-end c = omega (arith, packet_size_is c.args.packet.now, c.put_length-after.ensures.end, c.put.ensures.end)
