use Rattle.std.proofs.Common.{◌≡◌, ◌+◌, ◌++◌, ℕ, List, ap, ◌∙◌, sym, append_assoc, flat_map, arith, length}
use Rattle.fax_udptl.specs.Datagrams.{written_packet}
use Rattle.fax_udptl.proofs.WrittenLemmas.{packets_size, packets_size_more, short_after}
use Rattle.fax_udptl.proofs.sender.put_packets.Goals as goal

pub put_packet-requires-clause-room : goal.put_packet-requires-clause-room
put_packet-requires-clause-room c =
    let more : packets_size c.loop-packet.packet-iterator ≡ length (written_packet c.in-Some.packet.now) + packets_size c.next.new.self =
    packets_size_more c.loop-packet.packet-iterator c.next.new.self c.in-Some.packet.now c.in-Some.ensures.steps in
    let here : length (written_packet c.as_slice.result.now) ≡ length (written_packet c.in-Some.packet.now) = ap (λ (p : List ℕ). length (written_packet p)) c.as_slice.ensures in
    omega (arith, more, here, c.loop-packet.invariant.room)

pub loop-packet-preserved : goal.loop-packet-preserved
loop-packet-preserved c =
    let more : packets_size c.loop-packet.packet-iterator ≡ length (written_packet c.in-Some.packet.now) + packets_size c.next.new.self =
    packets_size_more c.loop-packet.packet-iterator c.next.new.self c.in-Some.packet.now c.in-Some.ensures.steps in
    let here : length (written_packet c.as_slice.result.now) ≡ length (written_packet c.in-Some.packet.now) = ap (λ (p : List ℕ). length (written_packet p)) c.as_slice.ensures in
    record {
      written = ap (λ (os : List ℕ). os ++ flat_map written_packet c.next.new.self) c.put_packet.ensures.items
          ∙ append_assoc c.loop-packet.octets.items (written_packet c.as_slice.result.now) (flat_map written_packet c.next.new.self)
          ∙ ap (λ (p : List ℕ). c.loop-packet.octets.items ++ (written_packet p ++ flat_map written_packet c.next.new.self)) c.as_slice.ensures
          ∙ sym (ap (λ (ps : List (List ℕ)). c.loop-packet.octets.items ++ flat_map written_packet ps) c.in-Some.ensures.steps)
          ∙ c.loop-packet.invariant.written;
      room = omega (arith, more, here, c.loop-packet.invariant.room, c.put_packet.ensures.len, c.put_packet.ensures.capacity);
      short = short_after c.loop-packet.packet-iterator c.next.new.self c.in-Some.packet.now c.in-Some.ensures.steps c.loop-packet.invariant.short;
    }
