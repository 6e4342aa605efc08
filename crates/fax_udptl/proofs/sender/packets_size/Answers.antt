use Rattle.std.proofs.Common.{◌≡◌, ℕ, List, ◌+◌, length, add-one, arith, sym, ◌∙◌, ap}
use Rattle.fax_udptl.specs.Datagrams.{written_packet}
use Rattle.fax_udptl.proofs.WrittenLemmas.{packets_size, packets_size_more, short_after, no_packets_size}
use Rattle.fax_udptl.proofs.sender.packets_size.Goals as goal

pub loop-packet-preserved : goal.loop-packet-preserved
loop-packet-preserved c =
    let more : packets_size c.loop-packet.packet-iterator ≡ length (written_packet c.in-Some.packet.now) + packets_size c.next.new.self =
    packets_size_more c.loop-packet.packet-iterator c.next.new.self c.in-Some.packet.now c.in-Some.ensures.steps in
    let here : c.packet_size-size.result ≡ length (written_packet c.in-Some.packet.now) =
    c.packet_size-size.ensures.size ∙ ap (λ (p : List ℕ). length (written_packet p)) c.as_slice.ensures in
    let one : length c.loop-packet.packet-iterator ≡ length c.next.new.self + 1 = ap length c.in-Some.ensures.steps ∙ sym (add-one (length c.next.new.self)) in
    record {
      size = omega (arith, more, here);
      bound = omega (arith, one);
      short = short_after c.loop-packet.packet-iterator c.next.new.self c.in-Some.packet.now c.in-Some.ensures.steps c.loop-packet.invariant.short;
    }

pub returns-clause-size : goal.returns-clause-size
returns-clause-size c =
    let none : packets_size c.loop-packet.packet-iterator ≡ 0 = no_packets_size c.loop-packet.packet-iterator c.in-None.ensures.steps.0 in
    let whole : c.loop-packet.size ≡ packets_size c.args.packets.now.items = omega (arith, none, c.loop-packet.invariant.size) in
    whole
