use Rattle.std.proofs.Common.{◌≡◌, ℕ, ◌++◌, ◌+◌, ◌≤◌, ◌∙◌, ap, sym, arith, ◌<◌, length, vec_capacity}
use Rattle.fax_udptl.specs.Datagrams.{written_length, written_packet}
use Rattle.fax_udptl.proofs.WrittenLemmas.{datagram_parts, datagram_room, length_of_short, no_octets, packets_size}
use Rattle.fax_udptl.proofs.sender.put_datagram.Goals as goal

pub put-requires : goal.put-requires
put-requires c =
    let whole : 4 + length (written_packet c.args.packet.now) + packets_size c.args.last.now.items ≤ vec_capacity c.args.octets.now =
    datagram_room c.args.number c.args.packet.now c.args.last.now.items (vec_capacity c.args.octets.now) (omega arith) c.requires.room in
    record { room = omega (arith, whole, c.requires.empty, ap length c.to_be_bytes.ensures) }

pub put_packet-requires-clause-room : goal.put_packet-requires-clause-room
put_packet-requires-clause-room c =
    let whole : 4 + length (written_packet c.args.packet.now) + packets_size c.args.last.now.items ≤ vec_capacity c.args.octets.now =
    datagram_room c.args.number c.args.packet.now c.args.last.now.items (vec_capacity c.args.octets.now) (omega arith) c.requires.room in
    omega (arith, whole, c.requires.empty, ap length c.to_be_bytes.ensures, c.put.ensures.len, c.put.ensures.capacity)

pub push_reserved-requires : goal.push_reserved-requires
push_reserved-requires c =
    let whole : 4 + length (written_packet c.args.packet.now) + packets_size c.args.last.now.items ≤ vec_capacity c.args.octets.now =
    datagram_room c.args.number c.args.packet.now c.args.last.now.items (vec_capacity c.args.octets.now) (omega arith) c.requires.room in
    omega (arith, whole, c.requires.empty, ap length c.to_be_bytes.ensures, c.put.ensures.len, c.put.ensures.capacity, c.put_packet.ensures.len, c.put_packet.ensures.capacity)

pub put_length-requires-clause-room : goal.put_length-requires-clause-room
put_length-requires-clause-room c =
    let whole : 4 + length (written_packet c.args.packet.now) + packets_size c.args.last.now.items ≤ vec_capacity c.args.octets.now =
    datagram_room c.args.number c.args.packet.now c.args.last.now.items (vec_capacity c.args.octets.now) (omega arith) c.requires.room in
    let one : length (written_length c.len-count.result) ≡ 1 = length_of_short c.len-count.result (omega arith) in
    omega (arith, whole, one, c.requires.empty, ap length c.to_be_bytes.ensures, c.put.ensures.len, c.put.ensures.capacity, c.put_packet.ensures.len, c.put_packet.ensures.capacity, c.push_reserved.ensures.len, c.push_reserved.ensures.capacity)

pub put_packets-requires-clause-room : goal.put_packets-requires-clause-room
put_packets-requires-clause-room c =
    let whole : 4 + length (written_packet c.args.packet.now) + packets_size c.args.last.now.items ≤ vec_capacity c.args.octets.now =
    datagram_room c.args.number c.args.packet.now c.args.last.now.items (vec_capacity c.args.octets.now) (omega arith) c.requires.room in
    let one : length (written_length c.len-count.result) ≡ 1 = length_of_short c.len-count.result (omega arith) in
    omega (arith, whole, one, c.requires.empty, ap length c.to_be_bytes.ensures, c.put.ensures.len, c.put.ensures.capacity, c.put_packet.ensures.len, c.put_packet.ensures.capacity, c.push_reserved.ensures.len, c.push_reserved.ensures.capacity, c.put_length.ensures.len, c.put_length.ensures.capacity)

pub returns : goal.returns
returns c =
    let fits : c.args.number < 65536 = omega arith in
    datagram_parts (record { number = c.args.number; primary = c.args.packet.now; secondaries = c.args.last.now.items })
    c.args.octets.now.items c.put.new.octets.items c.put_packet.new.octets.items c.push_reserved.new.self.items c.put_length.new.octets.items c.put_packets.new.octets.items
    c.to_be_bytes.result
    (no_octets c.args.octets.now.items (sym c.args.octets.now.ok.0 ∙ c.requires.empty)) c.to_be_bytes.ensures fits c.put.ensures.items c.put_packet.ensures.items c.push_reserved.ensures.items
    (c.put_length.ensures.items ∙ ap (λ (n : ℕ). c.push_reserved.new.self.items ++ written_length n) c.len-count.ensures.len) c.put_packets.ensures
