use Rattle.std.proofs.Common.{◌≡◌, ℕ, List, ◌++◌, ◌+◌, ◌<◌, ◌≤◌, ◌∙◌, ap, refl, sym, arith, length, take}
use Rattle.std.specs.Int.{w16, to_be_bytes}
use Rattle.std.specs.Prelude.{flat_map}
use Rattle.std.proofs.lemmas.List.{length-take-le}
use Rattle.fax_udptl.specs.Datagrams.{DatagramValue, written_datagram, written_length, written_packet}
use Rattle.fax_udptl.proofs.WrittenLemmas.{datagram_parts, datagram_room, one_octet, packets_size}
use Rattle.fax_legs.specs.Bounding.{fewer}
use Rattle.fax_legs.proofs.bounding.write.Goals as goal

-- the parts of what is written have room
has_room : (d : DatagramValue) (count room : ℕ) → count ≤ length d.secondaries → count < 128 → length (written_datagram (fewer count d)) ≤ room
    → 4 + length (written_packet d.primary) + packets_size (take count d.secondaries) ≤ room
has_room d count room within below fits = datagram_room d.number d.primary (take count d.secondaries) room (omega (arith, length-take-le count d.secondaries within)) fits

pub put-number-requires : goal.put-number-requires
put-number-requires c =
    let whole = has_room c.args.datagram.now c.args.count (length c.args.room.now) c.requires.count c.requires.below c.requires.room in
    record { room = omega (arith, whole, ap length c.to_be_bytes.ensures) }

pub put_packet-primary-requires-clause-room : goal.put_packet-primary-requires-clause-room
put_packet-primary-requires-clause-room c =
    let whole = has_room c.args.datagram.now c.args.count (length c.args.room.now) c.requires.count c.requires.below c.requires.room in
    let own : length (written_packet c.primary.result.now) ≡ length (written_packet c.args.datagram.now.primary) = ap (λ (q : List ℕ). length (written_packet q)) c.primary.ensures in
    omega (arith, whole, own, ap length c.to_be_bytes.ensures, c.put-number.ensures.end, c.put-number.ensures.same_room)

pub put-choice-requires : goal.put-choice-requires
put-choice-requires c =
    let whole = has_room c.args.datagram.now c.args.count (length c.args.room.now) c.requires.count c.requires.below c.requires.room in
    let own : length (written_packet c.primary.result.now) ≡ length (written_packet c.args.datagram.now.primary) = ap (λ (q : List ℕ). length (written_packet q)) c.primary.ensures in
    record { room = omega (arith, whole, own, ap length c.to_be_bytes.ensures, c.put-number.ensures.end, c.put-number.ensures.same_room, c.put_packet-primary.ensures.end, c.put_packet-primary.ensures.same_room) }

pub put-after-requires : goal.put-after-requires
put-after-requires c =
    let whole = has_room c.args.datagram.now c.args.count (length c.args.room.now) c.requires.count c.requires.below c.requires.room in
    let own : length (written_packet c.primary.result.now) ≡ length (written_packet c.args.datagram.now.primary) = ap (λ (q : List ℕ). length (written_packet q)) c.primary.ensures in
    record { room = omega (arith, whole, own, ap length c.to_be_bytes.ensures, c.put-number.ensures.end, c.put-number.ensures.same_room, c.put_packet-primary.ensures.end, c.put_packet-primary.ensures.same_room, c.put-choice.ensures.end, c.put-choice.ensures.same_room) }

pub put_packets-requires-clause-room : goal.put_packets-requires-clause-room
put_packets-requires-clause-room c =
    let whole = has_room c.args.datagram.now c.args.count (length c.args.room.now) c.requires.count c.requires.below c.requires.room in
    let own : length (written_packet c.primary.result.now) ≡ length (written_packet c.args.datagram.now.primary) = ap (λ (q : List ℕ). length (written_packet q)) c.primary.ensures in
    let others : packets_size (take c.args.count c.secondaries.result) ≡ packets_size (take c.args.count c.args.datagram.now.secondaries) =
    ap (λ (ps : List (List ℕ)). packets_size (take c.args.count ps)) c.secondaries.ensures in
    omega (arith, whole, own, others, ap length c.to_be_bytes.ensures, c.put-number.ensures.end, c.put-number.ensures.same_room, c.put_packet-primary.ensures.end, c.put_packet-primary.ensures.same_room, c.put-choice.ensures.end, c.put-choice.ensures.same_room, c.put-after.ensures.end, c.put-after.ensures.same_room)

pub returns-clause-front : goal.returns-clause-front
returns-clause-front c =
    let fits : c.args.datagram.now.number < 65536 = omega (arith, c.number.ensures) in
    let primary = take c.put_packet-primary.result c.put_packet-primary.new.room in
    let choice = take c.put-choice.result c.put-choice.new.room in
    let after = take c.put-after.result c.put-after.new.room in
    datagram_parts (fewer c.args.count c.args.datagram.now) (take 0 c.args.room.now) (take c.put-number.result c.put-number.new.room) primary choice after
    (take c.put_packets.result c.put_packets.new.room) c.to_be_bytes.result
    refl (c.to_be_bytes.ensures ∙ ap (λ (n : ℕ). to_be_bytes w16 n) c.number.ensures) fits c.put-number.ensures.front
    (c.put_packet-primary.ensures.front ∙ ap (λ (q : List ℕ). take c.put-number.result c.put-number.new.room ++ written_packet q) c.primary.ensures)
    c.put-choice.ensures.front
    (c.put-after.ensures.front ∙ ap (λ (os : List ℕ). take c.put-choice.result c.put-choice.new.room ++ os)
    (one_octet c.args.count c.requires.below ∙ ap written_length (sym (length-take-le c.args.count c.args.datagram.now.secondaries c.requires.count))))
    (c.put_packets.ensures.front ∙ ap (λ (ps : List (List ℕ)). take c.put-after.result c.put-after.new.room ++ flat_map written_packet (take c.args.count ps)) c.secondaries.ensures)
