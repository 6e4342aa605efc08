use Rattle.std.proofs.Common.{◌≡◌, ◌+◌, ◌-◌, ◌++◌, ℕ, List, ◌∷◌, take, ap, ◌∙◌, sym, append_assoc, arith, length}
use Rattle.std.specs.Prelude.{flat_map}
use Rattle.fax_udptl.specs.Datagrams.{written_packet}
use Rattle.fax_udptl.proofs.WrittenLemmas.{packets_size, packets_size_more}
use Rattle.fax_legs.proofs.Bounds.{short_after_first, take_first_of}
use Rattle.fax_legs.proofs.bounding.put_packets.Goals as goal

pub loop-more-preserved : goal.loop-more-preserved
loop-more-preserved c =
    let first : take c.loop-more.more c.loop-more.left ≡ c.in-Some.packet.now ∷ take (c.loop-more.more - 1) c.next.new.self =
    take_first_of c.loop-more.more c.loop-more.left c.next.new.self c.in-Some.packet.now c.loop-more-test.true c.in-Some.ensures.steps in
    let size : packets_size (take c.loop-more.more c.loop-more.left) ≡ length (written_packet c.in-Some.packet.now) + packets_size (take (c.loop-more.more - 1) c.next.new.self) =
    packets_size_more (take c.loop-more.more c.loop-more.left) (take (c.loop-more.more - 1) c.next.new.self) c.in-Some.packet.now first in
    record {
      front = ap (λ (os : List ℕ). os ++ flat_map written_packet (take (c.loop-more.more - 1) c.next.new.self)) c.put_packet-end.ensures.front
          ∙ append_assoc (take c.loop-more.end c.loop-more.room) (written_packet c.in-Some.packet.now) (flat_map written_packet (take (c.loop-more.more - 1) c.next.new.self))
          ∙ sym (ap (λ (ps : List (List ℕ)). take c.loop-more.end c.loop-more.room ++ flat_map written_packet ps) first)
          ∙ c.loop-more.invariant.front;
      end = omega (arith, size, c.put_packet-end.ensures.end, c.loop-more.invariant.end);
      same_room = c.put_packet-end.ensures.same_room ∙ c.loop-more.invariant.same_room;
      short = short_after_first c.loop-more.left c.next.new.self c.in-Some.packet.now c.in-Some.ensures.steps c.loop-more.invariant.short;
    }
