use Rattle.std.proofs.Common.{◌≡◌, ℕ, ◌+◌, ◌-◌, ◌<◌, ◌≤◌, suc, length, add-one, arith, ap, sym, ◌∙◌}
use Rattle.fax_udptl.specs.Datagrams.{written_packet}
use Rattle.fax_legs.specs.Bounding.{fitting}
use Rattle.fax_legs.proofs.Bounds.{fit_full, fit_more, fit_of_none, fit_spent}
use Rattle.fax_legs.proofs.bounding.count_fitting.Goals as goal

pub returns-in_default-clause-count : goal.returns-in_default-clause-count
returns-in_default-clause-count c =
    let none : fitting c.loop-more.more c.loop-more.room c.loop-more.left ≡ 0 = fit_of_none c.loop-more.more c.loop-more.room c.loop-more.left c.in_default.ensures.steps.0 in
    omega (arith, none, c.loop-more.invariant.count)

pub returns-then-size-room-clause-count : goal.returns-then-size-room-clause-count
returns-then-size-room-clause-count c =
    let full : c.loop-more.room < length (written_packet c.in-Some.packet.now) = omega (arith, c.packet_octets-size.ensures.octets, c.if-size-room.true) in
    let none : fitting c.loop-more.more c.loop-more.room c.loop-more.left ≡ 0 =
    fit_full c.loop-more.more c.loop-more.room c.loop-more.left c.next.new.self c.in-Some.packet.now c.loop-more-test.true c.in-Some.ensures.steps full in
    omega (arith, none, c.loop-more.invariant.count)

pub loop-more-preserved : goal.loop-more-preserved
loop-more-preserved c =
    let fits : length (written_packet c.in-Some.packet.now) ≤ c.loop-more.room = omega (arith, c.packet_octets-size.ensures.octets, c.if-size-room.false) in
    let one_more : fitting c.loop-more.more c.loop-more.room c.loop-more.left ≡ suc (fitting (c.loop-more.more - 1) (c.loop-more.room - length (written_packet c.in-Some.packet.now)) c.next.new.self) =
    fit_more c.loop-more.more c.loop-more.room c.loop-more.left c.next.new.self c.in-Some.packet.now c.loop-more-test.true c.in-Some.ensures.steps fits in
    let here : fitting (c.loop-more.more - 1) (c.loop-more.room - c.packet_octets-size.result) c.next.new.self ≡ fitting (c.loop-more.more - 1) (c.loop-more.room - length (written_packet c.in-Some.packet.now)) c.next.new.self =
    ap (λ (m : ℕ). fitting (c.loop-more.more - 1) (c.loop-more.room - m) c.next.new.self) c.packet_octets-size.ensures.octets in
    let one : length c.loop-more.left ≡ length c.next.new.self + 1 = ap length c.in-Some.ensures.steps ∙ sym (add-one (length c.next.new.self)) in
    record {
      count = omega (arith, one_more, here, c.loop-more.invariant.count);
      few = omega (arith, one, c.loop-more.invariant.few);
      turns = omega (arith, c.loop-more-test.true, c.loop-more.invariant.turns);
    }

pub returns-clause-count : goal.returns-clause-count
returns-clause-count c =
    let none : fitting c.loop-more.more c.loop-more.room c.loop-more.left ≡ 0 =
    fit_spent c.loop-more.more c.loop-more.room c.loop-more.left (omega (arith, c.loop-more-test.false)) in
    omega (arith, none, c.loop-more.invariant.count)
