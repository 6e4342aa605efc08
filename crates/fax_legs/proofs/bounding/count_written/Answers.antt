use Rattle.std.proofs.Common.{◌≡◌, ◌+◌, ◌<◌, length, inr, sym, ◌∙◌, arith}
use Rattle.fax_udptl.specs.Datagrams.{written_datagram}
use Rattle.fax_legs.proofs.Bounds.{written_size}
use Rattle.fax_legs.proofs.bounding.count_written.Goals as goal

pub returns-then-own-size-clause-none : goal.returns-then-own-size-clause-none
returns-then-own-size-clause-none c =
    let few : length c.secondaries.result < 128 = omega (arith, c.in_ok-count.ensures.count, c.in_ok-count.ensures.below) in
    let whole : c.packet_octets-own.result + 4 + c.in_ok-count.size ≡ length (written_datagram c.args.datagram.now) =
    written_size c.args.datagram.now c.packet_octets-own.result c.in_ok-count.size c.primary-2.result.now c.secondaries.result
    c.primary-2.ensures c.secondaries.ensures c.packet_octets-own.ensures.octets c.in_ok-count.ensures.octets few in
    inr (λ e. c.if-own-size.true (whole ∙ e))

pub returns-clause-octets : goal.returns-clause-octets
returns-clause-octets c =
    let few : length c.secondaries.result < 128 = omega (arith, c.in_ok-count.ensures.count, c.in_ok-count.ensures.below) in
    let whole : c.packet_octets-own.result + 4 + c.in_ok-count.size ≡ length (written_datagram c.args.datagram.now) =
    written_size c.args.datagram.now c.packet_octets-own.result c.in_ok-count.size c.primary-2.result.now c.secondaries.result
    c.primary-2.ensures c.secondaries.ensures c.packet_octets-own.ensures.octets c.in_ok-count.ensures.octets few in
    sym whole ∙ c.if-own-size.false
