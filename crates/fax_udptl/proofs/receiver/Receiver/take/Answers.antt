use Rattle.std.proofs.Common.{◌<◌, arith, sym, ◌∙◌}
use Rattle.fax_udptl.proofs.TakingLemmas.{first_taken, later_taken, late_taken}
use Rattle.fax_udptl.proofs.receiver.Receiver.take.Goals as goal

pub returns-in_default-clause-taken : goal.returns-in_default-clause-taken
returns-in_default-clause-taken c =
    rw c.number-number.ensures
    (first_taken c.args.octets.now c.in_ok-datagram.datagram c.args.self.now c.by_first.result c.in_ok-datagram.ensures (sym c.self.view_is ∙ c.in_default.is)
    c.by_first.ensures.few c.by_first.ensures.made)

pub returns-in_default-distance-clause-taken : goal.returns-in_default-distance-clause-taken
returns-in_default-distance-clause-taken c =
    late_taken c.args.octets.now c.in_ok-datagram.datagram c.args.self.now c.in-Some.expected c.by_late.result c.in_ok-datagram.ensures (sym c.self.view_is ∙ c.in-Some.is)
    (λ e big same. rw (← c.number-number.ensures) (c.in_default-distance.ensures e big same)) c.by_late.ensures

pub returns-clause-taken : goal.returns-clause-taken
returns-clause-taken c =
    let fits : c.in_ok-datagram.datagram.number < 65536 = omega arith in
    rw c.number-number.ensures
    (later_taken c.args.octets.now c.in_ok-datagram.datagram c.args.self.now c.in-Some.expected c.in-Some-distance.ahead c.by_later.result c.in_ok-datagram.ensures
    (sym c.self.view_is ∙ c.in-Some.is) fits (λ e big same. rw (← c.number-number.ensures) (c.in-Some-distance.ensures e big same)) c.by_later.ensures)
