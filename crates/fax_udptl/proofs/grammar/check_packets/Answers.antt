use Rattle.std.proofs.Common.{◌≡◌, ◌-◌, ◌+◌, ℕ, sym, ◌∙◌, ap, arith}
use Rattle.std.proofs.lemmas.Result.{err_from_is_err_and}
use Rattle.fax_udptl.specs.Datagrams.{packets_at}
use Rattle.fax_udptl.specs.Reading.{fault_in}
use Rattle.fax_udptl.proofs.PacketLemmas.{fault_after, fault_first, read_with_fault, packets_that_stand, stands, all_checked}
use Rattle.fax_udptl.proofs.grammar.check_packets.Goals as goal

pub returns-in_err-after-clause-gives : goal.returns-in_err-after-clause-gives
returns-in_err-after-clause-gives c =
    let p = err_from_is_err_and c.from_residual.result c.from_residual.ensures.1 in
    rw (p.1, p.2)
    (read_with_fault (packets_at c.args.count c.args.octets.now) _
    (sym c.loop.invariant ∙ fault_first (c.args.count - c.loop.counter) c.loop.rest.now _ (omega arith) c.in_err-after.ensures))

pub loop-preserved : goal.loop-preserved
loop-preserved c =
    let less : c.args.count - (c.loop.counter + 1) ≡ c.args.count - c.loop.counter - 1 = omega arith in
    ap (λ (n : ℕ). fault_in (packets_at n c.in_ok-after.after.now)) less
    ∙ sym (fault_after (c.args.count - c.loop.counter) c.loop.rest.now _ _ (omega arith) c.in_ok-after.ensures)
    ∙ c.loop.invariant

pub returns-clause-stand : goal.returns-clause-stand
returns-clause-stand c =
    stands c.args.count c.args.octets.now (all_checked c.args.octets.now c.loop.rest.now _ (c.args.count - c.loop.counter) (omega arith) c.loop.invariant)

pub returns-clause-gives : goal.returns-clause-gives
returns-clause-gives c =
    packets_that_stand c.args.count c.args.octets.now
    (all_checked c.args.octets.now c.loop.rest.now _ (c.args.count - c.loop.counter) (omega arith) c.loop.invariant)
