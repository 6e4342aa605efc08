use Rattle.std.proofs.Common.{◌≡◌, ◌++◌, List, Bool, true, cond, sym, subst}
use Rattle.std.specs.List.{count_by}
use Rattle.fax_gateway.specs.Reached.{GatewayValue}
use Rattle.fax_gateway.specs.Reached.{IsReachedBy}
use Rattle.fax_gateway.specs.Driving.{AreWanting, Entry, IsRingIf, events, is_refused_ring}
use Rattle.fax_gateway.proofs.DrivingLemmas.{rings_so}
use Rattle.fax_gateway.proofs.run.ring_if.Goals as goal

pub returns-clause-rung : goal.returns-clause-rung
returns-clause-rung g c setup writes trace reached =
    let new : GatewayValue = c.ring.new.self in
    let h = rings_so setup writes trace c.args.now c.args.gateway.now new c.ring.result c.ring.ensures.rung (c.ring.ensures.busy setup writes trace reached) (c.ring.ensures.no_number setup writes trace reached) c.ring.ensures.err reached in
    subst (λ (b : Bool). (log : List Entry) × IsRingIf b c.args.now log × (count_by is_refused_ring log ≡ cond c.is_err.result 1 0) × IsReachedBy setup writes (events log ++ trace) new × AreWanting setup writes trace log) (sym c.if-not-is_due.false)
    (subst (λ (b : Bool). (log : List Entry) × IsRingIf true c.args.now log × (count_by is_refused_ring log ≡ cond b 1 0) × IsReachedBy setup writes (events log ++ trace) new × AreWanting setup writes trace log) (sym c.is_err.ensures.value) h)
