use Rattle.std.proofs.Common.{Bool, sym, subst}
use Rattle.fax_gateway.specs.declared.leg.Leg.{Leg}
use Rattle.fax_gateway.specs.declared.leg.Leg.TheVariants as legs
use Rattle.fax_gateway.specs.Reached.{GatewayValue}
use Rattle.fax_gateway.proofs.DrivingLemmas.{counts_refused, hands_on_called, hands_on_calling, HandsOn}
use Rattle.fax_gateway.proofs.engine.hand_on.Goals as goal

pub returns-in-Calling-clause-handed : goal.returns-in-Calling-clause-handed
returns-in-Calling-clause-handed g c setup writes trace reached =
    let new : GatewayValue = c.from_calling.new.self in
    let h = hands_on_calling setup writes trace c.args.octets.now c.args.now c.args.gateway.now new c.from_calling.result c.from_calling.ensures.heard c.from_calling.ensures.memory c.from_calling.ensures.err reached in
    subst (λ (s : Leg). HandsOn setup writes trace s c.args.octets.now c.args.now c.is_ok.result new) (sym c.in-Calling.is)
    (subst (λ (b : Bool). HandsOn setup writes trace legs.Calling c.args.octets.now c.args.now b new) (sym c.is_ok.ensures.value) h)

pub returns-in-Called-clause-handed : goal.returns-in-Called-clause-handed
returns-in-Called-clause-handed g c setup writes trace reached =
    let new : GatewayValue = c.from_called.new.self in
    let h = hands_on_called setup writes trace c.args.octets.now c.args.now c.args.gateway.now new c.from_called.result c.from_called.ensures.heard c.from_called.ensures.memory c.from_called.ensures.err reached in
    subst (λ (s : Leg). HandsOn setup writes trace s c.args.octets.now c.args.now c.is_ok-in-Called.result new) (sym c.in-Called.is)
    (subst (λ (b : Bool). HandsOn setup writes trace legs.Called c.args.octets.now c.args.now b new) (sym c.is_ok-in-Called.ensures.value) h)

pub returns-in-Calling-clause-refusals : goal.returns-in-Calling-clause-refusals
returns-in-Calling-clause-refusals g c = counts_refused _ _ c.from_calling.result c.is_ok.result c.is_ok.ensures.value c.from_calling.ensures.refusals

pub returns-in-Called-clause-refusals : goal.returns-in-Called-clause-refusals
returns-in-Called-clause-refusals g c = counts_refused _ _ c.from_called.result c.is_ok-in-Called.result c.is_ok-in-Called.ensures.value c.from_called.ensures.refusals
