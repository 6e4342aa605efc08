use Rattle.std.proofs.Common.{◌≡◌, ◌∷◌, [], List, length, refl, sym, ap, subst, ◌∙◌, arith}
use Rattle.std.specs.Vec.Iter.{into_iter_items}
use Rattle.fax_user_agent.specs.declared.out.LineOrder.{LineOrder}
use Rattle.fax_sip_service.specs.Services.{TakesOrders}
use Rattle.fax_sip_service.proofs.service.SipService.take_orders.Goals as goal

nothing_left : {X : Type 0} (l : List X) → length l ≡ 0 → l ≡ []
nothing_left [] h = refl
nothing_left (x ∷ xs) h = absurd (omega arith)

pub loop-order-preserved : goal.loop-order-preserved
loop-order-preserved c =
    let at = c.loop-order in
    let steps : into_iter_items at.order-iterator ≡ c.in-Some.order ∷ into_iter_items c.next.new.self = c.in-Some.ensures.steps.0 in (
      let was = at.invariant.0 in
          let gone = c.in-Some.ensures.steps.1 in
          let short = ap length steps in
          omega arith,
      λ later rest. at.invariant.1 later (subst (λ (l : List LineOrder). TakesOrders c.args.now l at.self later) (sym steps) (c.take_order.new.self, c.take_order.ensures, rest)),
    )

pub returns : goal.returns
returns c =
    let at = c.loop-order in
    let none = c.in-None.ensures.steps in
    let empty : into_iter_items at.order-iterator ≡ [] = nothing_left _ (sym at.invariant.0 ∙ none.0) in
    subst (λ (l : List LineOrder). TakesOrders c.args.now l c.args.self.now at.self) c.into_iter-order-iterator.ensures.into_iter_gives.0
    (at.invariant.1 at.self (subst (λ (l : List LineOrder). TakesOrders c.args.now l at.self at.self) (sym empty) refl))
