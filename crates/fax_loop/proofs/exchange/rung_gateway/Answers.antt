use Rattle.std.proofs.Common.{ℕ, [], ◌∷◌, subst}
use Rattle.fax_gateway.specs.Events.{Ring}
use Rattle.fax_gateway.specs.Reached.{IsReachedBy}
use Rattle.fax_loop.proofs.exchange.rung_gateway.Goals as goal

pub returns : goal.returns
returns c = λ setup writes set.
    let r = c.in-Ok.ensures.rung setup writes [] (c.in_ok-gateway.ensures.reached setup writes set) in
    subst (λ (n : ℕ). IsReachedBy setup writes (Ring 0 n ∷ []) c.ring.new.self) r.is_trace.0.0 r
