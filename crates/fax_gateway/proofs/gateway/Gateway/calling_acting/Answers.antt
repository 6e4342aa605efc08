use Rattle.std.proofs.Common.{◌≡◌, ℕ, max, sym, ◌∙◌, ap, subst}
use Rattle.fax_gateway.specs.Events.{clock}
use Rattle.fax_gateway.specs.CallingLegs.{calling_leg}
use Rattle.fax_gateway.specs.Reached.{GatewayValue, IsReachedBy}
use Rattle.fax_gateway.specs.Watched.{calling_acting}
use Rattle.fax_gateway.proofs.gateway.Gateway.calling_acting.Goals as goal

pub returns : goal.returns
returns g c setup writes trace r =
    let s = subst (λ (k : GatewayValue). IsReachedBy setup writes trace k) (sym c.self.view_is) r in
    let now : c.read.new.self ≡ max c.args.now (clock trace) = c.read.ensures.later ∙ ap (λ (m : ℕ). max c.args.now m) s.at in
    c.acting.ensures setup (calling_leg setup trace) s.calling ∙ ap (λ (m : ℕ). calling_acting (calling_leg setup trace) m) (c.read.ensures.moment ∙ now)
