use Rattle.std.proofs.Common.{◌≡◌, ℕ, max, sym, ◌∙◌, ap, subst}
use Rattle.fax_gateway.specs.Events.{clock}
use Rattle.fax_gateway.specs.BothLegs.{both_legs}
use Rattle.fax_gateway.specs.Reached.{GatewayValue, IsReachedBy}
use Rattle.fax_gateway.specs.Watched.{called_acting}
use Rattle.fax_gateway.proofs.gateway.Gateway.called_acting.Goals as goal

pub returns : goal.returns
returns g c setup writes trace r =
    let s = subst (λ (k : GatewayValue). IsReachedBy setup writes trace k) (sym c.self.view_is) r in
    let now : c.read.new.self ≡ max c.args.now (clock trace) = c.read.ensures.later ∙ ap (λ (m : ℕ). max c.args.now m) s.at in
    c.acting.ensures setup writes (both_legs setup writes trace).leg s.called ∙ ap (λ (m : ℕ). called_acting writes (both_legs setup writes trace).leg m) (c.read.ensures.moment ∙ now)
