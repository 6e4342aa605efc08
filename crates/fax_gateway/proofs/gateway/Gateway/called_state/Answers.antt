use Rattle.std.proofs.Common.{sym, subst}
use Rattle.fax_gateway.specs.BothLegs.{both_legs}
use Rattle.fax_gateway.specs.Reached.{GatewayValue, IsReachedBy}
use Rattle.fax_gateway.proofs.gateway.Gateway.called_state.Goals as goal

pub returns : goal.returns
returns g c setup writes trace r =
    let s = subst (λ (k : GatewayValue). IsReachedBy setup writes trace k) (sym c.self.view_is) r in
    c.state.ensures setup writes (both_legs setup writes trace).leg s.called
