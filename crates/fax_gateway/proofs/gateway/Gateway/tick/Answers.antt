use Rattle.std.proofs.Common.{◌∙◌, ap, subst, sym}
use Rattle.fax_gateway.specs.Reached.{GatewayValue, IsReachedBy, alone, refusing}
use Rattle.fax_gateway.proofs.Steps.{reached_refusing}
use Rattle.fax_gateway.proofs.gateway.Gateway.tick.Goals as goal

pub returns-in-Err-clause-err : goal.returns-in-Err-clause-err
returns-in-Err-clause-err g c = ap alone c.refuse.ensures ∙ ap refusing c.in-Err.ensures.err

pub returns-in-Err-clause-kept : goal.returns-in-Err-clause-kept
returns-in-Err-clause-kept g c setup writes trace r =
    subst (λ (k : GatewayValue). IsReachedBy setup writes trace k) (sym c.refuse.ensures) (reached_refusing setup writes trace c.tick_if_due.new.self (c.in-Err.ensures.kept setup writes trace r))
