use Rattle.std.proofs.Common.{ℕ, Option, sym, ◌∙◌, ap, subst}
use Rattle.fax_timers.specs.Moments.{earlier}
use Rattle.fax_gateway.specs.CallingLegs.{calling_leg}
use Rattle.fax_gateway.specs.Reached.{GatewayValue, IsReachedBy}
use Rattle.fax_gateway.specs.Due.{calling_due}
use Rattle.fax_gateway.proofs.gateway.Gateway.next_due.Goals as goal

pub returns : goal.returns
returns g c setup writes trace r =
    let s = subst (λ (k : GatewayValue). IsReachedBy setup writes trace k) (sym c.self.view_is) r in
    c.earlier.ensures
    ∙ ap (λ (x : Option ℕ). earlier x c.called_due.result) (c.next_due.ensures setup (calling_leg setup trace) s.calling)
    ∙ ap (λ (x : Option ℕ). earlier (calling_due setup (calling_leg setup trace)) x) (c.called_due.ensures setup writes trace r)
