use Rattle.std.proofs.Common.{ℕ, ◌≤◌, length, IfNone, Option, sym, subst, ◌∙◌}
use Rattle.fax_user_agent.specs.declared.settings.Trunk.{Trunk}
use Rattle.fax_user_agent.specs.declared.profile.Placing.{Placing}
use Rattle.fax_user_agent.specs.Placings.{IsRoutedOver}
use Rattle.fax_user_agent.proofs.ChoiceLemmas.{no_trunk, not_dialled, routed_over, there}
use Rattle.fax_user_agent.proofs.profile.Profile.placing.Goals as goal

-- nothing is dialled there for the number
pub returns-in_default-dialled-clause-none : goal.returns-in_default-dialled-clause-none
returns-in_default-dialled-clause-none c =
    not_dialled c.args.self.now.trunks.items c.args.self.now.routes.items c.args.octets.now c.in-Ok.number c.in_ok-place.place c.in_ok-route.route.now (sym c.read.ensures ∙ c.in-Ok.is) c.in_ok-place.ensures.some
    (there _ _ c.in_ok-place.place c.in_ok-route.route.now c.deref.ensures.value c.in_ok-route.ensures.lookup.3.0 c.in_ok-route.ensures.lookup.1)
    (λ other is. c.in_default-dialled.not-Ok other (c.dialled.ensures ∙ is))

-- there is no such trunk
pub returns-in_err-trunk-clause-none : goal.returns-in_err-trunk-clause-none
returns-in_err-trunk-clause-none c =
    subst (λ (r : Option Placing). IfNone r ((place : ℕ) (trunk : Trunk) → IsRoutedOver c.args.self.now.trunks.items c.args.self.now.routes.items c.args.octets.now place trunk → ⊥)) (sym c.from_residual-in_err-trunk.ensures)
    (no_trunk c.args.self.now.trunks.items c.args.self.now.routes.items c.args.octets.now c.in-Ok.number c.in_ok-place.place c.in_ok-route.route.now c.trunk.result (sym c.read.ensures ∙ c.in-Ok.is) c.in_ok-place.ensures.some
    (there _ _ c.in_ok-place.place c.in_ok-route.route.now c.deref.ensures.value c.in_ok-route.ensures.lookup.3.0 c.in_ok-route.ensures.lookup.1) c.trunk.ensures
    (subst (λ trunks. length trunks ≤ c.trunk.result) c.deref-2.ensures.value c.in_err-trunk.ensures.lookup.3))

pub returns-clause-some : goal.returns-clause-some
returns-clause-some c =
    routed_over c.args.self.now.trunks.items c.args.self.now.routes.items c.args.octets.now c.in-Ok.number c.in_ok-place.place c.in_ok-route.route.now c.in-Ok-dialled.dialled c.trunk.result c.in_ok-trunk.trunk.now
    (sym c.read.ensures ∙ c.in-Ok.is) c.in_ok-place.ensures.some
    (there _ _ c.in_ok-place.place c.in_ok-route.route.now c.deref.ensures.value c.in_ok-route.ensures.lookup.3.0 c.in_ok-route.ensures.lookup.1)
    (sym c.dialled.ensures ∙ c.in-Ok-dialled.is) c.trunk.ensures
    (there _ _ c.trunk.result c.in_ok-trunk.trunk.now c.deref-2.ensures.value c.in_ok-trunk.ensures.lookup.3.0 c.in_ok-trunk.ensures.lookup.1)
