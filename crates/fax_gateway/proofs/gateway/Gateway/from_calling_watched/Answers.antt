use Rattle.std.proofs.Common.{ℕ, ◌≤◌, true, false, Bool, not, ◌&&◌, Option, refl, sym, ◌∙◌, ap, subst}
use Rattle.fax_gateway.specs.CallingLegs.{CallingLeg, calling_leg, idle_after}
use Rattle.fax_gateway.specs.Reached.{GatewayValue, IsCalling, IsReachedBy}
use Rattle.fax_answer.specs.Watching.{Watches}
use Rattle.fax_gateway.specs.Watched.{HearsCallingTold}
use Rattle.fax_jobs.specs.Octets.{octets_of_book}
use Rattle.fax_jobs.proofs.OctetsLemmas.{octets_of_closed}
use Rattle.fax_answer.specs.Octets.{octets_of_answerer}
use Rattle.fax_gateway.specs.Octets.{octets_of_gateway}
use Rattle.fax_gateway.proofs.OctetsLemmas.{adds_nothing}
use Rattle.fax_gateway.proofs.Steps.{hears_from}
use Rattle.fax_gateway.proofs.gateway.Gateway.from_calling_watched.Goals as goal

pub returns-then-has_ended-clause-heard : goal.returns-then-has_ended-clause-heard
returns-then-has_ended-clause-heard g c setup writes trace r =
    let inside = c.self.inside in
    let s = subst (λ (k : GatewayValue). IsReachedBy setup writes trace k) (sym c.self.view_is) r in
    let old : GatewayValue = record { settings = inside.settings; clock = inside.clock; rings = inside.rings; calling = inside.calling; called = inside.called; book = inside.jobs.book; spare = inside.jobs.spare; refusals = inside.refusals } in
    let new : GatewayValue = record { settings = inside.settings; clock = c.read-now.new.self; rings = inside.rings; calling = c.hear.new.self; called = inside.called; book = c.end_call.new.self.book; spare = c.end_call.new.self.spare; refusals = inside.refusals } in
    hears_from (Watches g.W.Watcher.tells c.args.watcher.now c.hear.new.watcher) setup writes trace c.args.octets.now c.args.now c.in-Ok.decided true old new s c.read-now.ensures.later refl refl refl
    (c.in-Ok.ensures.decided setup (calling_leg setup trace) s.calling)
    (subst (λ (m : ℕ). HearsCallingTold (Watches g.W.Watcher.tells c.args.watcher.now c.hear.new.watcher) setup (calling_leg setup trace) m c.args.octets.now c.hear.new.self) c.read-now.ensures.moment (c.in-Ok.ensures.heard setup (calling_leg setup trace) s.calling))
    (λ (leg : Option CallingLeg) (h : IsCalling setup leg c.hear.new.self).
    sym c.if-has_ended.true ∙ c.has_ended.ensures ∙ ap (λ (b : Bool). not b && c.is_idle.result) (c.is_idle-was_idle.ensures.idle setup (calling_leg setup trace) s.calling)
    ∙ ap (λ (b : Bool). not (idle_after (calling_leg setup trace)) && b) (c.is_idle.ensures.idle setup leg h))
    c.end_call.ensures.closed

pub returns-else-has_ended-clause-heard : goal.returns-else-has_ended-clause-heard
returns-else-has_ended-clause-heard g c setup writes trace r =
    let inside = c.self.inside in
    let s = subst (λ (k : GatewayValue). IsReachedBy setup writes trace k) (sym c.self.view_is) r in
    let old : GatewayValue = record { settings = inside.settings; clock = inside.clock; rings = inside.rings; calling = inside.calling; called = inside.called; book = inside.jobs.book; spare = inside.jobs.spare; refusals = inside.refusals } in
    let new : GatewayValue = record { settings = inside.settings; clock = c.read-now.new.self; rings = inside.rings; calling = c.hear.new.self; called = inside.called; book = inside.jobs.book; spare = inside.jobs.spare; refusals = inside.refusals } in
    hears_from (Watches g.W.Watcher.tells c.args.watcher.now c.hear.new.watcher) setup writes trace c.args.octets.now c.args.now c.in-Ok.decided false old new s c.read-now.ensures.later refl refl refl
    (c.in-Ok.ensures.decided setup (calling_leg setup trace) s.calling)
    (subst (λ (m : ℕ). HearsCallingTold (Watches g.W.Watcher.tells c.args.watcher.now c.hear.new.watcher) setup (calling_leg setup trace) m c.args.octets.now c.hear.new.self) c.read-now.ensures.moment (c.in-Ok.ensures.heard setup (calling_leg setup trace) s.calling))
    (λ (leg : Option CallingLeg) (h : IsCalling setup leg c.hear.new.self).
    sym c.if-has_ended.false ∙ c.has_ended.ensures ∙ ap (λ (b : Bool). not b && c.is_idle.result) (c.is_idle-was_idle.ensures.idle setup (calling_leg setup trace) s.calling)
    ∙ ap (λ (b : Bool). not (idle_after (calling_leg setup trace)) && b) (c.is_idle.ensures.idle setup leg h))
    refl

pub returns-then-has_ended-clause-within : goal.returns-then-has_ended-clause-within
returns-then-has_ended-clause-within g c =
    let inside = c.self.inside in
    let new : GatewayValue = record { settings = inside.settings; clock = c.read-now.new.self; rings = inside.rings; calling = c.hear.new.self; called = inside.called; book = c.end_call.new.self.book; spare = c.end_call.new.self.spare; refusals = inside.refusals } in
    subst (λ (k : GatewayValue). k.settings.memory ≤ octets_of_gateway k → octets_of_gateway new ≤ octets_of_gateway k) c.self.view_is
    (adds_nothing inside.settings.memory c.from.result c.held.result c.saturating_sub-most.result (octets_of_answerer inside.calling.kept) (octets_of_answerer c.hear.new.self.kept) (octets_of_book inside.jobs.book) (octets_of_book c.end_call.new.self.book)
    c.from.ensures c.held.ensures.octets c.saturating_sub-most.ensures c.in-Ok.ensures.within (ap octets_of_book c.end_call.ensures.closed ∙ octets_of_closed inside.jobs.book))
