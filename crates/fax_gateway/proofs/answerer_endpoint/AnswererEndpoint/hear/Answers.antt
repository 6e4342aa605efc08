use Rattle.std.proofs.Common.{◌≡◌, ℕ, false, Option, refl, sym, ◌∙◌, subst}
use Rattle.fax_udptl.specs.Taking.{Takes, slots_in}
use Rattle.fax_answer.specs.Watching.{Watches}
use Rattle.fax_gateway.specs.Setups.{Setup}
use Rattle.fax_gateway.specs.CallingLegs.{CallingLeg, idle_after}
use Rattle.fax_gateway.specs.Reached.{CallingValue, IsCalling}
use Rattle.fax_gateway.proofs.Hearing.{brings_none_idle, brings_none_unread, hears_nothing, not_none, refused_decides, decided_on_calling, hears_calling, on_err}
use Rattle.fax_gateway.proofs.answerer_endpoint.AnswererEndpoint.hear.Goals as goal

pub returns-in_err-slots_within-clause-memory : goal.returns-in_err-slots_within-clause-memory
returns-in_err-slots_within-clause-memory g c =
    on_err c.from_residual.result (λ (setup : Setup) (leg : Option CallingLeg) (r : IsCalling setup leg c.args.self.now).
    let off : idle_after leg ≡ false = sym (c.is_idle.ensures.idle setup leg r) ∙ c.if-is_idle.false in
    let s = subst (λ (k : CallingValue). IsCalling setup leg k) (sym c.self.view_is) r in
    sym (decided_on_calling setup leg c.args.octets.now c.in-Ok.decided _ c.take.new.self _ off s (subst (λ (k : Option ℕ). Takes c.args.octets.now k c.take.new.self c.in-Ok.decided) c.copy-receiver.ensures c.in-Ok.ensures.taken)
    (refused_decides c.in-Ok.decided c.slots_within.result _ c.in_err-slots_within.was c.slots_within.ensures.no_packet)))

pub returns-clause-heard : goal.returns-clause-heard
returns-clause-heard g c setup leg r =
    let off : idle_after leg ≡ false = sym (c.is_idle.ensures.idle setup leg r) ∙ c.if-is_idle.false in
    let s = subst (λ (k : CallingValue). IsCalling setup leg k) (sym c.self.view_is) r in
    let inside = c.self.inside in
    let new : CallingValue = record { number = inside.number; kept = c.slots_within.new.self; leg = record { receiver = c.take.new.self; sender = inside.leg.sender } } in
    hears_calling (Watches g.W.Watcher.tells c.args.watcher.now c.slots_within.new.watcher) setup leg c.args.now c.args.octets.now c.in-Ok.decided _ new off s (subst (λ (k : Option ℕ). Takes c.args.octets.now k c.take.new.self c.in-Ok.decided) c.copy-receiver.ensures c.in-Ok.ensures.taken) refl refl c.in_ok-slots_within.ensures.heard

pub returns-clause-decided : goal.returns-clause-decided
returns-clause-decided g c setup leg r =
    let off : idle_after leg ≡ false = sym (c.is_idle.ensures.idle setup leg r) ∙ c.if-is_idle.false in
    let s = subst (λ (k : CallingValue). IsCalling setup leg k) (sym c.self.view_is) r in
    decided_on_calling setup leg c.args.octets.now c.in-Ok.decided _ c.take.new.self _ off s (subst (λ (k : Option ℕ). Takes c.args.octets.now k c.take.new.self c.in-Ok.decided) c.copy-receiver.ensures c.in-Ok.ensures.taken) (not_none (slots_in c.in-Ok.decided) c.is_empty.result c.is_empty.ensures)

pub returns-then-is_idle-clause-heard : goal.returns-then-is_idle-clause-heard
returns-then-is_idle-clause-heard g c setup leg r =
    hears_nothing (Watches g.W.Watcher.tells c.args.watcher.now c.args.watcher.now) setup leg c.args.now c.args.octets.now c.args.self.now r refl
    (brings_none_idle leg c.args.octets.now (sym (c.is_idle.ensures.idle setup leg r) ∙ c.if-is_idle.true))

pub returns-in_default-clause-heard : goal.returns-in_default-clause-heard
returns-in_default-clause-heard g c setup leg r =
    hears_nothing (Watches g.W.Watcher.tells c.args.watcher.now c.args.watcher.now) setup leg c.args.now c.args.octets.now c.args.self.now r refl
    (brings_none_unread leg c.args.octets.now _ c.in_default.ensures.fault)
