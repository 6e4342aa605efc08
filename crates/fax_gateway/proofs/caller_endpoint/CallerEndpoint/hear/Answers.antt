use Rattle.std.proofs.Common.{◌≡◌, ℕ, Option, refl, sym, subst, rules}
use Rattle.fax_udptl.specs.Taking.{Takes, slots_in}
use Rattle.fax_call.specs.declared.state.State.TheVariants.{Idle}
use Rattle.fax_call.specs.Watching.{Watches}
use Rattle.fax_call.specs.Writings.{Writing}
use Rattle.fax_gateway.specs.Setups.{Setup}
use Rattle.fax_gateway.specs.declared.caller_endpoint.CallerEndpoint.{CallerEndpoint}
use Rattle.fax_gateway.specs.CalledLegs.{CalledLeg}
use Rattle.fax_gateway.specs.Reached.{IsCalled}
use Rattle.fax_gateway.proofs.Hearing.{told_called, told_idle, told_unread, not_none, refused_decides, decided_on_called, hears_called, on_err}
use Rattle.fax_gateway.proofs.caller_endpoint.CallerEndpoint.hear.Goals as goal

pub returns-in_err-slots_watched-clause-memory : goal.returns-in_err-slots_watched-clause-memory
returns-in_err-slots_watched-clause-memory g c =
    let off : c.args.self.now.caller.procedure.state ≡ Idle → ⊥ = search rules in
    on_err c.from_residual.result (λ (setup : Setup) (writes : Writing) (leg : Option CalledLeg) (r : IsCalled setup writes leg c.args.self.now).
    sym (decided_on_called setup writes leg c.args.octets.now c.in-Ok.decided c.args.self.now c.take.new.self _ off r (subst (λ (k : Option ℕ). Takes c.args.octets.now k c.take.new.self c.in-Ok.decided) c.copy-receiver.ensures c.in-Ok.ensures.taken)
    (refused_decides c.in-Ok.decided c.slots_watched.result _ c.in_err-slots_watched.was c.slots_watched.ensures.no_packet)))

pub returns-clause-heard : goal.returns-clause-heard
returns-clause-heard g c setup writes leg r =
    let off : c.args.self.now.caller.procedure.state ≡ Idle → ⊥ = search rules in
    let new : CallerEndpoint = record { caller = c.slots_watched.new.self; leg = record { receiver = c.take.new.self; sender = c.args.self.now.leg.sender } } in
    hears_called setup writes leg c.args.now c.args.octets.now c.in-Ok.decided c.args.self.now new off r (subst (λ (k : Option ℕ). Takes c.args.octets.now k c.take.new.self c.in-Ok.decided) c.copy-receiver.ensures c.in-Ok.ensures.taken) refl (λ writes job heard core r. (c.in_ok-slots_watched.ensures.heard writes job heard core r).hears)

pub returns-clause-decided : goal.returns-clause-decided
returns-clause-decided g c setup writes leg r =
    let off : c.args.self.now.caller.procedure.state ≡ Idle → ⊥ = search rules in
    decided_on_called setup writes leg c.args.octets.now c.in-Ok.decided c.args.self.now c.take.new.self _ off r (subst (λ (k : Option ℕ). Takes c.args.octets.now k c.take.new.self c.in-Ok.decided) c.copy-receiver.ensures c.in-Ok.ensures.taken) (not_none (slots_in c.in-Ok.decided) c.is_empty.result c.is_empty.ensures)

pub returns-clause-told : goal.returns-clause-told
returns-clause-told g c setup writes leg r =
    let off : c.args.self.now.caller.procedure.state ≡ Idle → ⊥ = search rules in
    let new : CallerEndpoint = record { caller = c.slots_watched.new.self; leg = record { receiver = c.take.new.self; sender = c.args.self.now.leg.sender } } in
    told_called (Watches g.W.Watcher.tells c.args.watcher.now c.slots_watched.new.watcher) setup writes leg c.args.now c.args.octets.now c.in-Ok.decided c.args.self.now new off r
    (subst (λ (k : Option ℕ). Takes c.args.octets.now k c.take.new.self c.in-Ok.decided) c.copy-receiver.ensures c.in-Ok.ensures.taken) c.in_ok-slots_watched.ensures.heard

pub returns-then-eq-clause-told : goal.returns-then-eq-clause-told
returns-then-eq-clause-told g c setup writes leg r =
    let on : c.args.self.now.caller.procedure.state ≡ Idle = search rules in
    told_idle (Watches g.W.Watcher.tells c.args.watcher.now c.args.watcher.now) setup writes leg c.args.now c.args.octets.now c.args.self.now r on refl

pub returns-in_default-clause-told : goal.returns-in_default-clause-told
returns-in_default-clause-told g c setup writes leg r =
    told_unread (Watches g.W.Watcher.tells c.args.watcher.now c.args.watcher.now) writes leg c.args.now c.args.octets.now _ c.in_default.ensures.fault refl
