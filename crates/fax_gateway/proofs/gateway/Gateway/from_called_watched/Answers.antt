use Rattle.std.proofs.Common.{◌≡◌, ℕ, max, Bool, List, Option, Some, None, option_map, refl, sym, ◌∙◌, ap, subst}
use Rattle.fax_gateway.specs.Setups.{Setup}
use Rattle.fax_gateway.specs.Events.{FromCalled, clock}
use Rattle.fax_gateway.specs.CallingLegs.{CallingLeg, calling_after, calling_leg}
use Rattle.fax_gateway.specs.CalledLegs.{hears}
use Rattle.fax_gateway.specs.BothLegs.{both_legs}
use Rattle.fax_gateway.specs.Reached.{GatewayValue, IsCalled, IsCalling, IsReachedBy}
use Rattle.fax_call.specs.Watching.{Watches}
use Rattle.fax_gateway.specs.Watched.{called_tellings}
use Rattle.fax_gateway.proofs.gateway.Gateway.from_called_watched.Goals as goal

same_leg : (setup : Setup) (leg : Option CallingLeg) (now : ℕ) (octets : List ℕ) (at : ℕ) (decided : Bool) → leg ≡ calling_after setup leg now (FromCalled octets at decided)
same_leg setup None now octets at decided = refl
same_leg setup (Some l) now octets at decided = refl

pub returns-clause-heard : goal.returns-clause-heard
returns-clause-heard g c = λ setup writes trace r.
    let at : ℕ = c.args.now in
    let octets : List ℕ = c.args.octets.now in
    let s = subst (λ (k : GatewayValue). IsReachedBy setup writes trace k) (sym c.self.view_is) r in
    let now : c.read.new.self ≡ max at (clock trace) = c.read.ensures.later ∙ ap (λ (m : ℕ). max at m) s.at in
    let leg = (both_legs setup writes trace).leg in
    let new = c.hear.new.self in
    record {
      is_trace = (c.in-Ok.ensures.decided setup writes leg s.called, s.is_trace);
      set = s.set;
      at = now;
      rung = s.rung;
      calling = subst (λ (o : Option CallingLeg). IsCalling setup o c.self.inside.calling) (same_leg setup (calling_leg setup trace) (max at (clock trace)) octets at c.in-Ok.decided) s.calling;
      called = subst (λ (m : ℕ). IsCalled setup writes (option_map (hears writes octets m) leg) new) (c.read.ensures.moment ∙ now) (c.in-Ok.ensures.heard setup writes leg s.called);
      book = s.book;
    }

pub returns-clause-told : goal.returns-clause-told
returns-clause-told g c setup writes trace r =
    let s = subst (λ (k : GatewayValue). IsReachedBy setup writes trace k) (sym c.self.view_is) r in
    let now : c.read.new.self ≡ max c.args.now (clock trace) = c.read.ensures.later ∙ ap (λ (m : ℕ). max c.args.now m) s.at in
    let leg = (both_legs setup writes trace).leg in
    subst (λ (m : ℕ). Watches g.W.Watcher.tells c.args.watcher.now c.hear.new.watcher (called_tellings writes leg m c.args.octets.now)) (c.read.ensures.moment ∙ now) (c.in-Ok.ensures.told setup writes leg s.called)
