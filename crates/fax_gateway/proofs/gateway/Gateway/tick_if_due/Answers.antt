use Rattle.std.proofs.Common.{◌≡◌, ℕ, ◌<◌, ◌^◌, max, true, false, ◌∷◌, sym, ◌∙◌, ap, subst, rules}
use Rattle.fax_gateway.specs.declared.given.Given as shown
use Rattle.fax_gateway.specs.Events.{Tick, clock}
use Rattle.fax_gateway.specs.CallingLegs.{calling_leg}
use Rattle.fax_gateway.specs.Turns.{IsRefusedAt}
use Rattle.fax_gateway.specs.Reached.{GatewayValue, IsReachedBy, given_shown}
use Rattle.fax_gateway.specs.Due.{nothing_given}
use Rattle.fax_gateway.proofs.Resting.{rests, refuses_none, keeps_none, gives_none_up, not_come, has_come}
use Rattle.fax_gateway.proofs.gateway.Gateway.tick_if_due.Goals as goal

pub returns-then-not-has_come-clause-ticked : goal.returns-then-not-has_come-clause-ticked
returns-then-not-has_come-clause-ticked g c setup writes trace writing r =
    let at : ℕ = c.args.now in
    let inside = c.self.inside in
    let s = subst (λ (k : GatewayValue). IsReachedBy setup writes trace k) (sym c.self.view_is) r in
    let old : GatewayValue = record { settings = inside.settings; clock = inside.clock; rings = inside.rings; calling = inside.calling; called = inside.called; book = inside.jobs.book; spare = inside.jobs.spare; refusals = inside.refusals } in
    let now_is : c.read-at.result ≡ max at (clock trace) = c.read-at.ensures.moment ∙ c.read-at.ensures.later ∙ ap (λ (m : ℕ). max at m) s.at in
    let fits : c.read-at.result < 2 ^ 64 = search rules in
    let off : c.has_come.result ≡ false = search rules in
    let quiet = not_come setup writes trace at c.read-at.result c.next_due.result now_is fits (c.next_due.ensures setup writes trace r) (sym c.has_come.ensures ∙ off) in
    subst (λ (x : shown.Given). IsReachedBy setup writes (Tick at (given_shown x) ∷ trace) (record old { clock = c.read-at.new.self })) (sym c.nothing.ensures)
    (subst (λ (m : ℕ). IsReachedBy setup writes (Tick at (given_shown nothing_given) ∷ trace) (record old { clock = m })) (sym c.read-at.ensures.later) (rests setup writes trace at old s quiet.0 quiet.1))

pub returns-then-not-has_come-clause-confirmed : goal.returns-then-not-has_come-clause-confirmed
returns-then-not-has_come-clause-confirmed g c setup writes trace r =
    let at : ℕ = c.args.now in
    let s = subst (λ (k : GatewayValue). IsReachedBy setup writes trace k) (sym c.self.view_is) r in
    let now_is : c.read-at.result ≡ max at (clock trace) = c.read-at.ensures.moment ∙ c.read-at.ensures.later ∙ ap (λ (m : ℕ). max at m) s.at in
    let fits : c.read-at.result < 2 ^ 64 = search rules in
    let off : c.has_come.result ≡ false = search rules in
    let quiet = not_come setup writes trace at c.read-at.result c.next_due.result now_is fits (c.next_due.ensures setup writes trace r) (sym c.has_come.ensures ∙ off) in
    ap (λ (x : shown.Given). x.kept) c.nothing.ensures ∙ keeps_none setup writes trace (max at (clock trace)) quiet.0 quiet.1

pub returns-then-not-has_come-clause-refused : goal.returns-then-not-has_come-clause-refused
returns-then-not-has_come-clause-refused g c setup writes trace r =
    let at : ℕ = c.args.now in
    let s = subst (λ (k : GatewayValue). IsReachedBy setup writes trace k) (sym c.self.view_is) r in
    let now_is : c.read-at.result ≡ max at (clock trace) = c.read-at.ensures.moment ∙ c.read-at.ensures.later ∙ ap (λ (m : ℕ). max at m) s.at in
    let fits : c.read-at.result < 2 ^ 64 = search rules in
    let off : c.has_come.result ≡ false = search rules in
    let quiet = not_come setup writes trace at c.read-at.result c.next_due.result now_is fits (c.next_due.ensures setup writes trace r) (sym c.has_come.ensures ∙ off) in
    subst (λ (x : shown.Given). IsRefusedAt (calling_leg setup trace) (max at (clock trace)) x.refused) (sym c.nothing.ensures) (refuses_none setup writes trace (max at (clock trace)) quiet.0 quiet.1)

pub returns-then-not-has_come-clause-given_up : goal.returns-then-not-has_come-clause-given_up
returns-then-not-has_come-clause-given_up g c setup writes trace r =
    let at : ℕ = c.args.now in
    let s = subst (λ (k : GatewayValue). IsReachedBy setup writes trace k) (sym c.self.view_is) r in
    let now_is : c.read-at.result ≡ max at (clock trace) = c.read-at.ensures.moment ∙ c.read-at.ensures.later ∙ ap (λ (m : ℕ). max at m) s.at in
    let fits : c.read-at.result < 2 ^ 64 = search rules in
    let off : c.has_come.result ≡ false = search rules in
    let quiet = not_come setup writes trace at c.read-at.result c.next_due.result now_is fits (c.next_due.ensures setup writes trace r) (sym c.has_come.ensures ∙ off) in
    ap (λ (x : shown.Given). x.gave_up) c.nothing.ensures ∙ gives_none_up setup writes trace (max at (clock trace)) quiet.0 quiet.1

pub returns-in_err-reserve-clause-rests : goal.returns-in_err-reserve-clause-rests
returns-in_err-reserve-clause-rests g c setup writes trace r e =
    let at : ℕ = c.args.now in
    let s = subst (λ (k : GatewayValue). IsReachedBy setup writes trace k) (sym c.self.view_is) r in
    let now_is : c.read-at.result ≡ max at (clock trace) = c.read-at.ensures.moment ∙ c.read-at.ensures.later ∙ ap (λ (m : ℕ). max at m) s.at in
    let on : c.has_come.result ≡ true = search rules in
    absurd (has_come setup writes trace at c.read-at.result c.next_due.result now_is (c.next_due.ensures setup writes trace r) (sym c.has_come.ensures ∙ on) e)

pub returns-then-is_some-clause-rests : goal.returns-then-is_some-clause-rests
returns-then-is_some-clause-rests g c setup writes trace r e =
    let at : ℕ = c.args.now in
    let s = subst (λ (k : GatewayValue). IsReachedBy setup writes trace k) (sym c.self.view_is) r in
    let now_is : c.read-at.result ≡ max at (clock trace) = c.read-at.ensures.moment ∙ c.read-at.ensures.later ∙ ap (λ (m : ℕ). max at m) s.at in
    let on : c.has_come.result ≡ true = search rules in
    absurd (has_come setup writes trace at c.read-at.result c.next_due.result now_is (c.next_due.ensures setup writes trace r) (sym c.has_come.ensures ∙ on) e)

pub returns-in_err-leg-clause-rests : goal.returns-in_err-leg-clause-rests
returns-in_err-leg-clause-rests g c setup writes trace r e =
    let at : ℕ = c.args.now in
    let s = subst (λ (k : GatewayValue). IsReachedBy setup writes trace k) (sym c.self.view_is) r in
    let now_is : c.read-at.result ≡ max at (clock trace) = c.read-at.ensures.moment ∙ c.read-at.ensures.later ∙ ap (λ (m : ℕ). max at m) s.at in
    let on : c.has_come.result ≡ true = search rules in
    absurd (has_come setup writes trace at c.read-at.result c.next_due.result now_is (c.next_due.ensures setup writes trace r) (sym c.has_come.ensures ∙ on) e)

pub returns-clause-rests : goal.returns-clause-rests
returns-clause-rests g c setup writes trace r e =
    let at : ℕ = c.args.now in
    let s = subst (λ (k : GatewayValue). IsReachedBy setup writes trace k) (sym c.self.view_is) r in
    let now_is : c.read-at.result ≡ max at (clock trace) = c.read-at.ensures.moment ∙ c.read-at.ensures.later ∙ ap (λ (m : ℕ). max at m) s.at in
    let on : c.has_come.result ≡ true = search rules in
    absurd (has_come setup writes trace at c.read-at.result c.next_due.result now_is (c.next_due.ensures setup writes trace r) (sym c.has_come.ensures ∙ on) e)
