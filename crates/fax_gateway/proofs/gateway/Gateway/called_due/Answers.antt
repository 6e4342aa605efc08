use Rattle.std.proofs.Common.{◌≡◌, Bool, true, false, sym, ◌∙◌, ap, subst, rules}
use Rattle.fax_gateway.specs.Reached.{GatewayValue, IsReachedBy}
use Rattle.fax_gateway.specs.Due.{job_due}
use Rattle.fax_gateway.proofs.Resting.{asked_due, due_sent, due_free}
use Rattle.fax_gateway.proofs.gateway.Gateway.called_due.Goals as goal

pub returns-in-Some : goal.returns-in-Some
returns-in-Some g c setup writes trace r =
    let inside = c.self.inside in
    let s = subst (λ (k : GatewayValue). IsReachedBy setup writes trace k) (sym c.self.view_is) r in
    let old : GatewayValue = record { settings = inside.settings; clock = inside.clock; rings = inside.rings; calling = inside.calling; called = inside.called; book = inside.jobs.book; spare = inside.jobs.spare; refusals = inside.refusals } in
    due_sent setup writes trace old _ c.next_due.result s (sym c.in-Some.ensures) (λ l k. c.next_due.ensures setup writes l k)

pub returns-in-None : goal.returns-in-None
returns-in-None g c setup writes trace r =
    let inside = c.self.inside in
    let s = subst (λ (k : GatewayValue). IsReachedBy setup writes trace k) (sym c.self.view_is) r in
    let old : GatewayValue = record { settings = inside.settings; clock = inside.clock; rings = inside.rings; calling = inside.calling; called = inside.called; book = inside.jobs.book; spare = inside.jobs.spare; refusals = inside.refusals } in
    let asks : setup.asks ≡ true = sym s.set.asks ∙ search rules in
    due_free setup writes trace old _ s (sym c.in-None.ensures)
    (asked_due inside.jobs.book.waiting ∙ ap (λ (b : Bool). job_due b inside.jobs.book.waiting) (sym asks))

pub returns-in-None-2 : goal.returns-in-None-2
returns-in-None-2 g c setup writes trace r =
    let inside = c.self.inside in
    let s = subst (λ (k : GatewayValue). IsReachedBy setup writes trace k) (sym c.self.view_is) r in
    let old : GatewayValue = record { settings = inside.settings; clock = inside.clock; rings = inside.rings; calling = inside.calling; called = inside.called; book = inside.jobs.book; spare = inside.jobs.spare; refusals = inside.refusals } in
    let asks : setup.asks ≡ false = sym s.set.asks ∙ search rules in
    due_free setup writes trace old c.at_once.result s (sym c.in-None-2.ensures)
    (c.at_once.ensures ∙ ap (λ (b : Bool). job_due b inside.jobs.book.waiting) (sym asks))
