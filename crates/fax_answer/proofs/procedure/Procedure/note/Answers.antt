use Rattle.std.proofs.Common.{◌≡◌, refl, ◌∙◌, ap, rules}
use Rattle.fax_answer.specs.declared.state.State.{State}
use Rattle.fax_answer.specs.declared.pending.Pending.TheVariants.{Nothing}
use Rattle.fax_answer.specs.Table.{state_after}
use Rattle.fax_answer.proofs.FollowingLemmas.{noted_free, noted_waiting}
use Rattle.fax_answer.proofs.procedure.Procedure.note.Goals as goal

pub returns-then-eq-clause-noted : goal.returns-then-eq-clause-noted
returns-then-eq-clause-noted c core confirmed p d f is verdict can =
    let nothing : c.args.self.now.pending ≡ Nothing = search rules in
    noted_free core confirmed c.args.self.now _ p d c.args.now f can nothing
    (c.state_then-self.ensures d verdict ∙ ap (λ (s : State). state_after s d) f.state)
    (c.note.ensures core.history (record { piece = p; decision = d }) f.counts is verdict)
    (c.timers_then-self.ensures core confirmed p d f is verdict) refl
    (c.pending_after-self.ensures.reply d verdict)

pub returns-else-eq-clause-noted : goal.returns-else-eq-clause-noted
returns-else-eq-clause-noted c core confirmed p d f is verdict can =
    let some : c.args.self.now.pending ≡ Nothing → ⊥ = search rules in
    noted_waiting core confirmed c.args.self.now _ p d c.args.now f can some
    (c.state_then-self.ensures d verdict ∙ ap (λ (s : State). state_after s d) f.state)
    (c.note.ensures core.history (record { piece = p; decision = d }) f.counts is verdict)
    (c.timers_then-self.ensures core confirmed p d f is verdict) refl refl
