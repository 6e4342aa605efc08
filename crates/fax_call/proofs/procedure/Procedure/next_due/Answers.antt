use Rattle.std.proofs.Common.{◌≡◌, sym, ◌∙◌, rules}
use Rattle.fax_call.specs.declared.pending.Pending.TheVariants.{Nothing}
use Rattle.fax_call.proofs.DueLemmas.{due_waiting, due_resting}
use Rattle.fax_call.proofs.procedure.Procedure.next_due.Goals as goal

pub returns-then-is_waiting : goal.returns-then-is_waiting
returns-then-is_waiting c writes job core writer f =
    let some : c.args.self.now.pending ≡ Nothing → ⊥ = search rules in
    c.allowed_from.ensures ∙ sym (due_waiting writes job core writer c.args.self.now c.requires f some)

pub returns-else-is_waiting : goal.returns-else-is_waiting
returns-else-is_waiting c writes job core writer f =
    let none : c.args.self.now.pending ≡ Nothing = search rules in
    c.timer.ensures ∙ sym (due_resting writes job core writer c.args.self.now f none)
