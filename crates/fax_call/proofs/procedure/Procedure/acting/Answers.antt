use Rattle.std.proofs.Common.{◌≡◌, ◌∙◌, rules}
use Rattle.fax_call.specs.declared.pending.Pending.TheVariants.{Nothing}
use Rattle.fax_call.proofs.FollowingLemmas.{acting_is, acting_none, core_waits}
use Rattle.fax_call.proofs.procedure.Procedure.acting.Goals as goal

pub returns-then-is_waiting : goal.returns-then-is_waiting
returns-then-is_waiting c writes job core writer f =
    let some : c.args.self.now.pending ≡ Nothing → ⊥ = search rules in
    acting_none core c.args.now (core_waits writes job core writer c.args.self.now c.requires f some)

pub returns : goal.returns
returns c writes job core writer f =
    let none : c.args.self.now.pending ≡ Nothing = search rules in
    c.acting_timer.ensures ∙ acting_is writes job core writer c.args.self.now c.args.now f none
