use Rattle.std.proofs.Common.{◌≡◌, ◌∙◌, rules}
use Rattle.fax_call.specs.declared.pending.Pending.TheVariants.{Nothing}
use Rattle.fax_call.proofs.FollowingLemmas.{gives_is}
use Rattle.fax_call.proofs.procedure.Procedure.gives.Goals as goal

pub returns-then-is_waiting-clause-gives : goal.returns-then-is_waiting-clause-gives
returns-then-is_waiting-clause-gives c writes job core writer f =
    let some : c.args.self.now.pending ≡ Nothing → ⊥ = search rules in
    c.allows.ensures ∙ gives_is writes job core writer c.args.self.now c.args.now c.requires f some
