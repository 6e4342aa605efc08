use Rattle.std.proofs.Common.{◌∙◌, [], ap}
use Rattle.fax_desk.specs.declared.desk.Desk.{Desk}
use Rattle.fax_runs.specs.Desking.{PaceValue}
use Rattle.fax_runs.proofs.Passings.{told_heard}
use Rattle.fax_pace.proofs.pace.RealPace.tell_done.Goals as goal

pub returns-in_default : goal.returns-in_default
returns-in_default g c = told_heard [] c.args.answered c.args.self.now _ (ap (λ (d : Desk). d.waits) c.done.ensures.same)

pub returns-in-Some : goal.returns-in-Some
returns-in-Some g c = told_heard [] c.args.answered c.args.self.now _ (ap (λ (p : PaceValue). p.waits) c.tell_end.ensures ∙ ap (λ (d : Desk). d.waits) c.done.ensures.same)
