use Rattle.std.proofs.Common.{◌≡◌, None}
use Rattle.fax_runs.specs.Desking.{GivesOrder}
use Rattle.fax_pace.proofs.pace.RealPace.look_at_questions.Given as goal

-- no order was given so far
abbrev pub invariant-loop : goal.invariant-loop
invariant-loop g l = GivesOrder None l.initial.self l.self × (l.self.waits ≡ None)
