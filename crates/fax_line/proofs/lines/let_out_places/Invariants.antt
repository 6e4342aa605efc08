use Rattle.std.proofs.Common.{[]}
use Rattle.fax_line.specs.Operations.{EachGoes}
use Rattle.fax_line.proofs.Slots.{Rounds, alike, out_if}
use Rattle.fax_line.proofs.lines.let_out_places.Given as goal

-- what the lines of so many rounds gave went out, and no line went through anything
abbrev pub invariant-loop-round : goal.invariant-loop-round
invariant-loop-round g l = EachGoes (λ i. []) l.initial.places l.places × Rounds (out_if l.slot) l.round l.initial.places l.places × Rounds alike l.round l.initial.places l.places
