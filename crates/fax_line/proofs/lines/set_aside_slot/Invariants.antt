use Rattle.std.proofs.Common.{[]}
use Rattle.fax_line.specs.Operations.{EachGoes}
use Rattle.fax_line.proofs.Slots.{Rounds, aside_if}
use Rattle.fax_line.proofs.lines.set_aside_slot.Given as goal

-- the lines of so many rounds wait, or what they gave went out; and no line went through anything
abbrev pub invariant-loop-round : goal.invariant-loop-round
invariant-loop-round g l = EachGoes (λ i. []) l.initial.places l.places × Rounds (aside_if l.slot) l.round l.initial.places l.places
