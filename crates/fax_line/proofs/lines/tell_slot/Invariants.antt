use Rattle.std.proofs.Common.{[]}
use Rattle.fax_line.specs.Operations.{EachGoes}
use Rattle.fax_line.proofs.Slots.{Rounds, alike}
use Rattle.fax_line.proofs.Turning.{stays_if}
use Rattle.fax_line.proofs.lines.tell_slot.Given as goal

-- no line saw anything, and those of other slots are as they were; and those wait and are awake that did and were
abbrev pub invariant-loop-round : goal.invariant-loop-round
invariant-loop-round g l = EachGoes (λ i. []) l.initial.places l.places × Rounds (stays_if l.slot) l.round l.initial.places l.places
    × Rounds alike l.round l.initial.places l.places
