use Rattle.std.proofs.Common.{[]}
use Rattle.fax_line.specs.Operations.{EachGoes}
use Rattle.fax_line.proofs.Slots.{Firsts, HandedOver, alike}
use Rattle.fax_line.proofs.lines.hand_over_all.Given as goal

-- the first so many lines handed their pages over, and no line went through anything
abbrev pub invariant-loop-i : goal.invariant-loop-i
invariant-loop-i g l = EachGoes (λ i. []) l.initial.places l.places × HandedOver l.i l.initial.places l.places l.pages.items
    × Firsts alike l.i l.initial.places l.places
