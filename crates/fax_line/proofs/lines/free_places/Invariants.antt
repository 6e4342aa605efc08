use Rattle.std.proofs.Common.{[]}
use Rattle.fax_line.specs.Operations.{EachGoes}
use Rattle.fax_line.proofs.Slots.{Firsts, freed}
use Rattle.fax_line.proofs.lines.free_places.Given as goal

-- the first so many lines wait no more, and no line went through anything
abbrev pub invariant-loop-i : goal.invariant-loop-i
invariant-loop-i g l = EachGoes (λ i. []) l.initial.places l.places × Firsts freed l.i l.initial.places l.places
