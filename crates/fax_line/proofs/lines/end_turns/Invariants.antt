use Rattle.std.proofs.Common.{[]}
use Rattle.fax_line.specs.Operations.{EachGoes}
use Rattle.fax_line.proofs.Slots.{Firsts, alike, ends_if}
use Rattle.fax_line.proofs.lines.end_turns.Given as goal

-- the first so many lines ended their turns, where their pages are among them, and no line went through anything
abbrev pub invariant-loop-i : goal.invariant-loop-i
invariant-loop-i g l = EachGoes (λ i. []) l.initial.places l.places × Firsts (ends_if l.pages l.is_stored) l.i l.initial.places l.places
    × Firsts alike l.i l.initial.places l.places
