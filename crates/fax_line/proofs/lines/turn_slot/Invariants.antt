use Rattle.fax_line.proofs.Slots.{Rounds}
use Rattle.fax_line.proofs.Turning.{visits_if}
use Rattle.fax_line.proofs.lines.turn_slot.Given as goal

-- the lines of so many rounds had their turns
abbrev pub invariant-loop-round : goal.invariant-loop-round
invariant-loop-round g l = Rounds (visits_if l.slot l.now l.initial.places) l.round l.initial.places l.places
