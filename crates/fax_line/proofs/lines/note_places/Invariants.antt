use Rattle.fax_line.specs.Operations.{waits_of}
use Rattle.fax_line.specs.StoredRuns.{NotesFirst}
use Rattle.fax_line.proofs.lines.note_places.Given as goal

-- it was told of the pages of the first so many lines
abbrev pub invariant-loop-i : goal.invariant-loop-i
invariant-loop-i g l = NotesFirst g.K.RunStore.notes (waits_of l.places) l.pages l.places l.i l.initial.store l.store
