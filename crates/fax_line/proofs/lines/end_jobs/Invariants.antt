use Rattle.fax_line.specs.Operations.{waits_of}
use Rattle.fax_line.proofs.Telling.{Collected}
use Rattle.fax_line.proofs.lines.end_jobs.Given as goal

-- it was told of the jobs of the first so many lines, or they are to be told still
abbrev pub invariant-loop-i : goal.invariant-loop-i
invariant-loop-i g l = Collected g.K.RunStore.ends (waits_of l.places) l.places l.i l.initial.store l.store l.ended.items
