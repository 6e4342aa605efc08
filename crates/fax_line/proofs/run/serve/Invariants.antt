use Rattle.std.proofs.Common.{List}
use Rattle.fax_line.specs.Pacing.{IsPaced}
use Rattle.fax_line.specs.Runs.{DoneOrder}
use Rattle.fax_line.proofs.Early.{Early}
use Rattle.fax_line.proofs.StoredRunning.{On}
use Rattle.fax_line.proofs.run.serve.Given as goal

abbrev pub invariant-loop : goal.invariant-loop
invariant-loop g l = (done : List DoneOrder)
    × On g.row.K.Denot g.K.RunStore.is_same g.K.PageStore.puts g.K.RunStore.notes g.K.RunStore.ends l.initial.lines.slot l.latest l.initial.lines.lines l.lines.lines l.lines.slot l.counter
    (g.P.Pace.words l.initial.pace) (g.P.Pace.words l.pace) l.initial.store l.store done
    × IsPaced g.P.Pace.gives g.P.Pace.hears g.P.Pace.sees done l.initial.pace l.pace × Early l.lines.slot l.lines.lines
