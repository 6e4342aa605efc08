use Rattle.std.proofs.Common.{◌≡◌, ℕ, List, ◌++◌, drop, length}
use Rattle.fax_runcodes.specs.Painted.{AreRising}
use Rattle.fax_runcodes.proofs.RunsOfRow.{runs_between}
use Rattle.fax_command.specs.RowLines.{line_of}
use Rattle.fax_command.specs.Streams.{Puts}
use Rattle.fax_command.proofs.putting.put_line.Given as goal

-- the front of the line was put, and the rest of it is that of the runs which are left
abbrev pub invariant-loop-place : goal.invariant-loop-place
invariant-loop-place g l =
    let sink = g.O.Sink in
    let left = drop l.place-index l.places in
    record {
      front : List ℕ;
      line : line_of (runs_between 0 l.places (length l.row)) ≡ front ++ line_of (runs_between l.from left (length l.row));
      rising : AreRising l.from left (length l.row);
      put : Puts (sink.contents l.fn.sink) l.fn.waiting.items (sink.contents l.sink) l.waiting.items front;
      failed : sink.failed l.sink ≡ sink.failed l.fn.sink;
    }
