use Rattle.std.proofs.Common.{◌≡◌, ◌≤◌, ℕ, List, length}
use Rattle.std.specs.Io.KnownBytes.{Appends, Consumes}
use Rattle.fax_say.specs.Hearings.{HasHeard}
use Rattle.fax_say.proofs.run.hear.Given as goal

-- what came so far was printed, and belongs to the answer or stands after it
abbrev pub invariant-loop : goal.invariant-loop
invariant-loop g l =
    let source = g.I.Source in
    let sink = g.O.Sink in
    record {
      octets : List ℕ;
      heard : HasHeard l.hearing octets;
      came : Consumes (source.remaining l.fn.source) (source.remaining l.source) octets;
      printed : Appends (sink.contents l.fn.output) (sink.contents l.output) octets;
      stays : l.hearing.stays ≡ l.stays;
      reads : l.counter ≤ source.reads l.source;
      room : length l.room ≡ 4096;
    }
