use Rattle.std.proofs.Common.{◌≡◌, ℕ, List, vec_len}
use Rattle.std.specs.Io.KnownBytes.{Consumes}
use Rattle.fax_capture.specs.Rep.{HasRead}
use Rattle.fax_capture.proofs.reading.script_of.Given as goal

-- what was read so far, in as many reads as the loop has made turns, and what was told of it
abbrev pub invariant-loop : goal.invariant-loop
invariant-loop g l =
    let source = g.I.Source in
    record {
      counted : source.reads l.fn.source ≡ 0 → source.reads l.source ≡ l.counter;
      unfailed : source.failed l.source ≡ source.failed l.fn.source;
      room : vec_len l.buffer ≡ 65536;
      read : List ℕ;
      consumed : Consumes (source.remaining l.fn.source) (source.remaining l.source) read;
      has : HasRead l.options read l.capture l.script l.left.items;
    }
