use Rattle.std.proofs.Common.{◌≡◌, ℕ, List, take}
use Rattle.fax_bits.specs.Laws.{AreOctets}
use Rattle.fax_command.specs.Pictures.{AreRowsOctets}
use Rattle.fax_command.specs.Streams.{Puts}
use Rattle.fax_command.proofs.putting.put_pixels.Given as goal

-- the picture elements of the rows so far were put
abbrev pub invariant-loop-i : goal.invariant-loop-i
invariant-loop-i g l =
    let sink = g.O.Sink in
    record {
      octets : List ℕ;
      of_rows : AreRowsOctets octets (take l.i (g.S.RowStore.rows l.rows));
      are_octets : AreOctets octets;
      put : Puts (sink.contents l.fn.sink) l.fn.waiting.items (sink.contents l.sink) l.waiting.items octets;
      failed : sink.failed l.sink ≡ sink.failed l.fn.sink;
    }
