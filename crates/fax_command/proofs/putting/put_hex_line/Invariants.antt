use Rattle.std.proofs.Common.{◌≡◌, ℕ, List, ◌++◌, length}
use Rattle.hex.specs.Hex.{encode_lower}
use Rattle.fax_command.specs.Streams.{Puts}
use Rattle.fax_command.proofs.putting.put_hex_line.Given as goal

-- the hex text of the octets before the rest was put
abbrev pub invariant-loop-rest : goal.invariant-loop-rest
invariant-loop-rest g l =
    let sink = g.O.Sink in
    record {
      front : List ℕ;
      all : encode_lower l.octets ≡ front ++ encode_lower l.rest;
      put : Puts (sink.contents l.fn.sink) l.fn.waiting.items (sink.contents l.sink) l.waiting.items front;
      failed : sink.failed l.sink ≡ sink.failed l.fn.sink;
    }

abbrev pub decreases-loop-rest : goal.decreases-loop-rest
decreases-loop-rest g l = length l.rest
