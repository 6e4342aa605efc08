use Rattle.std.proofs.Common.{◌≡◌, ◌+◌, ◌%◌, List, ◌++◌, Some, length, map, reverse}
use Rattle.fax_ifp.specs.Elements.{Slot}
use Rattle.fax_udptl.specs.Reading.{texts}
use Rattle.fax_explain.specs.Heard.{HasHeard, Hears, IsEar}
use Rattle.fax_explain.specs.Listening.{Ear, marks_left}
use Rattle.fax_explain.specs.Openings.{packets_openings}
use Rattle.fax_explain.proofs.OpenedLemmas.{packets_past}
use Rattle.fax_explain.proofs.listener.Listener.hear_packets.Given as goal

-- the packets so far were told
abbrev pub invariant-loop-packet : goal.invariant-loop-packet
invariant-loop-packet l = record {
  at : l.at ≡ (l.first + length l.yielded) % 65536;
  told : (ear : Ear) → IsEar ear l.fn.self → (slots : List Slot) → HasHeard slots l.fn.self
      → Hears ear (packets_openings ear (marks_left l.fn.self) slots l.first (texts l.yielded)) l.fn.self l.self l.fn.tale l.tale;
  heard : (slots : List Slot) → HasHeard slots l.fn.self → HasHeard (reverse (map Some (texts l.yielded)) ++ slots) l.self;
  marks : (slots : List Slot) → HasHeard slots l.fn.self → marks_left l.self ≡ packets_past slots (texts l.yielded) (marks_left l.fn.self);
}
