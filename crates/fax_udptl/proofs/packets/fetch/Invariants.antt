use Rattle.std.proofs.Common.{◌≡◌, ◌++◌}
use Rattle.fax_udptl.specs.Reading.{texts}
use Rattle.fax_udptl.proofs.packets.fetch.Given as goal

abbrev pub invariant-loop-packet : goal.invariant-loop-packet
invariant-loop-packet l = texts l.fetched.items ++ l.packet-iterator ≡ l.initial.packet-iterator
