use Rattle.std.proofs.Common.{◌≡◌, drop}
use Rattle.fax_udptl.proofs.secondaries.Secondaries.take_first.Given as goal

abbrev pub invariant-loop : goal.invariant-loop
invariant-loop l = l.self ≡ drop l.counter l.initial.self
