use Rattle.fax_clients.specs.Clients.{WritesOn}
use Rattle.fax_clients.proofs.journal.Journal.go_on.Given as goal

-- so much was written so far
abbrev pub invariant-loop : goal.invariant-loop
invariant-loop l = WritesOn l.initial.self l.self
