use Rattle.fax_clients.specs.Clients.{HearsNoLine}
use Rattle.fax_clients.proofs.ClientLemmas.{First}
use Rattle.fax_clients.proofs.clients.hear.Given as goal

-- of the clients so far no line was heard
abbrev pub invariant-loop-i : goal.invariant-loop-i
invariant-loop-i l = First HearsNoLine l.i l.initial.clients l.clients
