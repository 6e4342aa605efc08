use Rattle.fax_clients.specs.Clients.{IsTold}
use Rattle.fax_clients.proofs.ClientLemmas.{First}
use Rattle.fax_clients.proofs.clients.tell.Given as goal

-- the clients so far were told
abbrev pub invariant-loop-client : goal.invariant-loop-client
invariant-loop-client l = First (IsTold l.line) l.client-index l.initial.clients l.clients
