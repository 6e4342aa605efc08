use Rattle.fax_clients.specs.Clients.{IsServed}
use Rattle.fax_clients.proofs.ClientLemmas.{First}
use Rattle.fax_clients.proofs.clients.serve.Given as goal

-- the clients so far
abbrev pub invariant-loop-client : goal.invariant-loop-client
invariant-loop-client l = First IsServed l.client-index l.initial.clients l.clients
