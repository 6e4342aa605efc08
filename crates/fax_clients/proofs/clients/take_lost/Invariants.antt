use Rattle.fax_clients.specs.Clients.{IsCounted}
use Rattle.fax_clients.proofs.ClientLemmas.{First}
use Rattle.fax_clients.proofs.clients.take_lost.Given as goal

-- the clients so far
abbrev pub invariant-loop-client : goal.invariant-loop-client
invariant-loop-client l = First IsCounted l.client-index l.initial.clients l.clients
