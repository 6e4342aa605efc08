use Rattle.fax_clients.specs.Clients.{IsAsked}
use Rattle.fax_clients.proofs.ClientLemmas.{First}
use Rattle.fax_clients.proofs.clients.ask.Given as goal

-- the clients so far
abbrev pub invariant-loop-client : goal.invariant-loop-client
invariant-loop-client l = First IsAsked l.client-index l.initial.clients l.clients
