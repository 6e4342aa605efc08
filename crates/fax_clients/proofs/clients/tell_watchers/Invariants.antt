use Rattle.fax_clients.specs.Clients.{IsToldOfLine}
use Rattle.fax_clients.proofs.ClientLemmas.{First}
use Rattle.fax_clients.proofs.clients.tell_watchers.Given as goal

-- the clients so far were told
abbrev pub invariant-loop-client : goal.invariant-loop-client
invariant-loop-client l = First (IsToldOfLine l.line l.event) l.client-index l.initial.clients l.clients
