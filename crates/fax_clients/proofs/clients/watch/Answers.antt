use Rattle.fax_clients.specs.Clients.{watching}
use Rattle.fax_clients.proofs.ClientLemmas.{changed_nowhere, changed_there}
use Rattle.fax_clients.proofs.clients.watch.Goals as goal

pub returns-then-i-clients : goal.returns-then-i-clients
returns-then-i-clients c =
    changed_there (watching c.args.line) c.args.i c.args.clients.now c.watch.new.self c.index-clients-i.result c.if-i-clients.true c.watch.ensures

pub returns-else-i-clients : goal.returns-else-i-clients
returns-else-i-clients c = changed_nowhere (watching c.args.line) c.args.i c.args.clients.now c.if-i-clients.false
