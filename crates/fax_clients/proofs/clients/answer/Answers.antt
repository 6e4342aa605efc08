use Rattle.fax_clients.specs.Clients.{answered}
use Rattle.fax_clients.proofs.ClientLemmas.{changed_nowhere, changed_there}
use Rattle.fax_clients.proofs.clients.answer.Goals as goal

pub returns-then-i-clients : goal.returns-then-i-clients
returns-then-i-clients c =
    changed_there (answered c.args.text.items) c.args.i c.args.clients.now c.answer.new.self c.index-clients-i.result c.if-i-clients.true c.answer.ensures

pub returns-else-i-clients : goal.returns-else-i-clients
returns-else-i-clients c = changed_nowhere (answered c.args.text.items) c.args.i c.args.clients.now c.if-i-clients.false
