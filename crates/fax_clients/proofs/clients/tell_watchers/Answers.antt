use Rattle.std.proofs.Common.{◌≤◌, ◌<◌, length, arith}
use Rattle.fax_clients.specs.Clients.{IsToldOfLine}
use Rattle.fax_clients.proofs.ClientLemmas.{first_all, first_next}
use Rattle.fax_clients.proofs.clients.tell_watchers.Goals as goal

pub loop-client-preserved : goal.loop-client-preserved
loop-client-preserved c =
    let within : c.loop-client.client-index < length c.loop-client.clients = omega (arith, c.loop-client-test.true, c.loop-client.auto.clients) in
    first_next (IsToldOfLine c.args.line c.args.event.now) c.loop-client.client-index c.args.clients.now c.loop-client.clients c.tell_watched.new.self c.client-item.result c.loop-client.invariant within c.tell_watched.ensures

pub returns : goal.returns
returns c =
    let all : length c.loop-client.clients ≤ c.loop-client.client-index = omega (arith, c.loop-client-test.false, c.loop-client.auto.clients) in
    first_all (IsToldOfLine c.args.line c.args.event.now) c.loop-client.client-index c.args.clients.now c.loop-client.clients c.loop-client.invariant all
