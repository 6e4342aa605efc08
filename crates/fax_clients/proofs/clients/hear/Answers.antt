use Rattle.std.proofs.Common.{◌≤◌, ◌<◌, length, arith}
use Rattle.fax_clients.specs.Clients.{HearsNoLine}
use Rattle.fax_clients.proofs.ClientLemmas.{first_all, first_hears, first_next}
use Rattle.fax_clients.proofs.clients.hear.Goals as goal

pub returns-in-Some-clause-heard : goal.returns-in-Some-clause-heard
returns-in-Some-clause-heard c =
    let within : c.loop-i.i < length c.loop-i.clients = omega (arith, c.loop-i-test.true, c.loop-i.auto.clients) in
    first_hears c.loop-i.i c.in-Some.heard c.args.clients.now c.loop-i.clients c.hear.new.self c.index-clients-i.result c.loop-i.invariant within c.in-Some.ensures.heard

pub loop-i-preserved : goal.loop-i-preserved
loop-i-preserved c =
    let within : c.loop-i.i < length c.loop-i.clients = omega (arith, c.loop-i-test.true, c.loop-i.auto.clients) in
    first_next HearsNoLine c.loop-i.i c.args.clients.now c.loop-i.clients c.hear.new.self c.index-clients-i.result c.loop-i.invariant within c.in_default.ensures.none

pub returns-clause-none : goal.returns-clause-none
returns-clause-none c =
    let all : length c.loop-i.clients ≤ c.loop-i.i = omega (arith, c.loop-i-test.false, c.loop-i.auto.clients) in
    first_all HearsNoLine c.loop-i.i c.args.clients.now c.loop-i.clients c.loop-i.invariant all
