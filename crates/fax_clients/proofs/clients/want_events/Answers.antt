use Rattle.std.proofs.Common.{◌≡◌, slice_index_or, slice_set}
use Rattle.fax_clients.specs.Clients.{changed_at, wanting}
use Rattle.fax_clients.proofs.ClientLemmas.{changed_nowhere, changed_there, ok_then}
use Rattle.fax_clients.proofs.clients.want_events.Goals as goal

pub returns-then-i-clients-clause-ok : goal.returns-then-i-clients-clause-ok
returns-then-i-clients-clause-ok c = changed_nowhere wanting c.args.i c.args.clients.now c.if-i-clients.true

pub returns-clause-ok : goal.returns-clause-ok
returns-clause-ok c =
    ok_then c.want_events.result (c.want_events.new.self ≡ wanting (slice_index_or c.args.clients.now c.args.i c.index-clients-i.result))
    (slice_set c.args.clients.now c.args.i c.want_events.new.self ≡ changed_at wanting c.args.i c.args.clients.now) c.want_events.ensures.ok
    (λ is. changed_there wanting c.args.i c.args.clients.now c.want_events.new.self c.index-clients-i.result c.if-i-clients.false is)
