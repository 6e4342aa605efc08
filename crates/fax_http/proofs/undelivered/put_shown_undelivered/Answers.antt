use Rattle.std.proofs.Common.{flat_map}
use Rattle.fax_http.specs.declared.undelivered.TheConstants.{UNDELIVERED, UNDELIVERED_END}
use Rattle.fax_http.specs.Undelivered.{call_part, shown_undelivered}
use Rattle.fax_http.proofs.PartLemmas.{three}
use Rattle.fax_http.proofs.undelivered.put_shown_undelivered.Goals as goal

pub returns : goal.returns
unfolding shown_undelivered
returns c =
    three c.put-2.result c.args.octets.now.items UNDELIVERED.now (flat_map call_part c.args.calls.now) UNDELIVERED_END.now
    _ _ _
    c.in_ok-put.ensures c.in_ok-put_calls.ensures c.put-2.ensures
