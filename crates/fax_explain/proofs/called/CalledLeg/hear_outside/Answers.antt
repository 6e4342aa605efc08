use Rattle.std.proofs.Common.{[], subst}
use Rattle.fax_udptl.specs.Datagrams.{datagram_of}
use Rattle.fax_explain.specs.declared.listener.Listener.{Listener}
use Rattle.fax_explain.specs.Heard.{KeepsEar, TellsComing}
use Rattle.fax_explain.proofs.OpenedLemmas.{ok_then}
use Rattle.fax_explain.proofs.called.CalledLeg.hear_outside.Goals as goal

pub returns-clause-told : goal.returns-clause-told
returns-clause-told c = ok_then c.hear_unmarked.result c.hear_unmarked.ensures.told
    (subst (λ (l : Listener). TellsComing l [] (datagram_of c.args.octets.now) c.args.tale.now c.hear_unmarked.new.tale) c.end_call.ensures)

pub returns-clause-ear : goal.returns-clause-ear
returns-clause-ear c = ok_then c.hear_unmarked.result c.hear_unmarked.ensures.ear (subst (λ (l : Listener). KeepsEar l c.hear_unmarked.new.self) c.end_call.ensures)
