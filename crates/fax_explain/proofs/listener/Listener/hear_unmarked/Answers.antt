use Rattle.std.proofs.Common.{[], drop, ap}
use Rattle.fax_udptl.specs.Datagrams.{datagram_of}
use Rattle.fax_explain.specs.declared.listener.Listener.{Listener}
use Rattle.fax_explain.proofs.OpenedLemmas.{keeps_marked, ok_then, told_marked}
use Rattle.fax_explain.proofs.listener.Listener.hear_unmarked.Goals as goal

pub returns-clause-told : goal.returns-clause-told
returns-clause-told c = ok_then c.hear.result c.hear.ensures.told (λ told.
    let other : Listener = record c.args.self.now { marks = c.new.result; taken = 0 } in
    told_marked c.args.self.now c.mark.new.self other (datagram_of c.args.octets.now) [] c.args.tale.now c.hear.new.tale c.mark.ensures (ap (drop 0) c.new.ensures.items) told)

pub returns-clause-ear : goal.returns-clause-ear
returns-clause-ear c = ok_then c.hear.result c.hear.ensures.ear (λ stays.
    let other : Listener = record c.args.self.now { marks = c.new.result; taken = 0 } in
    keeps_marked c.args.self.now c.mark.new.self other c.hear.new.self c.mark.ensures stays)
