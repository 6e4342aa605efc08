use Rattle.std.proofs.Common.{refl}
use Rattle.fax_udptl.specs.Datagrams.{datagram_of}
use Rattle.fax_explain.specs.declared.listener.Listener.{Listener}
use Rattle.fax_explain.proofs.OpenedLemmas.{keeps_marked, ok_then, told_marked}
use Rattle.fax_explain.proofs.calling.CallingLeg.hear.Goals as goal

pub returns-clause-told : goal.returns-clause-told
returns-clause-told c = ok_then c.hear.result c.hear.ensures.told (λ told.
    let old : Listener = c.args.self.now.theirs in
    let other : Listener = record old { marks = c.args.marks; taken = 0 } in
    told_marked old c.mark.new.self other (datagram_of c.args.octets.now) c.args.marks.items c.args.tale.now c.hear.new.tale c.mark.ensures refl told)

pub returns-clause-ear : goal.returns-clause-ear
returns-clause-ear c = ok_then c.hear.result c.hear.ensures.ear (λ stays.
    let old : Listener = c.args.self.now.theirs in
    let other : Listener = record old { marks = c.args.marks; taken = 0 } in
    keeps_marked old c.mark.new.self other c.hear.new.self c.mark.ensures stays)
