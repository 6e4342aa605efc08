use Rattle.std.proofs.Common.{refl, sym, subst}
use Rattle.fax_udptl.specs.Datagrams.{datagram_of}
use Rattle.fax_explain.specs.Heard.{KeepsEar}
use Rattle.fax_explain.specs.declared.called.CalledLeg.{CalledLeg}
use Rattle.fax_explain.specs.declared.listener.Listener.{Listener}
use Rattle.fax_explain.proofs.OpenedLemmas.{keeps_marked, told_marked}
use Rattle.fax_explain.proofs.called.CalledLeg.hear.Goals as goal

pub returns-clause-told : goal.returns-clause-told
returns-clause-told c =
    let old : Listener = c.args.self.now.theirs in
    let other : Listener = record old { marks = c.args.marks; taken = 0 } in
    told_marked old c.mark.new.self other (datagram_of c.args.octets.now) c.args.marks.items c.args.tale.now c.hear.new.tale c.mark.ensures refl c.in_ok-hear.ensures.told

pub returns-clause-ear : goal.returns-clause-ear
returns-clause-ear c =
    let old : Listener = c.args.self.now.theirs in
    let other : Listener = record old { marks = c.args.marks; taken = 0 } in
    subst (λ (l : CalledLeg). KeepsEar old l.theirs) (sym c.note.ensures) (keeps_marked old c.mark.new.self other c.hear.new.self c.mark.ensures c.in_ok-hear.ensures.ear)
