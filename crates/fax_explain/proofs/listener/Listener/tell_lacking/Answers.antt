use Rattle.fax_explain.proofs.OpenedLemmas.{hears_both, ok_then}
use Rattle.fax_explain.proofs.listener.Listener.tell_lacking.Goals as goal

pub returns : goal.returns
returns c = ok_then c.tell_if-2.result c.tell_if-2.ensures (λ second ear is_ear.
    let at = c.args.self.now in
    hears_both ear _ _ at at at c.args.tale.now c.tell_if.new.tale c.tell_if-2.new.tale (c.in_ok-tell_if.ensures ear is_ear) (second ear is_ear))
