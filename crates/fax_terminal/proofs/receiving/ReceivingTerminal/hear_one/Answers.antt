use Rattle.std.proofs.Common.{Some, refl, sym, subst}
use Rattle.fax_terminal.specs.Terminals.{rung_once}
use Rattle.fax_terminal.specs.Turns.{IsAnswering, ReceivingValue}
use Rattle.fax_terminal.proofs.AnsweringLemmas.{listens}
use Rattle.fax_terminal.proofs.receiving.ReceivingTerminal.hear_one.Goals as goal

pub returns-clause-heard : goal.returns-clause-heard
returns-clause-heard g c = λ setup leg r.
    let l = rung_once setup c.args.now leg in
    let rung = subst (λ (k : ReceivingValue). IsAnswering setup (Some l) k) (sym c.self.view_is) (c.in_ok-ring_once.ensures.rung setup leg r) in
    listens setup l c.args.now c.args.octets.now _ _ refl refl (c.in_ok-hear.ensures.heard setup (Some l) rung.calling).hears rung
