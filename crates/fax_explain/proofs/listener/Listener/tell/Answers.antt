use Rattle.fax_explain.proofs.OpenedLemmas.{line_outside}
use Rattle.fax_explain.proofs.listener.Listener.tell.Goals as goal

pub returns-in_ok-add : goal.returns-in_ok-add
returns-in_ok-add c = line_outside c.args.self.now c.args.words.now _ _ _ c.if-self.true c.in_ok-tell.ensures c.in_ok-add.ensures
