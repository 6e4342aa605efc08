use Rattle.std.proofs.Common.{sym, subst}
use Rattle.fax_explain.specs.declared.listener.Listener.{Listener}
use Rattle.fax_explain.specs.Heard.{KeepsEar}
use Rattle.fax_explain.proofs.calling.CallingLeg.give.Goals as goal

pub returns-clause-ear : goal.returns-clause-ear
returns-clause-ear c = subst (λ (l : Listener). KeepsEar c.args.self.now.ours l) (sym c.confirm-2.ensures.ours) c.in_ok-hear_unmarked.ensures.ear
