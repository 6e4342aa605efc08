use Rattle.std.proofs.Common.{sym, subst}
use Rattle.fax_answer.specs.Reached.{Rep, IsReached}
use Rattle.fax_answer.proofs.ReachedLemmas.{settled_follows}
use Rattle.fax_answer.proofs.answerer.Answerer.acting.Goals as goal

pub returns : goal.returns
returns g c heard core r = c.acting.ensures core _ (settled_follows heard core _ (subst (λ (k : Rep). IsReached heard core k) (sym c.self.view_is) r))
