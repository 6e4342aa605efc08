use Rattle.std.proofs.Common.{sym, subst}
use Rattle.fax_call.specs.Following.{Follows, IsJobOfCall}
use Rattle.fax_call.specs.Reached.{Rep}
use Rattle.fax_call.proofs.caller.Caller.hear_all.Goals as goal

pub returns-clause-job : goal.returns-clause-job
returns-clause-job g c job h = c.hear_all.ensures.job job (subst (λ (k : Rep). IsJobOfCall k.procedure job) (sym c.self.view_is) h)

pub returns-clause-told : goal.returns-clause-told
returns-clause-told g c writes job core f = c.hear_all.ensures.told writes job core _ (subst (λ (k : Rep). Follows writes job core k.writer k.procedure) (sym c.self.view_is) f)
