use Rattle.std.proofs.Common.{sym, subst}
use Rattle.fax_call.specs.Reached.{Rep, IsReached}
use Rattle.fax_call.proofs.caller.Caller.acting.Goals as goal

pub returns : goal.returns
returns c writes job heard core r =
    let s = subst (λ (k : Rep). IsReached writes job heard core k) (sym c.self.view_is) r in
    c.acting.ensures writes job core _ s.follows
