use Rattle.std.proofs.Common.{sym, subst}
use Rattle.fax_call.specs.Reached.{Rep}
use Rattle.fax_call.specs.Following.{Follows}
use Rattle.fax_call.proofs.caller.Caller.start.Goals as goal

pub returns-clause-started : goal.returns-clause-started
returns-clause-started c writes others job other heard core r format pages =
    let f = subst (λ (k : Rep). Follows others other core k.writer k.procedure) (sym c.self.view_is) r.follows in
    record { tracked = c.new.ensures; follows = c.start.ensures.started writes others job other core _ _ f format pages }
