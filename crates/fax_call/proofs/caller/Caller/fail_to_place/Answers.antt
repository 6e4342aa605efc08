use Rattle.std.proofs.Common.{sym, subst}
use Rattle.fax_call.specs.Reached.{Rep}
use Rattle.fax_call.specs.Following.{Follows}
use Rattle.fax_call.proofs.caller.Caller.fail_to_place.Goals as goal

pub returns-clause-not_placed : goal.returns-clause-not_placed
returns-clause-not_placed c writes others job other heard core r format pages =
    let f = subst (λ (k : Rep). Follows others other core k.writer k.procedure) (sym c.self.view_is) r.follows in
    record { tracked = c.new.ensures; follows = c.fail_to_place.ensures.not_placed writes others job other core _ _ f format pages }
