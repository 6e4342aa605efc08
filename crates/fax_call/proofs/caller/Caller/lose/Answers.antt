use Rattle.std.proofs.Common.{refl, sym, subst}
use Rattle.fax_call.specs.Reached.{Rep, IsReached}
use Rattle.fax_call.proofs.HearingLemmas.{loses}
use Rattle.fax_call.proofs.caller.Caller.lose.Goals as goal

pub returns-clause-heard : goal.returns-clause-heard
returns-clause-heard c writes job now heard core r =
    let k = subst (λ (x : Rep). IsReached writes job heard core x) (sym c.self.view_is) r in
    let old : Rep = record { tracked = c.self.inside.signals; procedure = c.self.inside.procedure; writer = c.self.inside.writer; spare = c.self.inside.room } in
    let new : Rep = record { tracked = c.lose.new.self; procedure = c.self.inside.procedure; writer = c.self.inside.writer; spare = c.self.inside.room } in
    loses writes job c.args.count now heard core old new k c.lose.ensures.tracked c.lose.ensures.pieces refl refl
