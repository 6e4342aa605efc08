use Rattle.std.proofs.Common.{sym, subst}
use Rattle.fax_gateway.specs.Reached.{CallingValue, IsCalling}
use Rattle.fax_gateway.proofs.Watched.{calling_acts}
use Rattle.fax_gateway.proofs.answerer_endpoint.AnswererEndpoint.acting.Goals as goal

pub returns : goal.returns
returns g c setup leg r =
    let s = subst (λ (k : CallingValue). IsCalling setup leg k) (sym c.self.view_is) r in
    calling_acts setup leg _ c.args.now c.acting.result s c.acting.ensures
