use Rattle.std.proofs.Common.{None, refl, sym, ap, subst}
use Rattle.fax_answer.specs.Images.{ImageValue}
use Rattle.fax_answer.specs.Following.{Follows}
use Rattle.fax_answer.specs.Reached.{Rep}
use Rattle.fax_answer.proofs.ReachedLemmas.{stands_new}
use Rattle.fax_answer.proofs.Refused.{reason_rung}
use Rattle.fax_answer.proofs.answerer.Answerer.ring.Goals as goal

pub returns-clause-rung : goal.returns-clause-rung
returns-clause-rung g c heard core r =
    let f : Follows core r.stands.confirmed c.self.inside.procedure = subst (λ (k : Rep). Follows core r.stands.confirmed k.procedure) (sym c.self.view_is) r.stands.follows in
    record {
      tracked = c.new.ensures;
      stands = stands_new _ _ (λ dcs e. cc) refl c.new-2.ensures (c.ring.ensures core r.stands.confirmed f) (reason_rung core c.args.now None);
      settled = ap (λ (i : ImageValue). i.accepted) c.new-2.ensures;
    }
