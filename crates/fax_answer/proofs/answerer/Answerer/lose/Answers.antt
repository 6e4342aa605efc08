use Rattle.std.proofs.Common.{◌≡◌, ◌<◌, refl, sym, subst, arith, rules}
use Rattle.fax_ifp.specs.Pieces.{Gap}
use Rattle.fax_answer.specs.History.{PassesOver}
use Rattle.fax_answer.specs.Reached.{Rep, IsReached}
use Rattle.fax_answer.specs.Shown.{confirmed_shown}
use Rattle.fax_answer.proofs.HearingLemmas.{over_can}
use Rattle.fax_answer.proofs.ReachedLemmas.{settled_follows}
use Rattle.fax_answer.proofs.SlotsLemmas.{loses}
use Rattle.fax_answer.proofs.answerer.Answerer.lose.Goals as goal

pub returns-then-count-gt0-clause-heard : goal.returns-then-count-gt0-clause-heard
returns-then-count-gt0-clause-heard g c heard core r =
    let k = subst (λ (x : Rep). IsReached heard core x) (sym c.self.view_is) r in
    let confirmed = confirmed_shown {S = g.row.S.Denot} c.self.inside.confirmed in
    let old : Rep = record { tracked = c.self.inside.signals; procedure = c.self.inside.procedure; image = c.self.inside.image; confirmed = confirmed; refused = c.self.inside.refused; spare = c.self.inside.room } in
    let new : Rep = record { tracked = c.lose.new.self; procedure = c.note.new.self; image = c.self.inside.image; confirmed = confirmed; refused = c.self.inside.refused; spare = c.self.inside.room } in
    let some : 0 < c.args.count = search rules in
    loses c.args.count c.args.now heard core old new k c.lose.ensures.tracked c.lose.ensures.pieces refl refl refl
    (λ zero. absurd (omega arith), λ h. c.note.ensures.noted core confirmed Gap PassesOver (settled_follows heard core old k) refl refl (over_can core k.stands.follows.rests))

pub returns-else-count-gt0-clause-heard : goal.returns-else-count-gt0-clause-heard
returns-else-count-gt0-clause-heard g c heard core r =
    let k = subst (λ (x : Rep). IsReached heard core x) (sym c.self.view_is) r in
    let confirmed = confirmed_shown {S = g.row.S.Denot} c.self.inside.confirmed in
    let old : Rep = record { tracked = c.self.inside.signals; procedure = c.self.inside.procedure; image = c.self.inside.image; confirmed = confirmed; refused = c.self.inside.refused; spare = c.self.inside.room } in
    let new : Rep = record { tracked = c.lose.new.self; procedure = c.self.inside.procedure; image = c.self.inside.image; confirmed = confirmed; refused = c.self.inside.refused; spare = c.self.inside.room } in
    let none : c.args.count ≡ 0 = search rules in
    loses c.args.count c.args.now heard core old new k c.lose.ensures.tracked c.lose.ensures.pieces refl refl refl (λ zero. refl, λ h. absurd (omega arith))
