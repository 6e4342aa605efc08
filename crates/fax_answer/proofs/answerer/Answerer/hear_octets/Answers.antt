use Rattle.std.proofs.Common.{◌≡◌, refl, sym, ◌∙◌, ap, subst}
use Rattle.fax_ifp.specs.Pieces.{Octets}
use Rattle.fax_answer.specs.declared.procedure.Procedure.{Procedure}
use Rattle.fax_answer.specs.History.{PassesOver}
use Rattle.fax_answer.specs.Images.{GoesOn}
use Rattle.fax_answer.specs.Following.{Follows}
use Rattle.fax_answer.specs.Reached.{Rep}
use Rattle.fax_answer.specs.Shown.{confirmed_shown}
use Rattle.fax_answer.specs.Watching.{Watches}
use Rattle.fax_answer.proofs.Tellings.{watches_one}
use Rattle.fax_answer.proofs.ImageLemmas.{goes_same, goes_fed}
use Rattle.fax_answer.proofs.HearingLemmas.{hears_octets}
use Rattle.fax_answer.proofs.answerer.Answerer.hear_octets.Goals as goal

pub returns-in_err-read_octets-clause-goes_on : goal.returns-in_err-read_octets-clause-goes_on
returns-in_err-read_octets-clause-goes_on g c = goes_same _ _ (ap (λ (k : Rep). k.image.readers) c.in_err-read_octets.ensures.err)

pub returns-clause-goes_on : goal.returns-clause-goes_on
returns-clause-goes_on g c =
    subst (GoesOn c.args.self.now.image.readers) (sym (ap (λ (k : Rep). k.image.readers) c.self.view_is))
    (goes_fed c.args.self.now.procedure.state c.args.octets.now c.args.self.now.image.readers c.read_octets.new.self.image.readers c.in_ok-read_octets.ensures.taken.readers)

pub returns-clause-heard : goal.returns-clause-heard
returns-clause-heard g c core s =
    let same = c.self.view_is ∙ c.read_octets.ensures.same in
    let confirmed = confirmed_shown {S = g.row.S.Denot} c.self.inside.confirmed in
    let new : Rep = record { tracked = c.self.inside.signals; procedure = c.note.new.self; image = c.self.inside.image; confirmed = confirmed; refused = c.self.inside.refused; spare = c.self.inside.room } in
    let procedure : c.self.inside.procedure ≡ c.args.self.now.procedure = ap (λ (x : Rep). x.procedure) same in
    let follows : Follows core s.confirmed c.self.inside.procedure = subst (λ (x : Procedure). Follows core s.confirmed x) (sym procedure) s.follows in
    hears_octets (Watches g.W.Watcher.tells c.args.watcher.now c.tell.new.watcher) core c.args.octets.now c.args.now (Octets c.args.octets.now) c.args.self.now new c.note.new.self c.read_octets.new.self.image refl s
    (λ can. c.note.ensures.noted core s.confirmed (Octets c.args.octets.now) PassesOver follows refl refl can)
    c.in_ok-read_octets.ensures.taken
    (record { procedure_is = refl; confirmed = ap (λ (x : Rep). x.confirmed) same; refused = ap (λ (x : Rep). x.refused) same; image_is = ap (λ (x : Rep). x.image) c.self.view_is })
    (watches_one g.W.Watcher.tells c.args.watcher.now c.tell.new.watcher _ (c.tell.ensures core s.confirmed follows))
