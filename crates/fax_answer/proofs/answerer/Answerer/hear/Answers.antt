use Rattle.std.proofs.Common.{rules, ◌≡◌, refl, sym, ◌∙◌, ap, subst}
use Rattle.fax_ifp.specs.Pieces.{Piece, Frame, Start, End, Gap}
use Rattle.fax_ifp.specs.Shown.{piece_of}
use Rattle.fax_answer.specs.declared.decision.Decision.TheVariants.{PassOver}
use Rattle.fax_answer.specs.History.{PassesOver}
use Rattle.fax_answer.specs.Replies.{is_waiting}
use Rattle.fax_answer.specs.Images.{ImageValue}
use Rattle.fax_answer.specs.Reached.{Rep, Stands, Takes}
use Rattle.fax_answer.specs.Shown.{confirmed_shown}
use Rattle.fax_answer.specs.Watching.{Watches}
use Rattle.fax_answer.proofs.Tellings.{watches_one}
use Rattle.fax_answer.proofs.ImageLemmas.{goes_same, begun_goes}
use Rattle.fax_answer.proofs.HearingLemmas.{hears_start, hears_end, hears_gap}
use Rattle.fax_answer.proofs.answerer.Answerer.hear.Goals as goal

pub returns-in_err-begin_image-in-Start-clause-goes_on : goal.returns-in_err-begin_image-in-Start-clause-goes_on
returns-in_err-begin_image-in-Start-clause-goes_on g c =
    goes_same _ _ (c.in_err-begin_image-in-Start.ensures.readers ∙ ap (λ (k : Rep). k.image.readers) c.self.view_is)

pub returns-in_err-begin_image-in-End-clause-goes_on : goal.returns-in_err-begin_image-in-End-clause-goes_on
returns-in_err-begin_image-in-End-clause-goes_on g c =
    goes_same _ _ (c.in_err-begin_image-in-End.ensures.readers ∙ ap (λ (k : Rep). k.image.readers) c.self-in-End.view_is)

pub returns-in-Frame-clause-goes_on : goal.returns-in-Frame-clause-goes_on
returns-in-Frame-clause-goes_on g c = goes_same _ _ c.hear_frame.ensures.readers

pub returns-in_ok-begin_image-in-Start-clause-goes_on : goal.returns-in_ok-begin_image-in-Start-clause-goes_on
returns-in_ok-begin_image-in-Start-clause-goes_on g c =
    begun_goes c.note.new.self.state c.self.inside.image.readers c.args.self.now.image.readers c.begin_image.new.self.image.readers (ap (λ (k : Rep). k.image.readers) c.self.view_is)
    (ap (λ (i : ImageValue). i.readers) c.in_ok-begin_image-in-Start.ensures.begun)

pub returns-in_ok-begin_image-in-End-clause-goes_on : goal.returns-in_ok-begin_image-in-End-clause-goes_on
returns-in_ok-begin_image-in-End-clause-goes_on g c =
    begun_goes c.note-in-End.new.self.state c.self-in-End.inside.image.readers c.args.self.now.image.readers c.begin_image-in-End.new.self.image.readers (ap (λ (k : Rep). k.image.readers) c.self-in-End.view_is)
    (ap (λ (i : ImageValue). i.readers) c.in_ok-begin_image-in-End.ensures.begun)

pub returns-in_ok-begin_image-in-Start-clause-heard : goal.returns-in_ok-begin_image-in-Start-clause-heard
returns-in_ok-begin_image-in-Start-clause-heard g c core s =
    let k = subst (λ (x : Rep). Stands core x) (sym c.self.view_is) s in
    let confirmed = confirmed_shown {S = g.row.S.Denot} c.self.inside.confirmed in
    let old : Rep = record { tracked = c.self.inside.signals; procedure = c.self.inside.procedure; image = c.self.inside.image; confirmed = confirmed; refused = c.self.inside.refused; spare = c.self.inside.room } in
    hears_start (Watches g.W.Watcher.tells c.args.watcher.now c.tell.new.watcher) core c.in-Start.field-0 c.args.now (piece_of c.args.piece.now) old c.begin_image.new.self c.note.new.self (ap piece_of c.in-Start.is) k
    (λ can. c.note.ensures.noted core k.confirmed (Start c.in-Start.field-0) PassesOver k.follows (ap piece_of c.in-Start.is) refl can)
    (record { procedure_is = ap (λ (x : Rep). x.procedure) c.begin_image.ensures.same; confirmed = ap (λ (x : Rep). x.confirmed) c.begin_image.ensures.same; refused = ap (λ (x : Rep). x.refused) c.begin_image.ensures.same; image_is = c.in_ok-begin_image-in-Start.ensures.begun })
    (watches_one g.W.Watcher.tells c.args.watcher.now c.tell.new.watcher _
    (subst (λ (p : Piece). g.W.Watcher.tells (record { state = core.state; waits = is_waiting core.waiting; piece = p; verdict = PassOver }) c.args.watcher.now c.tell.new.watcher) (ap piece_of c.in-Start.is) (c.tell.ensures core k.confirmed k.follows)))

pub returns-in_ok-begin_image-in-End-clause-heard : goal.returns-in_ok-begin_image-in-End-clause-heard
returns-in_ok-begin_image-in-End-clause-heard g c core s =
    let k = subst (λ (x : Rep). Stands core x) (sym c.self-in-End.view_is) s in
    let confirmed = confirmed_shown {S = g.row.S.Denot} c.self-in-End.inside.confirmed in
    let old : Rep = record { tracked = c.self-in-End.inside.signals; procedure = c.self-in-End.inside.procedure; image = c.self-in-End.inside.image; confirmed = confirmed; refused = c.self-in-End.inside.refused; spare = c.self-in-End.inside.room } in
    hears_end (Watches g.W.Watcher.tells c.args.watcher.now c.tell-in-End.new.watcher) core c.in-End.whole c.args.now (piece_of c.args.piece.now) old c.begin_image-in-End.new.self c.note-in-End.new.self c.judge_training-decision.result (ap piece_of c.in-End.is) k
    (λ can. c.note-in-End.ensures.noted core k.confirmed (End c.in-End.whole) _ k.follows (ap piece_of c.in-End.is) (c.judge_training-decision.ensures core s) can)
    (record { procedure_is = ap (λ (x : Rep). x.procedure) c.begin_image-in-End.ensures.same; confirmed = ap (λ (x : Rep). x.confirmed) c.begin_image-in-End.ensures.same; refused = ap (λ (x : Rep). x.refused) c.begin_image-in-End.ensures.same; image_is = c.in_ok-begin_image-in-End.ensures.begun })
    (c.judge_training-decision.ensures core s)
    (watches_one g.W.Watcher.tells c.args.watcher.now c.tell-in-End.new.watcher _
    (subst (λ (p : Piece). g.W.Watcher.tells (record { state = core.state; waits = is_waiting core.waiting; piece = p; verdict = c.judge_training-decision.result }) c.args.watcher.now c.tell-in-End.new.watcher) (ap piece_of c.in-End.is) (c.tell-in-End.ensures core k.confirmed k.follows)))

pub returns-in-Gap-clause-heard : goal.returns-in-Gap-clause-heard
returns-in-Gap-clause-heard g c core s =
    let k = subst (λ (x : Rep). Stands core x) (sym c.self-in-Gap.view_is) s in
    let confirmed = confirmed_shown {S = g.row.S.Denot} c.self-in-Gap.inside.confirmed in
    let old : Rep = record { tracked = c.self-in-Gap.inside.signals; procedure = c.self-in-Gap.inside.procedure; image = c.self-in-Gap.inside.image; confirmed = confirmed; refused = c.self-in-Gap.inside.refused; spare = c.self-in-Gap.inside.room } in
    let new : Rep = record { tracked = c.self-in-Gap.inside.signals; procedure = c.note-in-Gap.new.self; image = c.self-in-Gap.inside.image; confirmed = confirmed; refused = c.self-in-Gap.inside.refused; spare = c.self-in-Gap.inside.room } in
    hears_gap (Watches g.W.Watcher.tells c.args.watcher.now c.args.watcher.now) core c.args.now (piece_of c.args.piece.now) old new c.note-in-Gap.new.self (ap piece_of c.in-Gap.is) k
    (λ can. c.note-in-Gap.ensures.noted core k.confirmed Gap PassesOver k.follows (ap piece_of c.in-Gap.is) refl can)
    (record { procedure_is = refl; confirmed = refl; refused = refl; image_is = refl }) refl

pub returns-in-Gap-clause-goes_on : goal.returns-in-Gap-clause-goes_on
returns-in-Gap-clause-goes_on g c = goes_same _ _ (ap (λ (k : Rep). k.image.readers) c.self-in-Gap.view_is)

pub returns-in-Frame-clause-heard : goal.returns-in-Frame-clause-heard
returns-in-Frame-clause-heard g c core s =
    let is : piece_of c.args.piece.now ≡ Frame c.as_slice.result.now = search rules in
    subst (λ (p : Piece). Takes (Watches g.W.Watcher.tells c.args.watcher.now c.hear_frame.new.watcher) p c.args.now core c.hear_frame.new.self) (sym is) (c.hear_frame.ensures.heard core s)

pub returns-in_ok-hear_octets-in-Octets-clause-heard : goal.returns-in_ok-hear_octets-in-Octets-clause-heard
returns-in_ok-hear_octets-in-Octets-clause-heard g c core s =
    subst (λ (p : Piece). Takes (Watches g.W.Watcher.tells c.args.watcher.now c.hear_octets.new.watcher) p c.args.now core c.hear_octets.new.self) (sym (ap piece_of c.in-Octets.is))
    (c.in_ok-hear_octets-in-Octets.ensures.heard core s)
