use Rattle.std.proofs.Common.{◌≡◌, List, refl, sym, ap, subst, rules}
use Rattle.fax_ifp.specs.Pieces.{Piece, Frame}
use Rattle.fax_answer.specs.declared.pending.Pending.TheVariants.{Nothing}
use Rattle.fax_answer.specs.declared.decision.Decision.TheVariants.{PassOver}
use Rattle.fax_answer.specs.History.{PassesOver}
use Rattle.fax_answer.specs.Replies.{is_waiting}
use Rattle.fax_pagestore.specs.Readers.{ReaderValue}
use Rattle.fax_answer.specs.Reached.{Rep, Stands, Answers}
use Rattle.fax_answer.specs.Shown.{confirmed_shown}
use Rattle.fax_answer.specs.Watching.{Watches}
use Rattle.fax_answer.proofs.Tellings.{watches_one}
use Rattle.fax_answer.proofs.HearingLemmas.{over_can, waits_shown, rests_shown}
use Rattle.fax_answer.proofs.AnswerLemmas.{frame_waits, frame_free}
use Rattle.fax_answer.proofs.answerer.Answerer.hear_frame.Goals as goal

pub returns-then-is_waiting-clause-heard : goal.returns-then-is_waiting-clause-heard
returns-then-is_waiting-clause-heard g c core s =
    let k = subst (λ (x : Rep). Stands core x) (sym c.self.view_is) s in
    let some : c.self.inside.procedure.pending ≡ Nothing → ⊥ = search rules in
    let confirmed = confirmed_shown {S = g.row.S.Denot} c.self.inside.confirmed in
    let old : Rep = record { tracked = c.self.inside.signals; procedure = c.self.inside.procedure; image = c.self.inside.image; confirmed = confirmed; refused = c.self.inside.refused; spare = c.self.inside.room } in
    frame_waits (Watches g.W.Watcher.tells c.args.watcher.now c.tell.new.watcher) core c.args.octets.now c.args.now old _ c.note.new.self k (waits_shown core k.confirmed c.self.inside.procedure k.follows some)
    (c.note.ensures.noted core k.confirmed (Frame c.args.octets.now) PassesOver k.follows c.requires refl (over_can core k.follows.rests))
    (record { procedure_is = refl; confirmed = refl; refused = refl; image_is = refl })
    (watches_one g.W.Watcher.tells c.args.watcher.now c.tell.new.watcher _
    (subst (λ (p : Piece). g.W.Watcher.tells (record { state = core.state; waits = is_waiting core.waiting; piece = p; verdict = PassOver }) c.args.watcher.now c.tell.new.watcher) c.requires (c.tell.ensures core k.confirmed k.follows)))

pub returns-clause-heard : goal.returns-clause-heard
returns-clause-heard g c core s =
    let k = subst (λ (x : Rep). Stands core x) (sym c.self.view_is) s in
    let none : c.self.inside.procedure.pending ≡ Nothing = search rules in
    let confirmed = confirmed_shown {S = g.row.S.Denot} c.self.inside.confirmed in
    let old : Rep = record { tracked = c.self.inside.signals; procedure = c.self.inside.procedure; image = c.self.inside.image; confirmed = confirmed; refused = c.self.inside.refused; spare = c.self.inside.room } in
    frame_free (Watches g.W.Watcher.tells c.args.watcher.now c.tell-2.new.watcher) core c.args.octets.now c.args.now old _ c.note-2.new.self c.answer-answer.result k (rests_shown core k.confirmed c.self.inside.procedure k.follows none) (k.follows.quiet none)
    (subst (λ (r : List ReaderValue). Answers c.args.octets.now core r c.answer-answer.result) (ap (λ (x : Rep). x.image.readers) (sym c.self.view_is)) (c.answer-answer.ensures core s))
    (λ d verdict can. c.note-2.ensures.noted core k.confirmed (Frame c.args.octets.now) d k.follows c.requires verdict can)
    (record { procedure_is = refl; confirmed = refl; refused = refl; image_is = c.accept.ensures })
    (watches_one g.W.Watcher.tells c.args.watcher.now c.tell-2.new.watcher _
    (subst (λ (p : Piece). g.W.Watcher.tells (record { state = core.state; waits = is_waiting core.waiting; piece = p; verdict = c.answer-answer.result.decision }) c.args.watcher.now c.tell-2.new.watcher) c.requires (c.tell-2.ensures core k.confirmed k.follows)))
