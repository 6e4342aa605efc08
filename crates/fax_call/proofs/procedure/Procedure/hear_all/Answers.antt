use Rattle.std.proofs.Common.{◌≡◌, ℕ, List, [], ◌∷◌, sym, ◌∙◌, ap, subst, take, length, rules}
use Rattle.std.proofs.Math.Seq.{take-length}
use Rattle.fax_ifp.specs.declared.piece.Piece as code_pieces
use Rattle.fax_ifp.specs.Pieces.{Piece}
use Rattle.fax_ifp.specs.Shown.{piece_of, pieces_shown}
use Rattle.fax_call.specs.declared.procedure.Procedure.{Procedure}
use Rattle.fax_call.specs.declared.state.State.TheVariants.{Idle}
use Rattle.fax_call.specs.Calls.{CallerCore, came_all}
use Rattle.fax_call.specs.Following.{Follows}
use Rattle.fax_call.specs.Watching.{Watches, tellings}
use Rattle.fax_call.proofs.Tellings.{tellings_append, watches_more}
use Rattle.fax_call.proofs.HearingLemmas.{came_more, shown_more}
use Rattle.fax_call.proofs.JobLemmas.{heard_job}
use Rattle.fax_call.proofs.procedure.Procedure.hear_all.Goals as goal

pub loop-piece-preserved : goal.loop-piece-preserved
loop-piece-preserved g c =
    let i : ℕ = c.loop-piece.piece-index in
    let before = c.loop-piece.invariant in
    record {
      fit = c.hear.ensures.fit;
      idle = λ e. c.hear.ensures.idle (ap (λ (p : Procedure). p.state) (before.idle e) ∙ e) ∙ before.idle e;
      text = λ writer h. c.hear.ensures.text writer (before.text writer h);
      heard = λ writes job core writer f.
          subst (λ (ps : List Piece). Follows writes job (came_all core ps c.args.now) writer c.hear.new.self) (shown_more c.args.pieces.now i c.piece-item.result c.loop-piece-test.true c.piece-item.is)
          (subst (λ (a : CallerCore). Follows writes job a writer c.hear.new.self) (sym (came_more core (pieces_shown (take i c.args.pieces.now)) (piece_of c.piece-item.result) c.args.now))
          (c.hear.ensures.heard writes job _ writer (before.heard writes job core writer f)));
      told = λ writes job core writer f.
          let earlier : List Piece = pieces_shown (take i c.args.pieces.now) in
          let p : Piece = piece_of c.piece-item.result in
          subst (λ (ps : List Piece). Watches g.W.Watcher.tells c.args.watcher.now c.hear.new.watcher (tellings core ps c.args.now)) (shown_more c.args.pieces.now i c.piece-item.result c.loop-piece-test.true c.piece-item.is)
          (subst (Watches g.W.Watcher.tells c.args.watcher.now c.hear.new.watcher) (sym (tellings_append core earlier (p ∷ []) c.args.now))
          (watches_more g.W.Watcher.tells c.args.watcher.now c.loop-piece.watcher c.hear.new.watcher _ _ (before.told writes job core writer f)
          (c.hear.ensures.told writes job (came_all core earlier c.args.now) writer (before.heard writes job core writer f))));
    }

pub returns-clause-job : goal.returns-clause-job
returns-clause-job g c job h n =
    let all = c.loop-piece.invariant in
    let on : c.args.self.now.state ≡ Idle → ⊥ = λ e. n (ap (λ (p : Procedure). p.state) (all.idle e) ∙ e) in
    heard_job c.args.self.now c.loop-piece.self job (pieces_shown (take c.loop-piece.piece-index c.args.pieces.now)) c.args.now all.heard all.fit (h on)

pub returns-clause-told : goal.returns-clause-told
returns-clause-told g c writes job core writer f =
    let end : c.loop-piece.piece-index ≡ length c.args.pieces.now = search rules in
    let all : take c.loop-piece.piece-index c.args.pieces.now ≡ c.args.pieces.now = ap (λ (n : ℕ). take n c.args.pieces.now) end ∙ take-length c.args.pieces.now in
    subst (λ (ps : List code_pieces.Piece). Watches g.W.Watcher.tells c.args.watcher.now c.loop-piece.watcher (tellings core (pieces_shown ps) c.args.now)) all (c.loop-piece.invariant.told writes job core writer f)
