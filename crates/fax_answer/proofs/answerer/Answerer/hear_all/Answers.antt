use Rattle.std.proofs.Common.{rules, ◌≡◌, ℕ, List, length, take, refl, ◌∙◌, ap, subst}
use Rattle.std.proofs.Math.Seq.{take-length}
use Rattle.fax_ifp.specs.declared.piece.Piece as code_pieces
use Rattle.fax_ifp.specs.Pieces.{Piece}
use Rattle.fax_ifp.specs.Shown.{piece_of, pieces_shown}
use Rattle.fax_answer.specs.Reached.{TakesAll}
use Rattle.fax_answer.specs.Watching.{Watches}
use Rattle.fax_answer.proofs.Tellings.{watches_more}
use Rattle.fax_answer.proofs.SlotsLemmas.{takes_none, takes_more, shown_more}
use Rattle.fax_answer.proofs.ImageLemmas.{goes_itself, goes_further}
use Rattle.fax_answer.proofs.answerer.Answerer.hear_all.Goals as goal

pub loop-piece-preserved : goal.loop-piece-preserved
loop-piece-preserved g c =
    let i : ℕ = c.loop-piece.piece-index in
    let before = c.loop-piece.invariant in
    record {
      heard = λ core s.
          subst (λ (ps : List Piece). TakesAll (Watches g.W.Watcher.tells c.args.watcher.now c.hear.new.watcher) ps c.args.now core c.hear.new.self) (shown_more c.args.pieces.now i c.piece-item.result c.loop-piece-test.true c.piece-item.is)
          (takes_more (Watches g.W.Watcher.tells c.args.watcher.now c.loop-piece.watcher) (Watches g.W.Watcher.tells c.loop-piece.watcher c.hear.new.watcher) (Watches g.W.Watcher.tells c.args.watcher.now c.hear.new.watcher)
          (λ s t x y. watches_more g.W.Watcher.tells c.args.watcher.now c.loop-piece.watcher c.hear.new.watcher s t x y) core c.args.now (pieces_shown (take i c.args.pieces.now)) (piece_of c.piece-item.result) c.loop-piece.self c.hear.new.self (before.heard core s) c.in_ok-hear.ensures.heard);
      tracked = c.hear.ensures.tracked ∙ before.tracked;
      goes_on = goes_further c.args.self.now.image.readers c.loop-piece.self.image.readers c.hear.new.self.image.readers before.goes_on c.hear.ensures.goes_on;
      confirmed = c.hear.ensures.confirmed ∙ before.confirmed;
      spare = c.hear.ensures.spare ∙ before.spare;
    }

pub loop-piece-init : goal.loop-piece-init
loop-piece-init g c = record {
  heard = λ core s. takes_none (Watches g.W.Watcher.tells c.args.watcher.now c.args.watcher.now) core c.args.now c.args.self.now refl s;
  tracked = refl;
  goes_on = goes_itself c.args.self.now.image.readers;
  confirmed = refl;
  spare = refl;
}

pub returns-in_err-hear-clause-goes_on : goal.returns-in_err-hear-clause-goes_on
returns-in_err-hear-clause-goes_on g c =
    goes_further c.args.self.now.image.readers c.loop-piece.self.image.readers c.hear.new.self.image.readers c.loop-piece.invariant.goes_on c.hear.ensures.goes_on

pub returns-clause-heard : goal.returns-clause-heard
returns-clause-heard g c core s =
    let end : c.loop-piece.piece-index ≡ length c.args.pieces.now = search rules in
    let all : take c.loop-piece.piece-index c.args.pieces.now ≡ c.args.pieces.now = ap (λ (n : ℕ). take n c.args.pieces.now) end ∙ take-length c.args.pieces.now in
    subst (λ (ps : List code_pieces.Piece). TakesAll (Watches g.W.Watcher.tells c.args.watcher.now c.loop-piece.watcher) (pieces_shown ps) c.args.now core c.loop-piece.self) all (c.loop-piece.invariant.heard core s)
