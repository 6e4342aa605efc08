use Rattle.std.proofs.Common.{◌≡◌, take}
use Rattle.fax_ifp.specs.Shown.{pieces_shown}
use Rattle.fax_answer.specs.Calls.{AnswererCore}
use Rattle.fax_answer.specs.Images.{GoesOn}
use Rattle.fax_answer.specs.Reached.{Stands, TakesAll}
use Rattle.fax_answer.specs.Watching.{Watches}
use Rattle.fax_answer.proofs.answerer.Answerer.hear_all.Given as goal

-- the pieces so far are taken, and the readers from before go on
abbrev pub invariant-loop-piece : goal.invariant-loop-piece
invariant-loop-piece g l = record {
  heard : (core : AnswererCore) → Stands core l.fn.self → TakesAll (Watches g.W.Watcher.tells l.fn.watcher l.watcher) (pieces_shown (take l.piece-index l.pieces)) l.now core l.self;
  tracked : l.self.tracked ≡ l.fn.self.tracked;
  goes_on : GoesOn l.fn.self.image.readers l.self.image.readers;
  confirmed : l.self.confirmed ≡ l.fn.self.confirmed;
  spare : l.self.spare ≡ l.fn.self.spare;
}
