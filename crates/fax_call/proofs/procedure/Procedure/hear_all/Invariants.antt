use Rattle.std.proofs.Common.{◌≡◌, take}
use Rattle.fax_ifp.specs.Shown.{pieces_shown}
use Rattle.fax_jobs.specs.Jobs.{JobValue}
use Rattle.fax_pagestore.specs.Writers.{WriterValue}
use Rattle.fax_call.specs.declared.state.State.TheVariants.{Idle}
use Rattle.fax_call.specs.Writings.{Writing}
use Rattle.fax_call.specs.Calls.{CallerCore, came_all}
use Rattle.fax_call.specs.Following.{IsFit, Follows, HasText}
use Rattle.fax_call.specs.Watching.{Watches, tellings}
use Rattle.fax_call.proofs.procedure.Procedure.hear_all.Given as goal

-- the pieces so far are heard
abbrev pub invariant-loop-piece : goal.invariant-loop-piece
invariant-loop-piece g l = record {
  fit : IsFit l.self;
  idle : l.fn.self.state ≡ Idle → l.self ≡ l.fn.self;
  text : (writer : WriterValue) → HasText l.fn.self.pending writer → HasText l.self.pending writer;
  heard : (writes : Writing) (job : JobValue) (core : CallerCore) (writer : WriterValue) → Follows writes job core writer l.fn.self → Follows writes job (came_all core (pieces_shown (take l.piece-index l.pieces)) l.now) writer l.self;
  told : (writes : Writing) (job : JobValue) (core : CallerCore) (writer : WriterValue) → Follows writes job core writer l.fn.self → Watches g.W.Watcher.tells l.fn.watcher l.watcher (tellings core (pieces_shown (take l.piece-index l.pieces)) l.now);
}
