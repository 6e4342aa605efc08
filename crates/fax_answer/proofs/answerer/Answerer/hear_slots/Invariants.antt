use Rattle.std.proofs.Common.{◌≡◌, ◌++◌, List, Some, map}
use Rattle.fax_ifp.specs.Elements.{Slot}
use Rattle.fax_ifp.specs.Tracked.{lost_slots}
use Rattle.fax_udptl.specs.Reading.{texts}
use Rattle.fax_answer.specs.Calls.{AnswererCore}
use Rattle.fax_answer.specs.Images.{GoesOn}
use Rattle.fax_answer.specs.Reached.{IsReached, HearsSo}
use Rattle.fax_answer.specs.Watching.{Watches}
use Rattle.fax_answer.proofs.answerer.Answerer.hear_slots.Given as goal

-- the slots so far are heard, and the readers from before go on
abbrev pub invariant-loop-packet : goal.invariant-loop-packet
invariant-loop-packet g l = record {
  heard : (heard : List Slot) (core : AnswererCore) → IsReached heard core l.fn.self → HearsSo (Watches g.W.Watcher.tells l.fn.watcher l.watcher) (lost_slots l.decided.lost ++ map Some (texts l.yielded)) l.now heard core l.self;
  goes_on : GoesOn l.fn.self.image.readers l.self.image.readers;
  confirmed : l.self.confirmed ≡ l.fn.self.confirmed;
  spare : l.self.spare ≡ l.fn.self.spare;
}
