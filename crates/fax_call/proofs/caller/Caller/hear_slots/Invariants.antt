use Rattle.std.proofs.Common.{◌≡◌, ◌++◌, List, Some, map}
use Rattle.fax_ifp.specs.Elements.{Slot}
use Rattle.fax_ifp.specs.Tracked.{lost_slots}
use Rattle.fax_udptl.specs.Reading.{texts}
use Rattle.fax_jobs.specs.Jobs.{JobValue}
use Rattle.fax_call.specs.Writings.{Writing}
use Rattle.fax_call.specs.Calls.{CallerCore}
use Rattle.fax_call.specs.Following.{IsJobOfCall}
use Rattle.fax_call.specs.Reached.{IsReached, HearsTold}
use Rattle.fax_call.specs.Watching.{Watches}
use Rattle.fax_call.proofs.caller.Caller.hear_slots.Given as goal

-- the slots so far are heard
abbrev pub invariant-loop-packet : goal.invariant-loop-packet
invariant-loop-packet g l = record {
  heard : (writes : Writing) (job : JobValue) (heard : List Slot) (core : CallerCore) → IsReached writes job heard core l.fn.self → HearsTold (Watches g.W.Watcher.tells l.fn.watcher l.watcher) writes job (lost_slots l.decided.lost ++ map Some (texts l.yielded)) l.now heard core l.self;
  job : (job : JobValue) → IsJobOfCall l.fn.self.procedure job → IsJobOfCall l.self.procedure job;
  writer : l.self.writer ≡ l.fn.self.writer;
  spare : l.self.spare ≡ l.fn.self.spare;
}
