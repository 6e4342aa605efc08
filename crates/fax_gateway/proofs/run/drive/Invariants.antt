use Rattle.std.proofs.Common.{◌≡◌, ◌<◌, ◌≤◌, List, length}
use Rattle.std.specs.List.{count_by}
use Rattle.fax_call.specs.Writings.{IsWriting, Writing}
use Rattle.fax_gateway.specs.Setups.{Setup}
use Rattle.fax_gateway.specs.Events.{Event}
use Rattle.fax_gateway.specs.Reached.{IsReachedBy}
use Rattle.fax_gateway.specs.Driving.{AreRounds, Entry, HasMade, Happens, RiseAlike, failed_in_a_row, is_refused_ring, log_of, most_failed, receipts}
use Rattle.fax_gateway.proofs.run.drive.Given as goal

-- so many rounds are made, and the last 100 receives did not all fail
abbrev pub invariant-loop-turn : goal.invariant-loop-turn
invariant-loop-turn g l = record {
  few : l.rings_refused ≤ l.turn-counter;
  ran : (setup : Setup) (writes : Writing) (trace : List Event) → IsWriting writes → IsReachedBy setup writes trace l.fn.gateway
      → (rounds : List (List Entry)) × AreRounds l.start l.rings rounds × (length rounds ≡ l.turn-counter) × (failed_in_a_row (receipts (log_of rounds)) < most_failed)
      × (l.rings_refused ≡ count_by is_refused_ring (log_of rounds))
      × Happens setup writes (log_of rounds) trace l.gateway (g.W.Wire.known l.fn.wire) (g.W.Wire.known l.wire) × HasMade (log_of rounds) l.engine;
  alike : RiseAlike l.fn.gateway.refusals l.gateway.refusals 0 l.engine.events_refused;
}
