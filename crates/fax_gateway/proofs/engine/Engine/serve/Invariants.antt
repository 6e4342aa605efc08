use Rattle.std.proofs.Common.{◌≡◌, List, length}
use Rattle.std.specs.List.{All}
use Rattle.fax_call.specs.Writings.{Writing}
use Rattle.fax_gateway.specs.Setups.{Setup}
use Rattle.fax_gateway.specs.Events.{Event}
use Rattle.fax_gateway.specs.Reached.{IsReachedBy}
use Rattle.fax_gateway.specs.Driving.{Comes, Entry, HasMade, RiseAlike, Steps, WireGoes}
use Rattle.fax_gateway.proofs.engine.Engine.serve.Given as goal

-- so many datagrams have come
abbrev pub invariant-loop : goal.invariant-loop
invariant-loop g l = record {
  went : (setup : Setup) (writes : Writing) (trace : List Event) (earlier : List Entry) → IsReachedBy setup writes trace l.fn.gateway → HasMade earlier l.fn.self
      → (came : List Entry) × All (Comes l.leg l.now) came × (length came ≡ l.counter) × Steps setup writes came trace earlier l.gateway (g.W.Wire.known l.fn.wire) (g.W.Wire.known l.wire) l.self
      × WireGoes g.W.Wire.receives g.W.Wire.sends came l.fn.wire l.wire;
  alike : RiseAlike l.fn.gateway.refusals l.gateway.refusals l.fn.self.events_refused l.self.events_refused;
}
