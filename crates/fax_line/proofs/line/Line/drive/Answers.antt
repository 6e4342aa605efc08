use Rattle.std.proofs.Common.{◌≡◌, ℕ, Bool, [], ◌∷◌, List, subst}
use Rattle.fax_call.specs.Writings.{IsWriting, Writing}
use Rattle.fax_gateway.specs.declared.leg.Leg.{Leg}
use Rattle.fax_gateway.specs.Events.{Event}
use Rattle.fax_gateway.specs.Setups.{Setup}
use Rattle.fax_gateway.specs.Reached.{IsReachedBy}
use Rattle.fax_gateway.specs.Driving.{Entry, HasMade}
use Rattle.fax_gateway.proofs.DrivingLemmas.{wire_shown}
use Rattle.fax_wires.specs.repeat.Peers.{HearsOn}
use Rattle.fax_wires.specs.repeat.Policies.{due_of}
use Rattle.fax_wires.specs.holding.Holding.{HoldingValue, KeepsClock, Sends, Stays, as_told, due_on}
use Rattle.fax_wires.proofs.holding.Clocks.{SameBySend, SameOn, same_over, time_then}
use Rattle.fax_wires.proofs.holding.Held.{held_later, logs_are_held}
use Rattle.fax_line.specs.Actions.{Drives, Goes, LineValue, Turns}
use Rattle.fax_line.proofs.Goings.{drives_turn, goes_turn, line_of}
use Rattle.fax_line.proofs.Heard.{SendStays, hear_later, hear_over}
use Rattle.fax_line.proofs.line.Line.drive.Goals as goal

-- what a receive and a send make of the wire
abbrev Receives : Leg → HoldingValue → HoldingValue → Type 0
Receives at old new = Stays old new × HearsOn at old.peers new.peers × KeepsClock old new

abbrev SendsOn : Leg → List ℕ → Bool → HoldingValue → HoldingValue → Type 0
SendsOn at octets is_sent old new = Sends at octets is_sent old new × (new.peers ≡ old.peers) × KeepsClock old new

pub returns-clause-goes : goal.returns-clause-goes
returns-clause-goes g c =
    let new : LineValue = line_of c.turn-self-inside.new.gateway c.turn-self-inside.new.self (as_told c.turn-self-inside.new.wire) (due_of due_on c.turn-self-inside.new.wire) c.turn-self-inside.new.wire c.turn-self-inside.new.wire.peers c.turn-self-inside.result in
    subst (λ (l : LineValue). Goes (Turns c.args.now ∷ []) l new) c.self.view_is
    (goes_turn c.args.now c.self.inside.gateway c.turn-self-inside.new.gateway c.self.inside.engine c.turn-self-inside.new.self (as_told c.self.inside.wire) (as_told c.go_on.new.self)
    (as_told c.turn-self-inside.new.wire) (due_of due_on c.self.inside.wire) (due_of due_on c.turn-self-inside.new.wire) c.self.inside.wire c.turn-self-inside.new.wire c.self.inside.wire.peers c.turn-self-inside.new.wire.peers c.self.inside.turned c.turn-self-inside.result c.go_on.ensures.told
    (λ (setup : Setup) (writes : Writing) (trace : List Event) (earlier : List Entry) (writing : IsWriting writes) (reached : IsReachedBy setup writes trace c.self.inside.gateway) (made : HasMade earlier c.self.inside.engine).
    let t = c.turn-self-inside.ensures.turned setup writes trace earlier writing reached made in (t.0, t.1, t.2, t.3, t.4))
    c.turn-self-inside.ensures.refusals)

pub returns-clause-drives : goal.returns-clause-drives
returns-clause-drives g c =
    let new : LineValue = line_of c.turn-self-inside.new.gateway c.turn-self-inside.new.self (as_told c.turn-self-inside.new.wire) (due_of due_on c.turn-self-inside.new.wire) c.turn-self-inside.new.wire c.turn-self-inside.new.wire.peers c.turn-self-inside.result in
    let was = c.self.inside.wire in
    let mid = c.go_on.new.self in
    let is = c.turn-self-inside.new.wire in
    let heard_was = c.self.inside.wire.peers in
    let heard_mid = c.go_on.new.self.peers in
    let heard_is = c.turn-self-inside.new.wire.peers in
    subst (λ (l : LineValue). Drives c.args.now l new) c.self.view_is
    (drives_turn c.args.now c.self.inside.gateway c.turn-self-inside.new.gateway c.self.inside.engine c.turn-self-inside.new.self (as_told c.self.inside.wire) (as_told c.go_on.new.self)
    (as_told c.turn-self-inside.new.wire) (due_of due_on c.self.inside.wire) (due_of due_on c.turn-self-inside.new.wire) was is heard_was heard_is c.self.inside.turned c.turn-self-inside.result c.go_on.ensures.told
    (λ (setup : Setup) (writes : Writing) (trace : List Event) (earlier : List Entry) (writing : IsWriting writes) (reached : IsReachedBy setup writes trace c.self.inside.gateway) (made : HasMade earlier c.self.inside.engine).
    let t = c.turn-self-inside.ensures.turned setup writes trace earlier writing reached made in (
      t.0,
      t.1,
      t.2,
      t.3,
      t.4,
      held_later t.0 was mid is (record { held = c.go_on.ensures.held; is_silenced = c.go_on.ensures.silence; sent = c.go_on.ensures.wire.sent })
          (logs_are_held t.0 mid is
          (wire_shown (λ (w : HoldingValue). w) Receives SendsOn (λ at. Stays) Sends t.0 mid is (λ at old new made. made.0) (λ at octets is_sent old new made. made.0) t.5)),
    ))
    (λ (setup : Setup) (writes : Writing) (trace : List Event) (earlier : List Entry) (writing : IsWriting writes) (reached : IsReachedBy setup writes trace c.self.inside.gateway) (made : HasMade earlier c.self.inside.engine).
    let t = c.turn-self-inside.ensures.turned setup writes trace earlier writing reached made in
    hear_later heard_was heard_mid heard_is c.go_on.ensures.peers
    (hear_over t.0 heard_mid heard_is
    (wire_shown (λ (w : HoldingValue). w.peers) Receives SendsOn HearsOn SendStays t.0 mid is (λ at old new made. made.1) (λ at octets is_sent old new made. made.1) t.5)))
    (λ (setup : Setup) (writes : Writing) (trace : List Event) (earlier : List Entry) (writing : IsWriting writes) (reached : IsReachedBy setup writes trace c.self.inside.gateway) (made : HasMade earlier c.self.inside.engine).
    let t = c.turn-self-inside.ensures.turned setup writes trace earlier writing reached made in
    time_then c.args.now was mid is c.go_on.ensures.clock
    (same_over t.0 mid.clock is.clock
    (wire_shown (λ (w : HoldingValue). w.clock) Receives SendsOn SameOn SameBySend t.0 mid is (λ at old new made. made.2) (λ at octets is_sent old new made. made.2) t.5))))
