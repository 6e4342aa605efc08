-- A wire that holds back what goes out on the calling leg. Lists have the newest first. (This project's profile.)
use Rattle.std.specs.Prelude.{◌≡◌, ℕ, max, Bool, true, false, List, [], ◌∷◌, Option, Some, None, Vec, if◌then◌else◌}
use Rattle.std.specs.declared.alloc.Global.{Global}
use Rattle.fax_gateway.specs.declared.leg.Leg.{Leg}
use Rattle.fax_gateway.specs.declared.leg.Leg.TheVariants as legs
use Rattle.fax_gateway.specs.Wires.{Grows, HandedDatagram, KnownWire}
use Rattle.fax_wires.specs.repeat.Peers.{Peers}
use Rattle.fax_wires.specs.repeat.Policies.{IsToldAs, other_leg}

-- The octets of the datagram that is held, where one is; whether the calling leg is silenced; how many calls failed; what is known
-- of the wire below, the latest moment that it was told, from which moments on it has something to do on both legs, and the peers of
-- these.
pub record HoldingValue : Type 0 where
  pub held : Option (List ℕ)
  pub is_silenced : Bool
  pub failures : ℕ
  pub wire : KnownWire
  pub clock : ℕ
  pub calling_due : Option ℕ
  pub called_due : Option ℕ
  pub peers : Peers

abbrev pub due_on : Leg → HoldingValue → Option ℕ
due_on legs.Calling wire = wire.calling_due
due_on legs.Called wire = wire.called_due

abbrev pub octets_of : Option (Vec ℕ Global) → Option (List ℕ)
octets_of None = None
octets_of (Some octets) = Some octets.items

-- over a wire it holds nothing at first
abbrev pub fresh : KnownWire
    → (clock : ℕ) → (calling_due called_due : Option ℕ) → Peers → HoldingValue
fresh wire clock calling_due called_due peers =
    record {
      held = None;
      is_silenced = false;
      failures = 0;
      wire = wire;
      clock = clock;
      calling_due = calling_due;
      called_due = called_due;
      peers = peers;
    }

-- what is told of it: nothing of what it was handed to send
abbrev pub as_told : HoldingValue → KnownWire
as_told wire = record { failures = wire.failures; received = wire.wire.received; sent = None }

-- a datagram of the calling leg
abbrev pub on_calling_leg : List ℕ → HandedDatagram
on_calling_leg octets = record { leg = legs.Calling; octets = octets }

-- what a release hands over
abbrev pub what_is_held : Option (List ℕ) → List HandedDatagram
what_is_held None = []
what_is_held (Some octets) = on_calling_leg octets ∷ []

-- a datagram is held in place of another one, but by a silenced leg
pub record Holds (octets : List ℕ) (old new : HoldingValue) : Type 0 where
  pub held : new.held ≡ (if old.is_silenced then old.held else Some octets)
  pub is_silenced : new.is_silenced ≡ old.is_silenced
  pub wire : new.wire ≡ old.wire

-- a datagram that memory is refused for is lost
pub record Loses (old new : HoldingValue) : Type 0 where
  pub held : new.held ≡ None
  pub is_silenced : new.is_silenced ≡ old.is_silenced
  pub wire : new.wire ≡ old.wire

-- a datagram of the called leg goes on at once
pub record HandsOn (octets : List ℕ) (old new : HoldingValue) : Type 0 where
  pub held : new.held ≡ old.held
  pub is_silenced : new.is_silenced ≡ old.is_silenced
  pub received : Grows [] old.wire.received new.wire.received
  pub sent : Grows (record { leg = legs.Called; octets = octets } ∷ []) old.wire.sent new.wire.sent

-- a send on a leg, which failed or not
abbrev pub Sends : Leg → List ℕ → Bool → HoldingValue → HoldingValue → Type 0
Sends legs.Calling octets true old new = Holds octets old new
Sends legs.Calling octets false old new = Loses old new
Sends legs.Called octets is_sent old new = HandsOn octets old new

-- What is held stays, and nothing goes on: as where a datagram is received, and as time goes on.
pub record Stays (old new : HoldingValue) : Type 0 where
  pub held : new.held ≡ old.held
  pub is_silenced : new.is_silenced ≡ old.is_silenced
  pub sent : Grows [] old.wire.sent new.wire.sent

-- what is held goes on, to the peer that the leg has
pub record Releases (old new : HoldingValue) : Type 0 where
  pub held : new.held ≡ None
  pub is_silenced : new.is_silenced ≡ old.is_silenced
  pub peers : new.peers ≡ old.peers
  pub received : Grows [] old.wire.received new.wire.received
  pub sent : Grows (what_is_held old.held) old.wire.sent new.wire.sent

-- what is held is dropped, and nothing goes on
pub record Silences (old new : HoldingValue) : Type 0 where
  pub held : new.held ≡ None
  pub is_silenced : new.is_silenced ≡ true
  pub peers : new.peers ≡ old.peers
  pub wire : IsToldAs old.wire new.wire

-- a call begins on a leg: the calling one holds nothing then, and is not silenced
abbrev pub Speaks : Leg → HoldingValue → HoldingValue → Type 0
Speaks legs.Calling old new = (new.held ≡ None) × (new.is_silenced ≡ false)
Speaks legs.Called old new = (new.held ≡ old.held) × (new.is_silenced ≡ old.is_silenced)

-- Nothing goes on, and what the wire below was handed on that leg before is sent no more.
pub record Ceases (at : Leg) (old new : HoldingValue) : Type 0 where
  pub speaks : Speaks at old new
  pub ended : due_on at new ≡ None
  pub beside : due_on (other_leg at) new ≡ due_on (other_leg at) old
  pub sent : Grows [] old.wire.sent new.wire.sent

-- By what the wire below is told of its peers what is held stays, nothing goes on, and there is no more to do, and no less.
pub record TellsPeers (old new : HoldingValue) : Type 0 where
  pub held : new.held ≡ old.held
  pub is_silenced : new.is_silenced ≡ old.is_silenced
  pub clock : new.clock ≡ old.clock
  pub calling_due : new.calling_due ≡ old.calling_due
  pub called_due : new.called_due ≡ old.called_due
  pub sent : Grows [] old.wire.sent new.wire.sent

-- THE WIRE BELOW WAS TOLD THIS MOMENT: one before another that it was told reads as the latest.
abbrev pub IsToldTime : ℕ → HoldingValue → HoldingValue → Type 0
IsToldTime now old new = new.clock ≡ max old.clock now

-- it was told none
abbrev pub KeepsClock : HoldingValue → HoldingValue → Type 0
KeepsClock old new = new.clock ≡ old.clock
