-- Which datagram is sent again, and when. Lists have the newest first. (This project's profile.)
use Rattle.std.specs.Prelude.{◌≡◌, ℕ, ◌+◌, ◌-◌, ◌^◌, min, Bool, false, nat_le, List, [], ◌∷◌, ◌++◌, length, Option, Some, None, if◌then◌else◌}
use Rattle.fax_gateway.specs.declared.leg.Leg.{Leg}
use Rattle.fax_gateway.specs.declared.leg.Leg.TheVariants as legs
use Rattle.fax_gateway.specs.Wires.{Grows, HandedDatagram, KnownWire}
use Rattle.fax_wires.specs.declared.repeat.policy.RepeatPolicy.{RepeatPolicy}
use Rattle.fax_wires.specs.repeat.Gaps.{gap_after}
use Rattle.fax_wires.specs.repeat.Peers.{Peers}

-- The last datagram that was handed over on a leg, how often it was sent, and the moment from which on it is sent again.
-- With no send none is known.
pub record LastValue : Type 0 where
  pub octets : List ℕ
  pub sends : ℕ
  pub due : Option ℕ

-- A wire that repeats: its policy, the latest moment that it was told, the last datagrams of both legs, how many calls
-- failed, whether it tells what it was handed, and what is known of the wire below it, and of the peers of its legs.
pub record RepeatingValue : Type 0 where
  pub policy : RepeatPolicy
  pub clock : ℕ
  pub calling : LastValue
  pub called : LastValue
  pub failures : ℕ
  pub tells : Bool
  pub wire : KnownWire
  pub peers : Peers

abbrev pub unknown : LastValue
unknown = record { octets = []; sends = 0; due = None }

-- moments stop at the greatest
abbrev pub after : ℕ → Option ℕ → Option ℕ
after now None = None
after now (Some gap) = Some (min (now + gap) (2 ^ 64 - 1))

-- the moment of the next send of a datagram that was sent so often, the last time at this moment
abbrev pub due_after : RepeatPolicy → ℕ → ℕ → Option ℕ
due_after policy now sends = after now (gap_after policy sends)

-- Of a datagram that is handed over this is kept; of one of more octets than a wire carries at once, nothing.
abbrev pub most_repeated : ℕ
most_repeated = 1500

abbrev pub kept_of : RepeatPolicy → ℕ → List ℕ → LastValue
kept_of policy now octets = if nat_le (length octets) most_repeated
    then record { octets = octets; sends = 1; due = due_after policy now 1 } else unknown

-- its moment has come
abbrev pub has_come : Option ℕ → ℕ → Bool
has_come None now = false
has_come (Some moment) now = nat_le moment now

-- a datagram whose moment has come is sent again, once
abbrev pub repeated : RepeatPolicy → ℕ → LastValue → LastValue
repeated policy now last = if has_come last.due now then record {
  octets = last.octets;
  sends = last.sends + 1;
  due = due_after policy now (last.sends + 1);
} else last

abbrev pub repeat_of : Leg → ℕ → LastValue → List HandedDatagram
repeat_of at now last =
    if has_come last.due now then record { leg = at; octets = last.octets } ∷ [] else []

-- it is sent no more
abbrev pub ceased : LastValue → LastValue
ceased last = record { octets = last.octets; sends = last.sends; due = None }

abbrev pub earlier_of : Option ℕ → Option ℕ → Option ℕ
earlier_of None other = other
earlier_of (Some moment) None = Some moment
earlier_of (Some moment) (Some other) = Some (min moment other)

-- of a wire that has things to do on both legs
abbrev pub due_of : {W : Type 0} → (Leg → W → Option ℕ) → W → Option ℕ
due_of due wire = earlier_of (due legs.Calling wire) (due legs.Called wire)

abbrev pub other_leg : Leg → Leg
other_leg legs.Calling = legs.Called
other_leg legs.Called = legs.Calling

-- the last of a leg, and of the other one
abbrev pub last_on : Leg → RepeatingValue → LastValue
last_on legs.Calling wire = wire.calling
last_on legs.Called wire = wire.called

abbrev pub last_beside : Leg → RepeatingValue → LastValue
last_beside legs.Calling wire = wire.called
last_beside legs.Called wire = wire.calling

-- A datagram is handed over: it is sent at once, and is the last of its leg.
pub record HandsOver (at : Leg) (octets : List ℕ) (old new : RepeatingValue) : Type 0 where
  pub policy : new.policy ≡ old.policy
  pub clock : new.clock ≡ old.clock
  pub last : last_on at new ≡ kept_of old.policy old.clock octets
  pub beside : last_beside at new ≡ last_beside at old
  pub peers : new.peers ≡ old.peers
  pub sent : Grows (record { leg = at; octets = octets } ∷ []) old.wire.sent new.wire.sent

-- Time goes on to this moment: the last datagram of each leg whose moment has come is sent again, and nothing else.
pub record GoesOn (now : ℕ) (old new : RepeatingValue) : Type 0 where
  pub policy : new.policy ≡ old.policy
  pub clock : new.clock ≡ now
  pub calling : new.calling ≡ repeated old.policy now old.calling
  pub called : new.called ≡ repeated old.policy now old.called
  pub failures : new.failures ≡ old.failures
  pub tells : new.tells ≡ old.tells
  pub peers : new.peers ≡ old.peers
  pub received : Grows [] old.wire.received new.wire.received
  pub sent : Grows (repeat_of legs.Called now old.called
      ++ repeat_of legs.Calling now old.calling) old.wire.sent new.wire.sent

-- nothing changes of what is told of a wire
pub record IsToldAs (before after : KnownWire) : Type 0 where
  pub failures : after.failures ≡ before.failures
  pub received : Grows [] before.received after.received
  pub sent : Grows [] before.sent after.sent

-- By what it is told of its peers nothing is sent again, or is sent no more.
pub record TellsPeers (old new : RepeatingValue) : Type 0 where
  pub policy : new.policy ≡ old.policy
  pub clock : new.clock ≡ old.clock
  pub calling : new.calling ≡ old.calling
  pub called : new.called ≡ old.called
  pub failures : new.failures ≡ old.failures
  pub tells : new.tells ≡ old.tells
  pub wire : IsToldAs old.wire new.wire
