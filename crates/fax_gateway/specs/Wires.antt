-- What goes over a wire. (This project's profile.) Lists have the newest first.
use Rattle.std.specs.Prelude.{◌≡◌, ℕ, ◌+◌, ◌-◌, ◌^◌, min, List, ◌++◌, length, take, Option, Some, None, Result, Ok, Err}
use Rattle.fax_gateway.specs.declared.leg.Leg.{Leg}
use Rattle.fax_gateway.specs.declared.wire.WireFault.{WireFault}

-- what a receive on a leg, into a buffer of so many octets, answered: a datagram, that nothing has come, or that it failed
pub data Receipt : Type 0 where
  Came : (leg : Leg) → (room : ℕ) → (octets : List ℕ) → Receipt
  Nothing : (leg : Leg) → (room : ℕ) → Receipt
  Failed : (leg : Leg) → (room : ℕ) → Receipt

-- a datagram that was handed over, to be sent on a leg
pub record HandedDatagram : Type 0 where
  pub leg : Leg
  pub octets : List ℕ

-- What is known of a wire: how many of its calls failed; and what went over it, where it tells that.
pub record KnownWire : Type 0 where
  pub failures : ℕ
  pub received : Option (List Receipt)
  pub sent : Option (List HandedDatagram)

-- where counts stop
abbrev pub greatest_count : ℕ
greatest_count = 2 ^ 64 - 1

abbrev pub failures_after : {A : Type 0} → ℕ → Result A WireFault → ℕ
failures_after failures (Ok answer) = failures
failures_after failures (Err fault) = min (failures + 1) greatest_count

abbrev pub receipt_of : Leg → List ℕ → Result (Option ℕ) WireFault → Receipt
receipt_of leg buffer (Ok (Some count)) = Came leg (length buffer) (take count buffer)
receipt_of leg buffer (Ok None) = Nothing leg (length buffer)
receipt_of leg buffer (Err fault) = Failed leg (length buffer)

-- No datagram of UDP is longer than a buffer of so many octets: its length has 16 bits (RFC 768).
abbrev pub buffer_octets : ℕ
buffer_octets = 2 ^ 16

-- Where a list is told, it was told before, and has these before it.
abbrev pub Grows : {A : Type 0} → List A → Option (List A) → Option (List A) → Type 0
Grows newer before None = Unit {0}
Grows {A} newer before (Some told) =
    (older : List A) × (before ≡ Some older) × (told ≡ newer ++ older)
