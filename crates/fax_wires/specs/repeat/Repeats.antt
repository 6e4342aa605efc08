-- What a wire that repeats has sent: what was handed over, in order, and each datagram some times again. Lists have the newest
-- first. (This project's profile.)
use Rattle.std.specs.Prelude.{◌≡◌, ℕ, ◌<◌, ◌≤◌, ◌+◌, Bool, true, false, ◌&&◌, nat_eq, nat_lt, List, [], ◌∷◌, length, Option, Some, None, if◌then◌else◌}
use Rattle.std.specs.Cmp.Lexicographic.{pointwise}
use Rattle.fax_gateway.specs.declared.leg.Leg.{Leg}
use Rattle.fax_gateway.specs.declared.leg.Leg.TheVariants as legs
use Rattle.fax_gateway.specs.Wires.{HandedDatagram, KnownWire}
use Rattle.fax_wires.specs.declared.repeat.policy.RepeatPolicy.{RepeatPolicy}
use Rattle.fax_wires.specs.repeat.Gaps.{gaps}
use Rattle.fax_wires.specs.repeat.Policies.{LastValue, RepeatingValue}

abbrev pub same_leg : Leg → Leg → Bool
same_leg legs.Calling legs.Calling = true
same_leg legs.Calling legs.Called = false
same_leg legs.Called legs.Calling = false
same_leg legs.Called legs.Called = true

abbrev pub same_octets : List ℕ → List ℕ → Bool
same_octets = pointwise nat_eq

-- how often the newest datagrams of a leg, one after the other, are this one
abbrev pub times : Leg → List ℕ → List HandedDatagram → ℕ
times at octets [] = 0
times at octets (h ∷ earlier) = if same_leg at h.leg then (if same_octets octets h.octets
    then times at octets earlier + 1 else 0) else times at octets earlier

-- what was sent, without what repeats the one before it on its leg
abbrev pub once : List HandedDatagram → List HandedDatagram
once [] = []
once (h ∷ earlier) =
    if nat_eq (times h.leg h.octets earlier) 0 then h ∷ once earlier else once earlier

-- each datagram of a leg was sent at most so often, one send after the other
abbrev pub at_most : ℕ → List HandedDatagram → Bool
at_most most [] = true
at_most most (h ∷ earlier) = nat_lt (times h.leg h.octets earlier) most && at_most most earlier

-- the newest datagram of a leg
abbrev pub newest : Leg → List HandedDatagram → Option (List ℕ)
newest at [] = None
newest at (h ∷ earlier) = if same_leg at h.leg then Some h.octets else newest at earlier

-- What is kept of a leg is the newest datagram that was sent on it, and how often it was.
pub record IsLast (at : Leg) (last : LastValue) (sent : List HandedDatagram) : Type 0 where
  pub newest_is : 0 < last.sends → newest at sent ≡ Some last.octets
  pub none : last.sends ≡ 0 → newest at sent ≡ None
  pub sends_are : times at last.octets sent ≡ last.sends

-- None was sent more often than the policy says; and so what is sent again is the newest of its leg.
pub record AreRepeats (policy : RepeatPolicy)
    (calling called : LastValue) (sent : List HandedDatagram) : Type 0 where
  pub within : at_most (length (gaps policy) + 1) sent ≡ true
  pub on_calling : IsLast legs.Calling calling sent
  pub on_called : IsLast legs.Called called sent

-- What was handed over is told as long as it is known: of a wire below that tells what it sent, while no two datagrams that
-- followed on a leg had the same octets, and none had more than are repeated.
abbrev pub told_if : Bool → Option (List HandedDatagram) → Option (List HandedDatagram)
told_if true (Some sent) = Some (once sent)
told_if true None = None
told_if false sent = None

abbrev pub told_of : RepeatingValue → KnownWire
told_of wire = record {
  failures = wire.failures;
  received = wire.wire.received;
  sent = told_if wire.tells wire.wire.sent;
}

abbrev pub RepeatsIf : Bool
    → RepeatPolicy → LastValue → LastValue → Option (List HandedDatagram) → Type 0
RepeatsIf tells policy calling called told = (sent : List HandedDatagram)
    → tells ≡ true → told ≡ Some sent → AreRepeats policy calling called sent

-- what holds of each
abbrev pub Repeats : RepeatingValue → Type 0
Repeats wire = RepeatsIf wire.tells wire.policy wire.calling wire.called wire.wire.sent

-- a datagram is to be sent again only where it was sent less often than the policy says
pub record IsWithin (policy : RepeatPolicy) (last : LastValue) : Type 0 where
  pub within : (moment : ℕ)
      → last.due ≡ Some moment → (0 < last.sends) × (last.sends ≤ length (gaps policy))

-- nothing was handed over to a wire that tells it
abbrev pub TellsNone : Option (List HandedDatagram) → Type 0
TellsNone told = (sent : List HandedDatagram) → told ≡ Some sent → sent ≡ []

-- what a wire that repeats keeps to
pub record IsRepeating (wire : RepeatingValue) : Type 0 where
  pub calling : IsWithin wire.policy wire.calling
  pub called : IsWithin wire.policy wire.called
  pub repeats : Repeats wire
