-- TWO GATEWAYS IN A ROW, BY OCTETS: what comes in a call of the second's calling leg was given in a call of the first's called leg.
-- (ITU-T T.38, UDPTL: sequence numbers of 16 bits. How far a datagram may lag or run ahead is this project's profile.) Lists have
-- the newest first.
use Rattle.std.specs.Prelude.{◌≡◌, ℕ, ◌+◌, ◌≤◌, max, List, [], ◌∷◌, length, reverse, slice_get, Some, if◌then◌else◌}
use Rattle.fax_call.specs.Writings.{Writing, IsWriting}
use Rattle.fax_gateway.specs.Setups.{Setup}
use Rattle.fax_gateway.specs.Events.{Event, Ring, FromCalling, FromCalled, Tick, Placed}
use Rattle.fax_gateway.specs.CallingLegs.{CallingLeg, calling_leg, idle_after}
use Rattle.fax_gateway.specs.CalledLegs.{CalledLeg}
use Rattle.fax_gateway.specs.BothLegs.{both_legs}
use Rattle.fax_gateway.specs.Chain.{HasNoEom, IsJoined, IsOfTheFirst, Relays, history_of}
use Rattle.fax_gateway.specs.Traces.{IsTrace}
use Rattle.fax_laws.specs.chains.Given.{octets_given, packets_in}

-- the octets that came on the calling leg while its call was on, since that was rung; or while the last one was
abbrev pub octets_heard : Setup → List Event → List (List ℕ)
octets_heard setup [] = []
octets_heard setup (Ring at number ∷ earlier) = []
octets_heard setup (FromCalling octets at decided read ∷ earlier) =
    if idle_after (calling_leg setup earlier)
    then octets_heard setup earlier else octets ∷ octets_heard setup earlier
octets_heard setup (FromCalled octets at decided ∷ earlier) = octets_heard setup earlier
octets_heard setup (Tick at given ∷ earlier) = octets_heard setup earlier
octets_heard setup (Placed at connected ∷ earlier) = octets_heard setup earlier

-- ---- places at which datagrams were given: the first of a call at 0

abbrev pub greatest : List ℕ → ℕ
greatest [] = 0
greatest (place ∷ earlier) = max place (greatest earlier)

-- A place within 32,767 of the greatest that came before. (By its number of 16 bits alone a datagram that is further away is taken
-- for another one, or for a late one.)
abbrev pub IsNear : List ℕ → ℕ → Type 0
IsNear [] place = Unit {0}
IsNear (p ∷ earlier) place =
    (place ≤ greatest (p ∷ earlier) + 32767) × (greatest (p ∷ earlier) ≤ place + 32767)

abbrev pub AreNear : List ℕ → Type 0
AreNear [] = Unit {0}
AreNear (place ∷ earlier) = IsNear earlier place × AreNear earlier

-- these came, each of which was given at its place; what was given has the first given first
abbrev pub ComeFrom : (given : List (List ℕ)) → (places : List ℕ) → (came : List (List ℕ)) → Type 0
ComeFrom given [] [] = Unit {0}
ComeFrom given (place ∷ places) (octets ∷ came) =
    (slice_get given place ≡ Some octets) × ComeFrom given places came
ComeFrom given places came = ⊥

-- ---- links

-- What comes in the call of the second is what was given in the call of the first, lost, repeated, late and out of order at will, but
-- near. What else came to either gateway is free, they may be set up differently, and no common order of their events is asked for.
pub record IsLinked (setup other : Setup) (writes others : Writing) (first second : List Event) :
    Type 0 where
  pub is_first : IsTrace setup writes first
  pub is_second : IsTrace other others second
  pub places : List ℕ
  pub near : AreNear places
  pub come : ComeFrom (reverse (octets_given setup writes first)) places (octets_heard other second)

-- ---- laws

abbrev pub LinkedCallsAreJoined : Type 0
LinkedCallsAreJoined = (setup other : Setup) (writes others : Writing) (first second : List Event)
    (leg : CalledLeg) (l : CallingLeg) → IsLinked setup other writes others first second
    → (both_legs setup writes first).leg ≡ Some leg
    → calling_leg other second ≡ Some l → IsJoined setup other writes others first second leg l

abbrev pub LinkedChainsHear : Type 0
LinkedChainsHear = (setup other : Setup)
    (writes others : Writing) (first second : List Event) (leg : CalledLeg) (l : CallingLeg)
    → IsWriting writes → IsLinked setup other writes others first second
    → (both_legs setup writes first).leg ≡ Some leg
    → calling_leg other second ≡ Some l → IsOfTheFirst leg l

abbrev pub LinkedChainsRelay : Type 0
LinkedChainsRelay = (setup other : Setup)
    (writes others : Writing) (first second : List Event) (leg : CalledLeg) (l : CallingLeg)
    → IsWriting writes → IsLinked setup other writes others first second
    → (both_legs setup writes first).leg ≡ Some leg → calling_leg other second ≡ Some l
    → HasNoEom (reverse (packets_in (octets_given setup writes first)))
    → Relays setup writes first leg (history_of l) (length leg.job.pages)

-- Where so few were given, no premise of nearness is left.
abbrev pub FewAreNear : Type 0
FewAreNear = (given : List (List ℕ)) (places : List ℕ) (came : List (List ℕ))
    → length given ≤ 32768 → ComeFrom given places came → AreNear places
