-- WHERE NO DATAGRAM IS LONG UNDER WAY and no silence is long, what comes is near. (This project's profile: on a leg a packet stands
-- 40 ms after the one before.) Lists have the newest first.
use Rattle.std.specs.Prelude.{◌≡◌, ℕ, ◌+◌, ◌≤◌, true, List, [], ◌∷◌, reverse, slice_get, Option, Some, None, if◌then◌else◌}
use Rattle.fax_call.specs.Writings.{Writing}
use Rattle.fax_gateway.specs.Setups.{Setup}
use Rattle.fax_gateway.specs.Events.{Event, Ring, FromCalling, FromCalled, Tick, Placed, clock}
use Rattle.fax_gateway.specs.CallingLegs.{calling_leg, idle_after}
use Rattle.fax_gateway.specs.BothLegs.{begins_next, book_of, both_legs, in_tick}
use Rattle.fax_gateway.specs.Traces.{IsTrace}
use Rattle.fax_laws.specs.chains.Given.{in_call}
use Rattle.fax_laws.specs.chains.Links.{AreNear}

-- the moments at which the octets of `octets_given` were given
abbrev pub at_if : Option (List ℕ) → ℕ → List ℕ → List ℕ
at_if None now moments = moments
at_if (Some octets) now moments = now ∷ moments

abbrev pub moments_given : Setup → Writing → List Event → List ℕ
moments_given setup writes [] = []
moments_given setup writes (Ring at number ∷ earlier) = moments_given setup writes earlier
moments_given setup writes (FromCalling octets at decided read ∷ earlier) =
    moments_given setup writes earlier
moments_given setup writes (FromCalled octets at decided ∷ earlier) =
    moments_given setup writes earlier
moments_given setup writes (Tick at given ∷ earlier) = at_if given.on_called (clock (Tick at given
    ∷ earlier)) (in_call (begins_next setup (both_legs setup writes earlier).leg)
    (book_of (in_tick setup writes earlier at)).sending (moments_given setup writes earlier))
moments_given setup writes (Placed at connected ∷ earlier) =
    in_call true (book_of (both_legs setup writes (Placed at connected
    ∷ earlier))).sending (moments_given setup writes earlier)

-- and those at which the octets of `octets_heard` came
abbrev pub moments_heard : Setup → List Event → List ℕ
moments_heard setup [] = []
moments_heard setup (Ring at number ∷ earlier) = []
moments_heard setup (FromCalling octets at decided read ∷ earlier) =
    if idle_after (calling_leg setup earlier) then moments_heard setup earlier
    else clock (FromCalling octets at decided read ∷ earlier) ∷ moments_heard setup earlier
moments_heard setup (FromCalled octets at decided ∷ earlier) = moments_heard setup earlier
moments_heard setup (Tick at given ∷ earlier) = moments_heard setup earlier
moments_heard setup (Placed at connected ∷ earlier) = moments_heard setup earlier

-- in milliseconds: 20 minutes, and 1
abbrev pub longest_way : ℕ
longest_way = 1200000

abbrev pub longest_silence : ℕ
longest_silence = 60000

-- what was given at a place came at this moment: no earlier, and at most 20 minutes later
pub record IsSoon (given : List ℕ) (place at : ℕ) : Type 0 where
  pub sent : ℕ
  pub at_place : slice_get given place ≡ Some sent
  pub after : sent ≤ at
  pub soon : at ≤ sent + longest_way

-- at most a minute after the one before
abbrev pub Follows : List ℕ → ℕ → Type 0
Follows [] at = Unit {0}
Follows (last ∷ earlier) at = (last ≤ at) × (at ≤ last + longest_silence)

-- each of what was given at these places came soon, at these moments, and soon after the one before; moments given have the first first
abbrev pub AreTimely : (given : List ℕ) → (places : List ℕ) → (heard : List ℕ) → Type 0
AreTimely given [] [] = Unit {0}
AreTimely given (place ∷ places) (at ∷ heard) =
    IsSoon given place at × Follows heard at × AreTimely given places heard
AreTimely given places heard = ⊥

-- So it is where both gateways have one clock: what comes is near, however many datagrams a call has.
abbrev pub TimelyAreNear : Type 0
TimelyAreNear =
    (setup other : Setup) (writes : Writing) (first second : List Event) (places : List ℕ)
    → IsTrace setup writes first
    → AreTimely (reverse (moments_given setup writes first)) places (moments_heard other second)
    → AreNear places
