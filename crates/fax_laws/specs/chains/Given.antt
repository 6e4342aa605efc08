-- THE DATAGRAMS OF A CALL, read off what a gateway answered: the octets that its ticks gave on the called leg. (ITU-T T.38, UDPTL;
-- when a call begins is this project's profile.) Lists have the newest first.
use Rattle.std.specs.Prelude.{◌≡◌, ℕ, Bool, true, List, [], ◌∷◌, ◌++◌, length, reverse, slice_get, Option, Some, None, Result, Ok, Err}
use Rattle.fax_udptl.specs.declared.fault.UdptlFault.{UdptlFault}
use Rattle.fax_udptl.specs.Datagrams.{DatagramValue, datagram_of}
use Rattle.fax_udptl.specs.Schedules.{IsSentAt}
use Rattle.fax_jobs.specs.Jobs.{JobValue}
use Rattle.fax_call.specs.Writings.{Writing}
use Rattle.fax_gateway.specs.Setups.{Setup}
use Rattle.fax_gateway.specs.Events.{Event, Ring, FromCalling, FromCalled, Tick, Placed}
use Rattle.fax_gateway.specs.CalledLegs.{CalledLeg}
use Rattle.fax_gateway.specs.BothLegs.{begins_next, book_of, both_legs, in_tick}
use Rattle.fax_gateway.specs.Traces.{IsTrace}

-- what was given in the call: nothing, where the call of a job begins
abbrev pub in_call : {A : Type 0} → (begins : Bool) → Option JobValue → List A → List A
in_call true (Some job) given = []
in_call begins sending given = given

abbrev pub with_given : Option (List ℕ) → List (List ℕ) → List (List ℕ)
with_given None given = given
with_given (Some octets) given = octets ∷ given

-- The octets that ticks gave on the called leg, in the call that is on there or was the last: since it began, in a tick or where it
-- was placed
abbrev pub octets_given : Setup → Writing → List Event → List (List ℕ)
octets_given setup writes [] = []
octets_given setup writes (Ring at number ∷ earlier) = octets_given setup writes earlier
octets_given setup writes (FromCalling octets at decided read ∷ earlier) =
    octets_given setup writes earlier
octets_given setup writes (FromCalled octets at decided ∷ earlier) =
    octets_given setup writes earlier
octets_given setup writes (Tick at given ∷ earlier) =
    with_given given.on_called (in_call (begins_next setup (both_legs setup writes earlier).leg)
    (book_of (in_tick setup writes earlier at)).sending (octets_given setup writes earlier))
octets_given setup writes (Placed at connected ∷ earlier) =
    in_call true (book_of (both_legs setup writes (Placed at connected
    ∷ earlier))).sending (octets_given setup writes earlier)

-- the own packets of the datagrams that octets are
abbrev pub packet_in : Result DatagramValue UdptlFault → List (List ℕ)
packet_in (Ok d) = d.primary ∷ []
packet_in (Err fault) = []

abbrev pub packets_in : List (List ℕ) → List (List ℕ)
packets_in [] = []
packets_in (octets ∷ earlier) = packet_in (datagram_of octets) ++ packets_in earlier

-- octets are read as the datagram that a sender of these packets, the first sent first, sends at a place
pub record ReadsAsSent (packets : List (List ℕ)) (place : ℕ) (octets : List ℕ) : Type 0 where
  pub datagram : DatagramValue
  pub is : datagram_of octets ≡ Ok datagram
  pub sent : IsSentAt packets place datagram

-- What the call gave: each datagram at its place, one of each packet. So its packets can be read off the octets.
pub record GivesItsPackets (given : List (List ℕ)) (leg : CalledLeg) : Type 0 where
  pub each : (place : ℕ) (octets : List ℕ)
      → slice_get (reverse given) place ≡ Some octets → ReadsAsSent (reverse leg.given) place octets
  pub many : length given ≡ length leg.given
  pub packets : packets_in given ≡ leg.given

abbrev pub CallsGiveTheirPackets : Type 0
CallsGiveTheirPackets = (setup : Setup) (writes : Writing) (trace : List Event) (leg : CalledLeg)
    → IsTrace setup writes trace → (both_legs setup writes trace).leg ≡ Some leg
    → GivesItsPackets (octets_given setup writes trace) leg

abbrev pub NoneIsGivenBeforeACall : Type 0
NoneIsGivenBeforeACall = (setup : Setup) (writes : Writing) (trace : List Event)
    → IsTrace setup writes trace
    → (both_legs setup writes trace).leg ≡ None → octets_given setup writes trace ≡ []
