-- What a call of the calling leg makes of the packets of one sender, which come by an honest schedule: the datagrams that came
-- while the call was on are the sender's, with losses, with repeats and in any order. (ITU-T T.38 and T.30.)
use Rattle.std.specs.Prelude.{◌≡◌, ℕ, ◌⊎◌, List, length, Contains, Some}
use Rattle.fax_udptl.specs.Schedules.{Arrival, datagrams, IsHonest, BeginsAtFirst}
use Rattle.fax_ifp.specs.Pieces.{Frame, pieces}
use Rattle.fax_ifp.specs.Schedules.{slots_of, AreClosed}
use Rattle.fax_answer.specs.Sent.{pieces_heard, Rises}
use Rattle.fax_call.specs.Writings.{Writing}
use Rattle.fax_gateway.specs.Setups.{Setup}
use Rattle.fax_gateway.specs.Events.{Event}
use Rattle.fax_gateway.specs.CallingLegs.{CallingLeg, core_of, calling_leg}
use Rattle.fax_gateway.specs.Traces.{IsTrace}

-- Each page for which the call gives MCF is what one image signal of the list means under the DCS that the last CFR answered,
-- and the signals of later pages stand at later places.
abbrev pub ConfirmsSignals : Type 0
ConfirmsSignals = (setup : Setup) (writes : Writing)
    (trace : List Event) (l : CallingLeg) (packets : List (List ℕ)) (arrivals : List Arrival)
    → IsTrace setup writes trace → calling_leg setup trace ≡ Some l → IsHonest packets arrivals
    → l.arrived ≡ datagrams arrivals → Rises packets (core_of l).history (length packets)

-- Each frame that the call hears is a frame of the list, where the first datagram reaches back to the first packet, or each
-- packet can be read and ends, as V.21 data, at a boundary.
abbrev pub HearsSentFrames : Type 0
HearsSentFrames = (setup : Setup) (writes : Writing)
    (trace : List Event) (l : CallingLeg) (packets : List (List ℕ)) (arrivals : List Arrival)
    → IsTrace setup writes trace → calling_leg setup trace ≡ Some l → IsHonest packets arrivals
    → l.arrived ≡ datagrams arrivals → BeginsAtFirst arrivals ⊎ AreClosed packets
    → (octets : List ℕ) → Contains (pieces_heard (core_of l).history) (Frame octets)
    → Contains (pieces (slots_of packets)) (Frame octets)
