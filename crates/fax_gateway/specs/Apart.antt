-- On each leg the datagrams stand apart, over all its calls. (This project's profile.)
use Rattle.std.specs.Prelude.{◌≡◌, ℕ, ◌+◌, ◌≤◌, max, List, [], ◌∷◌, Option, Some, None, Ok}
use Rattle.fax_timers.specs.Spans as spans
use Rattle.fax_udptl.specs.Datagrams.{DatagramValue, datagram_of}
use Rattle.fax_answer.specs.Replies.{preamble}
use Rattle.fax_call.specs.Writings.{Writing}
use Rattle.fax_gateway.specs.Setups.{Setup}
use Rattle.fax_gateway.specs.Events.{Event, Ring, FromCalling, FromCalled, Tick, Placed, Given, clock}
use Rattle.fax_gateway.specs.Traces.{IsTrace}

-- the datagram given last on a leg, and the moment of the tick that gave it
pub record LastGiven : Type 0 where
  pub at : ℕ
  pub octets : List ℕ

abbrev pub if_given : Option (List ℕ) → ℕ → Option LastGiven → Option LastGiven
if_given None now before = before
if_given (Some octets) now before = Some (record { at = now; octets = octets })

abbrev pub last_given : (Given → Option (List ℕ)) → List Event → Option LastGiven
last_given leg [] = None
last_given leg (Ring at number ∷ earlier) = last_given leg earlier
last_given leg (FromCalling octets at decided read ∷ earlier) = last_given leg earlier
last_given leg (FromCalled octets at decided ∷ earlier) = last_given leg earlier
last_given leg (Tick at given ∷ earlier) =
    if_given (leg given) (clock (Tick at given ∷ earlier)) (last_given leg earlier)
last_given leg (Placed at connected ∷ earlier) = last_given leg earlier

-- a datagram whose own packet, the primary, is the preamble before a frame
abbrev pub HasPreamble : List ℕ → Type 0
HasPreamble octets =
    (datagram : DatagramValue) × (datagram_of octets ≡ Ok datagram) × (datagram.primary ≡ preamble)

-- after a datagram 40 ms at least, and after a preamble the pause that is set
abbrev pub IsApart : Setup → Option LastGiven → ℕ → Type 0
IsApart setup None now = Unit {0}
IsApart setup (Some last) now =
    (last.at + spans.pace ≤ now) × (HasPreamble last.octets → last.at + setup.pause ≤ now)

-- each datagram that a tick gives, from the one given last on its leg
abbrev pub DatagramsAreApart : Type 0
DatagramsAreApart = (setup : Setup)
    (writes : Writing) (earlier : List Event) (at : ℕ) (given : Given) (datagram : List ℕ)
    → IsTrace setup writes (Tick at given ∷ earlier) → (given.on_calling ≡ Some datagram
    → IsApart setup (last_given (λ g. g.on_calling) earlier) (max at (clock earlier)))
    × (given.on_called ≡ Some datagram
    → IsApart setup (last_given (λ g. g.on_called) earlier) (max at (clock earlier)))
