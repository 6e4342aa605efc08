-- In every trace the readings of the calling leg's call are right.
use Rattle.std.proofs.Common.{◌≡◌, ℕ, Bool, true, false, List, [], ◌∷◌, Option, Some, None, Result, Ok, Err, subst, if◌then◌else◌}
use Rattle.fax_udptl.specs.declared.fault.UdptlFault.{UdptlFault}
use Rattle.fax_udptl.specs.Datagrams.{DatagramValue, datagram_of}
use Rattle.fax_answer.specs.Table.{Reading, Question}
use Rattle.fax_answer.specs.Calls.{rung}
use Rattle.fax_answer.specs.Confirmation.{AreRead, IsRead}
use Rattle.fax_answer.proofs.Readings.{calls_are_read}
use Rattle.fax_call.specs.Writings.{Writing}
use Rattle.fax_gateway.specs.Setups.{Setup}
use Rattle.fax_gateway.specs.Events.{Event, Ring, FromCalling, FromCalled, Tick, Placed, Given, clock}
use Rattle.fax_gateway.specs.Legs.{new_pieces}
use Rattle.fax_gateway.specs.CallingLegs.{CallingLeg, core_of, is_idle, leg_with, asked_by, question, calling_after, calling_leg}
use Rattle.fax_gateway.specs.Traces.{IsTrace}

abbrev pub LegRead : Option CallingLeg → Type 0
LegRead None = Unit {0}
LegRead (Some l) = AreRead (rung l.before l.begun) l.events

with_read : (l : CallingLeg) (now : ℕ) (read : Reading) (r : Result DatagramValue UdptlFault) → IsRead (asked_by l now r) read → LegRead (Some l) → LegRead (Some (leg_with l now read r))
with_read l now read (Ok d) h n = (calls_are_read (rung l.before l.begun) l.events (new_pieces l.arrived d) now read n h).0
with_read l now read (Err f) h n = n

-- a datagram more is read rightly
pub step_read : (setup : Setup) (o : Option CallingLeg) (now : ℕ) (octets : List ℕ) (at : ℕ) (decided : Bool) (read : Reading) → IsRead (question o now octets) read → LegRead o → LegRead (calling_after setup o now (FromCalling octets at decided read))
step_read setup None now octets at decided read h n = tt
step_read setup (Some l) now octets at decided read h n = by (is_idle (core_of l).state) h
  where
    by : (b : Bool) → IsRead (if◌then◌else◌ {A = Option Question} b None (asked_by l now (datagram_of octets))) read →
        LegRead (if◌then◌else◌ {A = Option CallingLeg} b (Some l) (Some (leg_with l now read (datagram_of octets))))
    by true k = n
    by false k = with_read l now read (datagram_of octets) k n

ring_read : (setup : Setup) (o : Option CallingLeg) (now at n : ℕ) → LegRead (calling_after setup o now (Ring at n))
ring_read setup None now at n = tt
ring_read setup (Some l) now at n = tt

called_read : (setup : Setup) (o : Option CallingLeg) (now : ℕ) (octets : List ℕ) (at : ℕ) (decided : Bool) → LegRead o → LegRead (calling_after setup o now (FromCalled octets at decided))
called_read setup None now octets at decided h = tt
called_read setup (Some l) now octets at decided h = h

placed_read : (setup : Setup) (o : Option CallingLeg) (now at : ℕ) (connected : Bool) → LegRead o → LegRead (calling_after setup o now (Placed at connected))
placed_read setup None now at connected h = tt
placed_read setup (Some l) now at connected h = h

tick_read : (setup : Setup) (o : Option CallingLeg) (now at : ℕ) (given : Given) → LegRead o → LegRead (calling_after setup o now (Tick at given))
tick_read setup None now at given h = tt
tick_read setup (Some l) now at given h = h

pub read_of : (setup : Setup) (writes : Writing) (trace : List Event) → IsTrace setup writes trace → LegRead (calling_leg setup trace)
read_of setup writes [] t = tt
read_of setup writes (Ring at n ∷ earlier) t = ring_read setup (calling_leg setup earlier) (clock (Ring at n ∷ earlier)) at n
read_of setup writes (FromCalling octets at decided read ∷ earlier) t =
    step_read setup (calling_leg setup earlier) (clock (FromCalling octets at decided read ∷ earlier)) octets at decided read t.0.1 (read_of setup writes earlier t.1)
read_of setup writes (FromCalled octets at decided ∷ earlier) t =
    called_read setup (calling_leg setup earlier) (clock (FromCalled octets at decided ∷ earlier)) octets at decided (read_of setup writes earlier t.1)
read_of setup writes (Placed at connected ∷ earlier) t = placed_read setup (calling_leg setup earlier) (clock (Placed at connected ∷ earlier)) at connected (read_of setup writes earlier t.1)
read_of setup writes (Tick at given ∷ earlier) t = tick_read setup (calling_leg setup earlier) (clock (Tick at given ∷ earlier)) at given (read_of setup writes earlier t.1)

-- the same, where the leg is known
pub leg_is_read : (setup : Setup) (writes : Writing) (trace : List Event) (l : CallingLeg) → IsTrace setup writes trace → calling_leg setup trace ≡ Some l → AreRead (rung l.before l.begun) l.events
leg_is_read setup writes trace l t is = subst LegRead is (read_of setup writes trace t)
