-- The datagrams that came in a call were received, and were read.
use Rattle.std.proofs.Common.{◌≡◌, ℕ, Bool, true, false, List, [], ◌∷◌, ◌++◌, Option, Some, None, Result, Ok, Err, refl, if◌then◌else◌}
use Rattle.std.specs.Prelude.{flat_map}
use Rattle.fax_udptl.specs.declared.fault.UdptlFault.{UdptlFault}
use Rattle.fax_udptl.specs.Datagrams.{DatagramValue, datagram_of}
use Rattle.fax_answer.specs.Table.{Reading}
use Rattle.fax_call.specs.Writings.{Writing}
use Rattle.fax_gateway.specs.declared.leg.Leg.TheVariants as legs
use Rattle.fax_gateway.specs.Setups.{Setup}
use Rattle.fax_gateway.specs.Events.{Event, Ring, FromCalling, FromCalled, Tick, Placed, Given, clock}
use Rattle.fax_gateway.specs.CallingLegs.{CallingLeg, calling_after, calling_leg, core_of, is_idle, leg_with}
use Rattle.fax_gateway.specs.CalledLegs as called
use Rattle.fax_gateway.specs.CalledLegs.{CalledLeg}
use Rattle.fax_gateway.specs.BothLegs.{both_legs}
use Rattle.fax_gateway.specs.Driving.{Entry, Accepts, RefusesRing, RefusesDatagram, RefusesTick, ReceivesNothing, FailsToReceive, Sends, events, receipts}
use Rattle.fax_gateway.specs.Reached.{arrived_on, ticked_on}
use Rattle.fax_loop.specs.Exchanges.{Round, answerer_after, moment_after}
use Rattle.fax_loop.specs.Faithful.{arrived_by}
use Rattle.fax_loop.specs.Links.{came_called, came_calling}
use Rattle.fax_terminal.specs.Terminals.{ReadDatagram, called_with, octets_of, rung_once}
use Rattle.fax_gateway.proofs.EachLeg.{EachBack, IfLeg, RingsFirst, Stays, leg_each}
use Rattle.fax_loop.proofs.Linked.{AreIn, AreReadOf, IsIn, in_both}

-- ---- one datagram
with_read : (others : List (List ℕ)) (l : CallingLeg) (now : ℕ) (octets : List ℕ) (read : Reading) (r : Result DatagramValue UdptlFault) → datagram_of octets ≡ r → IsIn others octets → AreReadOf others l.arrived
    → AreReadOf others (arrived_on (Some (leg_with l now read r)))
with_read others l now octets read (Ok d) e i a = (record { octets = octets; among = i; read = e }, a)
with_read others l now octets read (Err f) e i a = a

heard_read : (setup : Setup) (others : List (List ℕ)) (o : Option CallingLeg) (now : ℕ) (octets : List ℕ) (at : ℕ) (decided : Bool) (read : Reading) → IsIn others octets → AreReadOf others (arrived_on o)
    → AreReadOf others (arrived_on (calling_after setup o now (FromCalling octets at decided read)))
heard_read setup others None now octets at decided read i a = a
heard_read setup others (Some l) now octets at decided read i a = by (is_idle (core_of l).state)
  where
    by : (b : Bool) → AreReadOf others (arrived_on (if◌then◌else◌ {A = Option CallingLeg} b (Some l) (Some (leg_with l now read (datagram_of octets)))))
    by true = a
    by false = with_read others l now octets read (datagram_of octets) refl i a

-- ---- THE GATEWAY's calling leg
abbrev AreFrom : List (List ℕ) → List Event → Type 0
AreFrom others [] = Unit {0}
AreFrom others (Ring at number ∷ earlier) = AreFrom others earlier
AreFrom others (FromCalling octets at decided read ∷ earlier) = IsIn others octets × AreFrom others earlier
AreFrom others (FromCalled octets at decided ∷ earlier) = AreFrom others earlier
AreFrom others (Tick at given ∷ earlier) = AreFrom others earlier
AreFrom others (Placed at connected ∷ earlier) = AreFrom others earlier

ring_read : (setup : Setup) (others : List (List ℕ)) (o : Option CallingLeg) (now at number : ℕ) → AreReadOf others (arrived_on (calling_after setup o now (Ring at number)))
ring_read setup others None now at number = tt
ring_read setup others (Some l) now at number = tt

called_read : (setup : Setup) (others : List (List ℕ)) (o : Option CallingLeg) (now : ℕ) (octets : List ℕ) (at : ℕ) (decided : Bool) → AreReadOf others (arrived_on o) → AreReadOf others (arrived_on (calling_after setup o now (FromCalled octets at decided)))
called_read setup others None now octets at decided a = a
called_read setup others (Some l) now octets at decided a = a

tick_read : (setup : Setup) (others : List (List ℕ)) (o : Option CallingLeg) (now at : ℕ) (given : Given) → AreReadOf others (arrived_on o) → AreReadOf others (arrived_on (calling_after setup o now (Tick at given)))
tick_read setup others None now at given a = a
tick_read setup others (Some l) now at given a = a

placed_read : (setup : Setup) (others : List (List ℕ)) (o : Option CallingLeg) (now at : ℕ) (connected : Bool) → AreReadOf others (arrived_on o) → AreReadOf others (arrived_on (calling_after setup o now (Placed at connected)))
placed_read setup others None now at connected a = a
placed_read setup others (Some l) now at connected a = a

from_read : (setup : Setup) (others : List (List ℕ)) (trace : List Event) → AreFrom others trace → AreReadOf others (arrived_on (calling_leg setup trace))
from_read setup others [] f = tt
from_read setup others (Ring at number ∷ earlier) f = ring_read setup others (calling_leg setup earlier) (clock (Ring at number ∷ earlier)) at number
from_read setup others (FromCalling octets at decided read ∷ earlier) f =
    heard_read setup others (calling_leg setup earlier) (clock (FromCalling octets at decided read ∷ earlier)) octets at decided read f.0 (from_read setup others earlier f.1)
from_read setup others (FromCalled octets at decided ∷ earlier) f =
    called_read setup others (calling_leg setup earlier) (clock (FromCalled octets at decided ∷ earlier)) octets at decided (from_read setup others earlier f)
from_read setup others (Tick at given ∷ earlier) f = tick_read setup others (calling_leg setup earlier) (clock (Tick at given ∷ earlier)) at given (from_read setup others earlier f)
from_read setup others (Placed at connected ∷ earlier) f = placed_read setup others (calling_leg setup earlier) (clock (Placed at connected ∷ earlier)) at connected (from_read setup others earlier f)

-- as its log tells
logged_from : (others : List (List ℕ)) (log : List Entry) → AreIn others (came_calling (receipts log)) → AreFrom others (events log ++ Ring 0 0 ∷ [])
logged_from others [] a = tt
logged_from others (Accepts (Ring at number) ∷ log) a = logged_from others log a
logged_from others (Accepts (FromCalling octets at decided read) ∷ log) a = (a.0, logged_from others log a.1)
logged_from others (Accepts (FromCalled octets at decided) ∷ log) a = logged_from others log a
logged_from others (Accepts (Tick at given) ∷ log) a = logged_from others log a
logged_from others (Accepts (Placed at connected) ∷ log) a = logged_from others log a
logged_from others (RefusesRing fault ∷ log) a = logged_from others log a
logged_from others (RefusesDatagram legs.Calling octets ∷ log) a = logged_from others log a.1
logged_from others (RefusesDatagram legs.Called octets ∷ log) a = logged_from others log a
logged_from others (RefusesTick now ∷ log) a = logged_from others log a
logged_from others (ReceivesNothing at ∷ log) a = logged_from others log a
logged_from others (FailsToReceive at ∷ log) a = logged_from others log a
logged_from others (Sends at octets fails ∷ log) a = logged_from others log a

pub gateway_read : (setup : Setup) (others : List (List ℕ)) (log : List Entry) → AreIn others (came_calling (receipts log)) → AreReadOf others (arrived_on (calling_leg setup (events log ++ Ring 0 0 ∷ [])))
gateway_read setup others log a = from_read setup others (events log ++ Ring 0 0 ∷ []) (logged_from others log a)

-- ---- THE MACHINE THAT IS CALLED
rung_read : (setup : Setup) (others : List (List ℕ)) (now : ℕ) (o : Option CallingLeg) → AreReadOf others (arrived_on o) → AreReadOf others (rung_once setup now o).arrived
rung_read setup others now None a = tt
rung_read setup others now (Some l) a = a

came_read : (setup : Setup) (others : List (List ℕ)) (now : ℕ) (came : List ReadDatagram) (leg : Option CallingLeg) → AreIn others (octets_of came) → AreReadOf others (arrived_on leg) → AreReadOf others (arrived_on (called_with setup now came leg))
came_read setup others now [] leg i a = a
came_read setup others now (c ∷ earlier) leg i a =
    let before : Option CallingLeg = called_with setup now earlier leg in
    heard_read setup others (Some (rung_once setup now before)) now c.octets now true c.read i.0 (rung_read setup others now before (came_read setup others now earlier leg i.1 a))

ticked_read : (others : List (List ℕ)) (o : Option CallingLeg) (now : ℕ) → AreReadOf others (arrived_on o) → AreReadOf others (arrived_on (ticked_on o now))
ticked_read others None now a = a
ticked_read others (Some l) now a = a

pub answerer_read : (setup : Setup) (others : List (List ℕ)) (rounds : List Round) → AreIn others (flat_map (λ round. octets_of round.called) rounds) → AreReadOf others (arrived_on (answerer_after setup rounds))
answerer_read setup others [] i = tt
answerer_read setup others (round ∷ earlier) i =
    let now : ℕ = moment_after earlier in
    let b = in_both others (octets_of round.called) (flat_map (λ round. octets_of round.called) earlier) i in
    ticked_read others (called_with setup now round.called (answerer_after setup earlier)) now
    (came_read setup others now round.called (answerer_after setup earlier) b.0 (answerer_read setup others earlier b.1))

-- ---- THE GATEWAY's called leg, in its last call
logged_back : (others : List (List ℕ)) (log : List Entry) → AreIn others (came_called (receipts log)) → EachBack (IsIn others) (events log ++ Ring 0 0 ∷ [])
logged_back others [] a = tt
logged_back others (Accepts (Ring at number) ∷ log) a = logged_back others log a
logged_back others (Accepts (FromCalling octets at decided read) ∷ log) a = logged_back others log a
logged_back others (Accepts (FromCalled octets at decided) ∷ log) a = (a.0, logged_back others log a.1)
logged_back others (Accepts (Tick at given) ∷ log) a = logged_back others log a
logged_back others (Accepts (Placed at connected) ∷ log) a = logged_back others log a
logged_back others (RefusesRing fault ∷ log) a = logged_back others log a
logged_back others (RefusesDatagram legs.Calling octets ∷ log) a = logged_back others log a
logged_back others (RefusesDatagram legs.Called octets ∷ log) a = logged_back others log a.1
logged_back others (RefusesTick now ∷ log) a = logged_back others log a
logged_back others (ReceivesNothing at ∷ log) a = logged_back others log a
logged_back others (FailsToReceive at ∷ log) a = logged_back others log a
logged_back others (Sends at octets fails ∷ log) a = logged_back others log a

pub called_leg_read : (setup : Setup) (writes : Writing) (others : List (List ℕ)) (log : List Entry) → RingsFirst (events log ++ Ring 0 0 ∷ []) → AreIn others (came_called (receipts log))
    → AreReadOf others (arrived_by (both_legs setup writes (events log ++ Ring 0 0 ∷ [])).leg)
called_leg_read setup writes others log rings a = by (both_legs setup writes trace).leg read
  where
    trace : List Event
    trace = events log ++ Ring 0 0 ∷ []

    stays : Stays writes (IsIn others) (λ l. AreReadOf others l.arrived)
    stays = record { begins = λ job before now. tt; comes = λ l now octets d i e a. (record { octets = octets; among = i; read = e }, a); ticks = λ l now a. a }

    read : IfLeg (λ l. AreReadOf others l.arrived) (both_legs setup writes trace).leg
    read = leg_each (IsIn others) (λ l. AreReadOf others l.arrived) writes stays setup trace rings (logged_back others log a)

    by : (o : Option CalledLeg) → IfLeg (λ l. AreReadOf others l.arrived) o → AreReadOf others (arrived_by o)
    by None a = tt
    by (Some l) a = a
