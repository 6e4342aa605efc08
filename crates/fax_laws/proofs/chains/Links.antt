-- What comes over a link came by an honest schedule.
use Rattle.std.proofs.Common.{◌≡◌, ℕ, suc, ◌+◌, ◌<◌, ◌≤◌, max, Bool, true, false, List, [], ◌∷◌, ◌++◌, length, reverse, slice_get, Option, Some, None, Result, Ok, Err, refl, sym, ◌∙◌, ap, subst, arith, if◌then◌else◌}
use Rattle.std.proofs.lemmas.Option.{slice_get_within}
use Rattle.fax_udptl.specs.declared.fault.UdptlFault.{UdptlFault}
use Rattle.fax_udptl.specs.Datagrams.{DatagramValue, datagram_of}
use Rattle.fax_udptl.specs.Schedules as schedules
use Rattle.fax_udptl.specs.Schedules.{Arrival, IsHonest, datagrams, greatest_place}
use Rattle.fax_answer.specs.Table.{Reading}
use Rattle.fax_gateway.specs.Setups.{Setup}
use Rattle.fax_gateway.specs.Events.{Event, Ring, FromCalling, FromCalled, Tick, Placed, Given, clock}
use Rattle.fax_gateway.specs.CallingLegs.{CallingLeg, calling_after, calling_leg, core_of, idle_after, is_idle, leg_with}
use Rattle.fax_gateway.specs.Chain.{ChainsHear, ChainsRelay, HasNoEom}
use Rattle.fax_gateway.specs.Reached.{arrived_on}
use Rattle.fax_laws.specs.chains.Given.{GivesItsPackets, ReadsAsSent, octets_given}
use Rattle.fax_laws.specs.chains.Links.{AreNear, ComeFrom, FewAreNear, IsNear, LinkedCallsAreJoined, LinkedChainsHear, LinkedChainsRelay, greatest, octets_heard}
use Rattle.fax_laws.proofs.chains.Given.{calls_give_their_packets}

-- ---- WHAT ARRIVED IN A CALL is what is read of the octets that came while it was on
abbrev read_in : Result DatagramValue UdptlFault → List DatagramValue
read_in (Ok d) = d ∷ []
read_in (Err fault) = []

abbrev read_all : List (List ℕ) → List DatagramValue
read_all [] = []
read_all (octets ∷ earlier) = read_in (datagram_of octets) ++ read_all earlier

with_read : (l : CallingLeg) (now : ℕ) (read : Reading) (r : Result DatagramValue UdptlFault) (earlier : List DatagramValue) → l.arrived ≡ earlier → arrived_on (Some (leg_with l now read r)) ≡ read_in r ++ earlier
with_read l now read (Ok d) earlier h = ap (λ (ds : List DatagramValue). d ∷ ds) h
with_read l now read (Err f) earlier h = h

heard_read : (setup : Setup) (o : Option CallingLeg) (now : ℕ) (octets : List ℕ) (at : ℕ) (decided : Bool) (read : Reading) (heard : List (List ℕ)) → arrived_on o ≡ read_all heard
    → arrived_on (calling_after setup o now (FromCalling octets at decided read)) ≡ read_all (if idle_after o then heard else octets ∷ heard)
heard_read setup None now octets at decided read heard h = h
heard_read setup (Some l) now octets at decided read heard h = by (is_idle (core_of l).state)
  where
    by : (b : Bool) → arrived_on (if◌then◌else◌ {A = Option CallingLeg} b (Some l) (Some (leg_with l now read (datagram_of octets)))) ≡ read_all (if b then heard else octets ∷ heard)
    by true = h
    by false = with_read l now read (datagram_of octets) (read_all heard) h

rung_read : (setup : Setup) (o : Option CallingLeg) (now at number : ℕ) → arrived_on (calling_after setup o now (Ring at number)) ≡ []
rung_read setup None now at number = refl
rung_read setup (Some l) now at number = refl

called_stays : (setup : Setup) (o : Option CallingLeg) (now : ℕ) (octets : List ℕ) (at : ℕ) (decided : Bool) → arrived_on (calling_after setup o now (FromCalled octets at decided)) ≡ arrived_on o
called_stays setup None now octets at decided = refl
called_stays setup (Some l) now octets at decided = refl

tick_stays : (setup : Setup) (o : Option CallingLeg) (now at : ℕ) (given : Given) → arrived_on (calling_after setup o now (Tick at given)) ≡ arrived_on o
tick_stays setup None now at given = refl
tick_stays setup (Some l) now at given = refl

placed_stays : (setup : Setup) (o : Option CallingLeg) (now at : ℕ) (connected : Bool) → arrived_on (calling_after setup o now (Placed at connected)) ≡ arrived_on o
placed_stays setup None now at connected = refl
placed_stays setup (Some l) now at connected = refl

arrived_is : (setup : Setup) (trace : List Event) → arrived_on (calling_leg setup trace) ≡ read_all (octets_heard setup trace)
arrived_is setup [] = refl
arrived_is setup (Ring at number ∷ earlier) = rung_read setup (calling_leg setup earlier) (clock (Ring at number ∷ earlier)) at number
arrived_is setup (FromCalling octets at decided read ∷ earlier) =
    heard_read setup (calling_leg setup earlier) (clock (FromCalling octets at decided read ∷ earlier)) octets at decided read (octets_heard setup earlier) (arrived_is setup earlier)
arrived_is setup (FromCalled octets at decided ∷ earlier) =
    called_stays setup (calling_leg setup earlier) (clock (FromCalled octets at decided ∷ earlier)) octets at decided ∙ arrived_is setup earlier
arrived_is setup (Tick at given ∷ earlier) = tick_stays setup (calling_leg setup earlier) (clock (Tick at given ∷ earlier)) at given ∙ arrived_is setup earlier
arrived_is setup (Placed at connected ∷ earlier) = placed_stays setup (calling_leg setup earlier) (clock (Placed at connected ∷ earlier)) at connected ∙ arrived_is setup earlier

-- ---- AN HONEST SCHEDULE
record Arrive (packets : List (List ℕ)) (places : List ℕ) (came : List (List ℕ)) : Type 0 where
  arrivals : List Arrival
  honest : IsHonest packets arrivals
  are : read_all came ≡ datagrams arrivals
  many : length arrivals ≡ length places
  as_great : greatest_place arrivals ≡ greatest places

near : (arrivals : List Arrival) (places : List ℕ) (place : ℕ) → length arrivals ≡ length places → greatest_place arrivals ≡ greatest places → IsNear places place → schedules.IsNear arrivals place
near [] places place m g n = tt
near (a ∷ arrivals) [] place m g n = absurd (omega (arith, m))
near (a ∷ arrivals) (p ∷ places) place m g n =
    let above : place ≤ greatest (p ∷ places) + 32767 = n.0 in
    let below : greatest (p ∷ places) ≤ place + 32767 = n.1 in (omega arith, omega arith)

read_more : (r : Result DatagramValue UdptlFault) (d : DatagramValue) (earlier more : List DatagramValue) → r ≡ Ok d → earlier ≡ more → read_in r ++ earlier ≡ d ∷ more
read_more r d earlier more e h = ap (λ (x : Result DatagramValue UdptlFault). read_in x ++ earlier) e ∙ ap (λ (ds : List DatagramValue). d ∷ ds) h

arrive : (packets given : List (List ℕ)) (places : List ℕ) (came : List (List ℕ)) → ((place : ℕ) (octets : List ℕ) → slice_get given place ≡ Some octets → ReadsAsSent packets place octets)
    → AreNear places → ComeFrom given places came → Arrive packets places came
arrive packets given [] [] each n c = record { arrivals = []; honest = tt; are = refl; many = refl; as_great = refl }
arrive packets given [] (octets ∷ came) each n c = absurd c
arrive packets given (place ∷ places) [] each n c = absurd c
arrive packets given (place ∷ places) (octets ∷ came) each n c =
    let earlier : Arrive packets places came = arrive packets given places came each n.1 c.1 in
    let r : ReadsAsSent packets place octets = each place octets c.0 in
    record {
      arrivals = record { place = place; datagram = r.datagram } ∷ earlier.arrivals;
      honest = (r.sent, near earlier.arrivals places place earlier.many earlier.as_great n.0, earlier.honest);
      are = read_more (datagram_of octets) r.datagram (read_all came) (datagrams earlier.arrivals) r.is earlier.are;
      many = ap (λ (n : ℕ). suc n) earlier.many;
      as_great = ap (λ (n : ℕ). max place n) earlier.as_great;
    }

pub linked_calls_are_joined : LinkedCallsAreJoined
linked_calls_are_joined setup other writes others first second leg l link is_leg is_call =
    let gives : GivesItsPackets (octets_given setup writes first) leg = calls_give_their_packets setup writes first leg link.is_first is_leg in
    let a : Arrive (reverse leg.given) link.places (octets_heard other second) = arrive (reverse leg.given) (reverse (octets_given setup writes first)) link.places (octets_heard other second) gives.each link.near link.come in
    record {
      is_first = link.is_first;
      is_second = link.is_second;
      is_leg = is_leg;
      is_call = is_call;
      arrivals = a.arrivals;
      honest = a.honest;
      arrived = ap arrived_on (sym is_call) ∙ arrived_is other second ∙ a.are;
    }

pub linked_chains_hear : ChainsHear → LinkedChainsHear
linked_chains_hear hear setup other writes others first second leg l w link is_leg is_call =
    hear setup other writes others first second leg l w (linked_calls_are_joined setup other writes others first second leg l link is_leg is_call)

pub linked_chains_relay : ChainsRelay → LinkedChainsRelay
linked_chains_relay relay setup other writes others first second leg l w link is_leg is_call none =
    let gives : GivesItsPackets (octets_given setup writes first) leg = calls_give_their_packets setup writes first leg link.is_first is_leg in
    relay setup other writes others first second leg l w (linked_calls_are_joined setup other writes others first second leg l link is_leg is_call)
    (subst (λ (xs : List (List ℕ)). HasNoEom (reverse xs)) gives.packets none)

-- ---- WHERE FEW WERE GIVEN each place is near
low : (given : List (List ℕ)) (places : List ℕ) (came : List (List ℕ)) → length given ≤ 32768 → ComeFrom given places came → greatest places ≤ 32767
low given [] [] few c = omega arith
low given [] (octets ∷ came) few c = absurd c
low given (place ∷ places) [] few c = absurd c
low given (place ∷ places) (octets ∷ came) few c =
    let within : place < length given = slice_get_within given place octets c.0 in
    let earlier : greatest places ≤ 32767 = low given places came few c.1 in omega arith

near_low : (places : List ℕ) (place : ℕ) → place ≤ 32767 → greatest places ≤ 32767 → IsNear places place
near_low [] place a b = tt
near_low (p ∷ places) place a b = (omega arith, omega arith)

pub few_are_near : FewAreNear
few_are_near given [] came few c = tt
few_are_near given (place ∷ places) [] few c = absurd c
few_are_near given (place ∷ places) (octets ∷ came) few c =
    let within : place < length given = slice_get_within given place octets c.0 in
    (near_low places place (omega arith) (low given places came few c.1), few_are_near given places came few c.1)
