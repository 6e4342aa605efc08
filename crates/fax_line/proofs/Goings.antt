-- What a line goes through.
use Rattle.std.proofs.Common.{◌≡◌, ℕ, Bool, true, false, List, [], ◌∷◌, ◌++◌, Option, Some, None, Result, Ok, Err, refl, sym, ◌∙◌, ap, subst, append_assoc, arith, inl, inr, ◌↔◌, ◌≤◌}
use Rattle.std.proofs.lemmas.Grind.{flat_map-append}
use Rattle.fax_timers.specs.Moments.{earlier, is_due}
use Rattle.fax_call.specs.Writings.{IsWriting, Writing}
use Rattle.fax_gateway.specs.Asking.{asked_after}
use Rattle.fax_gateway.specs.Due.{due_at}
use Rattle.fax_gateway.specs.declared.fault.PlaceFault.{PlaceFault}
use Rattle.fax_gateway.specs.declared.fault.PlaceFault.TheVariants as place_faults
use Rattle.fax_gateway.specs.declared.fault.RingFault.{RingFault}
use Rattle.fax_gateway.specs.declared.fault.RingFault.TheVariants as ring_faults
use Rattle.fax_gateway.specs.Events.{Event, Placed, Ring, rings}
use Rattle.fax_gateway.specs.CallingLegs.{calling_leg, idle_after}
use Rattle.fax_gateway.specs.Reached.{GatewayValue, IsReachedBy}
use Rattle.fax_gateway.specs.Setups.{Setup}
use Rattle.fax_gateway.specs.Wires.{KnownWire}
use Rattle.fax_gateway.specs.declared.turn_report.TurnReport.{TurnReport}
use Rattle.fax_gateway.specs.Turns.{TellTicks}
use Rattle.fax_gateway.specs.Driving.{Accepts, Carries, DriverValue, Entry, HasMade, Happens, IsTurn, RefusesRing, RiseAlike, events, events_in, receipts_in}
use Rattle.fax_gateway.proofs.DrivingLemmas.{alike_more, alike_none, carries_unseen, grows_none, happens_more, made_unseen, refused_so, refuses, steps_ring}
use Rattle.fax_wires.specs.repeat.Peers.{Peers}
use Rattle.fax_wires.specs.repeat.Policies.{IsToldAs}
use Rattle.fax_wires.specs.holding.Holding.{HoldingValue, IsToldTime}
use Rattle.fax_wires.specs.holding.Storing.{HoldsByLog}
use Rattle.fax_line.specs.declared.asked.LineAnswer.{LineAnswer}
use Rattle.fax_line.specs.declared.asked.LineAnswer.TheVariants as answered
use Rattle.fax_line.specs.declared.asked.LineRequest.{LineRequest}
use Rattle.fax_line.specs.declared.asked.RingRequest.{RingRequest}
use Rattle.fax_line.specs.declared.asked.LineRequest.TheVariants as asked
use Rattle.fax_line.specs.LegPeers.{HearBoth}
use Rattle.fax_line.specs.Actions.{Action, AreSteps, Asks, Drives, Goes, IsAsked, IsPlaced, IsPlacing, IsStep, LineValue, Rests, TellsWire, Turns, Wakes}

-- the trace after two logs
after_both : (newer older : List Entry) (trace : List Event) → events newer ++ (events older ++ trace) ≡ events (newer ++ older) ++ trace
after_both newer older trace = sym (append_assoc (events newer) (events older) trace) ∙ ap (λ (l : List Event). l ++ trace) (sym (flat_map-append events_in newer older))

steps_append : (setup : Setup) (writes : Writing) (trace : List Event) (older newer : List Action) (a b : List Entry)
    → AreSteps setup writes trace older a → AreSteps setup writes (events a ++ trace) newer b → AreSteps setup writes trace (newer ++ older) (b ++ a)
steps_append setup writes trace older [] a b first second = subst (λ (l : List Entry). AreSteps setup writes trace older (l ++ a)) (sym second) first
steps_append setup writes trace older (action ∷ earlier) a b first (newer, rest, is, step, steps) = (
  newer,
  rest ++ a,
  ap (λ (l : List Entry). l ++ a) is ∙ append_assoc newer rest a,
  subst (λ (t : List Event). IsStep setup writes t action newer) (after_both rest a trace) step,
  steps_append setup writes trace older earlier a rest first steps,
)

entries_nil : (l : List Entry) → l ++ [] ≡ l
entries_nil [] = refl
entries_nil (x ∷ xs) = ap (λ (l : List Entry). x ∷ l) (entries_nil xs)

one_step : (setup : Setup) (writes : Writing) (trace : List Event) (action : Action) (log : List Entry) → IsStep setup writes trace action log → AreSteps setup writes trace (action ∷ []) log
one_step setup writes trace action log step = (log, [], sym (entries_nil log), step, refl)

-- the wire alone did something, and nothing is told of it
carries_told : (a b : KnownWire) → IsToldAs a b → Carries [] a b
carries_told a b told = record { received = told.received; sent = told.sent; failures = λ low. omega (arith, told.failures) }

-- a line, part by part
abbrev pub line_of : GatewayValue → DriverValue → KnownWire → Option ℕ → HoldingValue → Peers → TurnReport → LineValue
line_of gateway driver wire wire_due holding peers turned = record { gateway = gateway; driver = driver; wire = wire; wire_due = wire_due; holding = holding; peers = peers; turned = turned }

pub goes_told :
    (gateway : GatewayValue) (driver : DriverValue) (a b : KnownWire) (m n : Option ℕ) (h k : HoldingValue) (p q : Peers) (x y : TurnReport) → IsToldAs a b
    → Goes [] (line_of gateway driver a m h p x) (line_of gateway driver b n k q y)
goes_told gateway driver a b m n h k p q x y told = record {
  goes = λ setup writes trace earlier writing reached made. ([], refl, record { reached = reached; wanting = tt; carried = carries_told a b told }, made);
  refusals = alike_none _ _ _ _ refl refl;
}

told_same : (a : KnownWire) → IsToldAs a a
told_same a = record { failures = refl; received = grows_none a.received; sent = grows_none a.sent }

pub goes_none : (line : LineValue) → Goes [] line line
goes_none line = goes_told line.gateway line.driver line.wire line.wire line.wire_due line.wire_due line.holding line.holding line.peers line.peers line.turned line.turned (told_same line.wire)

pub goes_more : (older newer : List Action) (a b c : LineValue) → Goes older a b → Goes newer b c → Goes (newer ++ older) a c
goes_more older newer a b c first second = record {
  goes = λ setup writes trace earlier writing reached made.
      let x = first.goes setup writes trace earlier writing reached made in
      let y = second.goes setup writes (events x.0 ++ trace) (x.0 ++ earlier) writing x.2.reached x.3 in (
        y.0 ++ x.0,
        steps_append setup writes trace older newer x.0 y.0 x.1 y.1,
        happens_more setup writes x.0 y.0 trace b.gateway c.gateway a.wire b.wire c.wire x.2 y.2,
        subst (λ (l : List Entry). HasMade l c.driver) (sym (append_assoc y.0 x.0 earlier)) y.3,
      );
  refusals = alike_more _ _ _ _ _ _ first.refusals second.refusals;
}

-- a turn, by what a driver ensures of one
turns_driven :
    (now : ℕ) (old new : GatewayValue) (driver driven : DriverValue) (a b : KnownWire) (m n : Option ℕ) (h k : HoldingValue) (p q : Peers) (x y : TurnReport)
    → ((setup : Setup) (writes : Writing) (trace : List Event) (earlier : List Entry) → IsWriting writes → IsReachedBy setup writes trace old → HasMade earlier driver
    → (turn : List Entry) × IsTurn now turn × Happens setup writes turn trace new a b × HasMade (turn ++ earlier) driven
    × TellTicks setup trace (events turn ++ trace) y.report y.kept y.refused y.gave_up)
    → RiseAlike old.refusals new.refusals driver.events_refused driven.events_refused
    → Goes (Turns now ∷ []) (line_of old driver a m h p x) (line_of new driven b n k q y)
turns_driven now old new driver driven a b m n h k p q x y turned refusals = record {
  goes = λ setup writes trace earlier writing reached made.
      let t = turned setup writes trace earlier writing reached made in (t.0, one_step setup writes trace (Turns now) t.0 t.1, t.2, t.3);
  refusals = refusals;
}

pub goes_turn :
    (now : ℕ) (old new : GatewayValue) (driver driven : DriverValue) (a b c : KnownWire) (m n : Option ℕ) (h k : HoldingValue) (p q : Peers) (x y : TurnReport) → IsToldAs a b
    → ((setup : Setup) (writes : Writing) (trace : List Event) (earlier : List Entry) → IsWriting writes → IsReachedBy setup writes trace old → HasMade earlier driver
    → (turn : List Entry) × IsTurn now turn × Happens setup writes turn trace new b c × HasMade (turn ++ earlier) driven
    × TellTicks setup trace (events turn ++ trace) y.report y.kept y.refused y.gave_up)
    → RiseAlike old.refusals new.refusals driver.events_refused driven.events_refused
    → Goes (Turns now ∷ []) (line_of old driver a m h p x) (line_of new driven c n k q y)
goes_turn now old new driver driven a b c m n h k p q x y told turned refusals =
    goes_more [] (Turns now ∷ []) (line_of old driver a m h p x) (line_of old driver b m h p x) (line_of new driven c n k q y)
    (goes_told old driver a b m m h h p p x x told) (turns_driven now old new driver driven b c m n h k p q x y turned refusals)

-- what is done with the wire alone before a turn is not seen in it
pub wire_first : (setup : Setup) (writes : Writing) (log : List Entry) (trace : List Event) (old new : GatewayValue) (a b c : KnownWire)
    → IsReachedBy setup writes trace old → IsToldAs a b → Happens setup writes log trace new b c → Happens setup writes log trace new a c
wire_first setup writes log trace old new a b c reached told happens =
    subst (λ (l : List Entry). Happens setup writes l trace new a c) (entries_nil log)
    (happens_more setup writes [] log trace old new a b c record { reached = reached; wanting = tt; carried = carries_told a b told } happens)

pub drives_turn :
    (now : ℕ) (old new : GatewayValue) (driver driven : DriverValue) (a b c : KnownWire) (m n : Option ℕ) (h k : HoldingValue) (p q : Peers) (x y : TurnReport) → IsToldAs a b
    → ((setup : Setup) (writes : Writing) (trace : List Event) (earlier : List Entry) → IsWriting writes → IsReachedBy setup writes trace old → HasMade earlier driver
    → (turn : List Entry) × IsTurn now turn × Happens setup writes turn trace new b c × HasMade (turn ++ earlier) driven
    × TellTicks setup trace (events turn ++ trace) y.report y.kept y.refused y.gave_up × HoldsByLog turn h k)
    → ((setup : Setup) (writes : Writing) (trace : List Event) (earlier : List Entry) → IsWriting writes → IsReachedBy setup writes trace old → HasMade earlier driver → HearBoth p q)
    → ((setup : Setup) (writes : Writing) (trace : List Event) (earlier : List Entry) → IsWriting writes → IsReachedBy setup writes trace old → HasMade earlier driver → IsToldTime now h k)
    → Drives now (line_of old driver a m h p x) (line_of new driven c n k q y)
drives_turn now old new driver driven a b c m n h k p q x y told turned hear time = record {
  tells = λ setup writes trace earlier writing reached made.
      let t = turned setup writes trace earlier writing reached made in
      (t.0, t.1, wire_first setup writes t.0 trace old new a b c reached told t.2, t.3, t.4, t.5);
  hear = hear;
  time = time;
}

-- ---- what is asked of a line

-- a call begins by it: an event of the gateway, of which its wire sees nothing
asks_accepted :
    (now : ℕ) (what : LineRequest) (answer : Option LineAnswer) (event : Event) (old new : GatewayValue) (driver : DriverValue) (a : KnownWire) (m : Option ℕ) (h : HoldingValue) (p : Peers) (x : TurnReport)
    → receipts_in (Accepts event) ≡ [] → ((setup : Setup) (writes : Writing) (trace : List Event) → IsAsked setup writes trace now what answer (Accepts event ∷ []))
    → ((setup : Setup) (writes : Writing) (trace : List Event) → IsReachedBy setup writes trace old → IsReachedBy setup writes (event ∷ trace) new)
    → new.refusals ≡ old.refusals → Goes (Asks now what answer ∷ []) (line_of old driver a m h p x) (line_of new driver a m h p x)
asks_accepted now what answer event old new driver a m h p x unseen is comes same = record {
  goes = λ setup writes trace earlier writing reached made.
      let log : List Entry = Accepts event ∷ [] in (
        log,
        one_step setup writes trace (Asks now what answer) log (is setup writes trace),
        record { reached = comes setup writes trace reached; wanting = (tt, tt); carried = carries_unseen (Accepts event) a unseen refl refl refl },
        made_unseen earlier (Accepts event) driver unseen refl refl refl made,
      );
  refusals = alike_none _ _ _ _ same refl;
}

-- and the wire is told of the call
goes_asked :
    (now : ℕ) (what : LineRequest) (answer : Option LineAnswer) (event : Event) (old new : GatewayValue) (driver : DriverValue) (a b : KnownWire) (m n : Option ℕ) (h k : HoldingValue) (p q : Peers) (x : TurnReport)
    → receipts_in (Accepts event) ≡ [] → ((setup : Setup) (writes : Writing) (trace : List Event) → IsAsked setup writes trace now what answer (Accepts event ∷ [])) → IsToldAs a b
    → ((setup : Setup) (writes : Writing) (trace : List Event) → IsReachedBy setup writes trace old → IsReachedBy setup writes (event ∷ trace) new)
    → new.refusals ≡ old.refusals → Goes (Asks now what answer ∷ []) (line_of old driver a m h p x) (line_of new driver b n k q x)
goes_asked now what answer event old new driver a b m n h k p q x unseen is told comes same =
    goes_more (Asks now what answer ∷ []) [] (line_of old driver a m h p x) (line_of new driver a m h p x) (line_of new driver b n k q x)
    (asks_accepted now what answer event old new driver a m h p x unseen is comes same) (goes_told new driver a b m n h k p q x x told)

-- a ring that is accepted, and one that is refused
abbrev pub rung_as : Result ℕ RingFault → Option LineAnswer
rung_as result = Some (answered.Rung result)

pub goes_ring :
    (now number : ℕ) (ringing : RingRequest) (old new : GatewayValue) (driver : DriverValue) (a b : KnownWire) (m n : Option ℕ) (h k : HoldingValue) (p q : Peers) (x : TurnReport) → IsToldAs a b
    → ((setup : Setup) (writes : Writing) (trace : List Event) → IsReachedBy setup writes trace old → IsReachedBy setup writes (Ring now number ∷ trace) new)
    → new.refusals ≡ old.refusals → Goes (Asks now (asked.Ring ringing) (rung_as (Ok number)) ∷ []) (line_of old driver a m h p x) (line_of new driver b n k q x)
goes_ring now number ringing old new driver a b m n h k p q x told rung same =
    goes_asked now (asked.Ring ringing) (rung_as (Ok number)) (Ring now number) old new driver a b m n h k p q x refl (λ setup writes trace. refl) told rung same

pub goes_refused :
    (now : ℕ) (ringing : RingRequest) (line : LineValue) (fault : RingFault)
    → ((setup : Setup) (writes : Writing) (trace : List Event) → IsReachedBy setup writes trace line.gateway
    → refuses fault ≡ refuses ring_faults.Busy ↔ idle_after (calling_leg setup trace) ≡ false)
    → ((setup : Setup) (writes : Writing) (trace : List Event) → IsReachedBy setup writes trace line.gateway → idle_after (calling_leg setup trace) ≡ true
    → refuses fault ≡ refuses ring_faults.NoNumber ↔ 4294967296 ≤ rings trace)
    → Goes (Asks now (asked.Ring ringing) (rung_as (Err fault)) ∷ []) line line
goes_refused now ringing line fault busy none = record {
  goes = λ setup writes trace earlier writing reached made.
      let log : List Entry = RefusesRing fault ∷ [] in
      let cause = refused_so setup trace fault (busy setup writes trace reached) (none setup writes trace reached) in
      let s = steps_ring setup writes true now log trace earlier line.gateway line.wire line.driver (inr (fault, refl)) (cause, tt) reached made in
      (log, one_step setup writes trace (Asks now (asked.Ring ringing) (rung_as (Err fault))) log refl, s.happens, s.made);
  refusals = alike_none _ _ _ _ refl refl;
}

-- a placing that is done, and one that is refused
abbrev pub placed_as : Result (Unit {0}) PlaceFault → Option LineAnswer
placed_as result = Some (answered.Placed result)

abbrev pub not_placed : PlaceFault → Result (Unit {0}) PlaceFault
not_placed fault = Err fault

is_placing : (setup : Setup) (writes : Writing) (trace : List Event) (now : ℕ) (connected : Bool) (what : LineRequest) (result : Result (Unit {0}) PlaceFault) (log : List Entry)
    → IsPlacing connected what → IsPlaced setup writes trace now connected result log → IsAsked setup writes trace now what (placed_as result) log
is_placing setup writes trace now true (asked.Ring ringing) result log asks is = absurd asks
is_placing setup writes trace now true (asked.Peer peering) result log asks is = absurd asks
is_placing setup writes trace now true (asked.Connect connecting) result log asks is = is
is_placing setup writes trace now true asked.NotConnected result log asks is = absurd asks
is_placing setup writes trace now true (asked.HangUp hanging_up) result log asks is = absurd asks
is_placing setup writes trace now false (asked.Ring ringing) result log asks is = absurd asks
is_placing setup writes trace now false (asked.Peer peering) result log asks is = absurd asks
is_placing setup writes trace now false (asked.Connect connecting) result log asks is = absurd asks
is_placing setup writes trace now false asked.NotConnected result log asks is = is
is_placing setup writes trace now false (asked.HangUp hanging_up) result log asks is = absurd asks

pub goes_placed :
    (now : ℕ) (connected : Bool) (what : LineRequest) (old new : GatewayValue) (driver : DriverValue) (a b : KnownWire) (m n : Option ℕ) (h k : HoldingValue) (p q : Peers) (x : TurnReport) → IsPlacing connected what → IsToldAs a b
    → ((setup : Setup) (writes : Writing) (trace : List Event) → IsReachedBy setup writes trace old → IsReachedBy setup writes (Placed now connected ∷ trace) new)
    → new.refusals ≡ old.refusals → Goes (Asks now what (placed_as (Ok tt)) ∷ []) (line_of old driver a m h p x) (line_of new driver b n k q x)
goes_placed now connected what old new driver a b m n h k p q x asks told placed same =
    goes_asked now what (placed_as (Ok tt)) (Placed now connected) old new driver a b m n h k p q x refl
    (λ setup writes trace. is_placing setup writes trace now connected what (Ok tt) (Accepts (Placed now connected) ∷ []) asks refl) told placed same

same_cause : (a b : PlaceFault) → not_placed a ≡ not_placed b → a ≡ b
same_cause a b e = cc

pub goes_unplaced :
    (now : ℕ) (connected : Bool) (what : LineRequest) (line : LineValue) (fault : PlaceFault) → IsPlacing connected what
    → ((setup : Setup) (writes : Writing) (trace : List Event) → IsReachedBy setup writes trace line.gateway
    → not_placed fault ≡ not_placed place_faults.NotAsked ↔ asked_after setup writes trace ≡ None)
    → Goes (Asks now what (placed_as (Err fault)) ∷ []) line line
goes_unplaced now connected what line fault asks not_asked = record {
  goes = λ setup writes trace earlier writing reached made.
      let cause = not_asked setup writes trace reached in (
        [],
        one_step setup writes trace (Asks now what (placed_as (Err fault))) []
            (is_placing setup writes trace now connected what (Err fault) [] asks (refl, (λ e. cause.0 (ap not_placed e), λ none. same_cause fault place_faults.NotAsked (cause.1 none)))),
        record { reached = reached; wanting = tt; carried = carries_told line.wire line.wire (told_same line.wire) },
        made,
      );
  refusals = alike_none _ _ _ _ refl refl;
}

-- ---- its wire is told of the peers of its legs

pub goes_peers : (old new : LineValue) → TellsWire old new → Goes [] old new
goes_peers old new tells = record {
  goes = λ setup writes trace earlier writing reached made. (
    [],
    refl,
    record { reached = subst (λ (g : GatewayValue). IsReachedBy setup writes trace g) (sym tells.gateway) reached; wanting = tt; carried = carries_told old.wire new.wire tells.wire },
    subst (λ (d : DriverValue). HasMade earlier d) (sym tells.driver) made,
  );
  refusals = alike_none _ _ _ _ (ap (λ (g : GatewayValue). g.refusals) tells.gateway) (ap (λ (d : DriverValue). d.events_refused) tells.driver);
}

-- and nothing else is done: what was asked for is no event of the gateway
pub goes_quiet :
    (now : ℕ) (what : LineRequest) (answer : Option LineAnswer) (old new : LineValue) → TellsWire old new → ((setup : Setup) (writes : Writing) (trace : List Event) → IsAsked setup writes trace now what answer [])
    → Goes (Asks now what answer ∷ []) old new
unfolding goes_peers
goes_quiet now what answer old new tells is = record {
  goes = λ setup writes trace earlier writing reached made.
      let x = (goes_peers old new tells).goes setup writes trace earlier writing reached made in
      ([], one_step setup writes trace (Asks now what answer) [] (is setup writes trace), x.2, x.3);
  refusals = (goes_peers old new tells).refusals;
}

-- it is left at rest, where what is due lies later
pub goes_rest : (now : ℕ) (line : LineValue)
    → ((setup : Setup) (writes : Writing) (trace : List Event) → IsReachedBy setup writes trace line.gateway → is_due (due_at setup writes trace) now ≡ false)
    → Goes (Rests now ∷ []) line line
goes_rest now line later = record {
  goes = λ setup writes trace earlier writing reached made.
      ([], one_step setup writes trace (Rests now) [] (refl, later setup writes trace reached), record { reached = reached; wanting = tt; carried = carries_told line.wire line.wire (told_same line.wire) }, made);
  refusals = alike_none _ _ _ _ refl refl;
}

-- it is woken
pub goes_wake : (line : LineValue) → Goes (Wakes ∷ []) line line
goes_wake line = record {
  goes = λ setup writes trace earlier writing reached made.
      ([], one_step setup writes trace Wakes [] refl, record { reached = reached; wanting = tt; carried = carries_told line.wire line.wire (told_same line.wire) }, made);
  refusals = alike_none _ _ _ _ refl refl;
}
