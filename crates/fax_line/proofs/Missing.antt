-- The clock of a line goes no further than the moments of what is done with it.
use Rattle.std.proofs.Common.{◌≡◌, ℕ, ◌≤◌, max, Bool, true, false, List, [], ◌∷◌, ◌++◌, Option, Some, Result, Ok, Err, refl, sym, ◌∙◌, ap, subst, append_assoc, arith, inl, inr}
use Rattle.std.specs.List.{All}
use Rattle.std.proofs.lemmas.Grind.{flat_map-append}
use Rattle.std.proofs.lemmas.List.Elements.{All-head, All-tail}
use Rattle.fax_timers.specs.Moments.{is_due}
use Rattle.fax_call.specs.Writings.{Writing}
use Rattle.fax_gateway.specs.declared.fault.PlaceFault.{PlaceFault}
use Rattle.fax_gateway.specs.declared.fault.RingFault.{RingFault}
use Rattle.fax_gateway.specs.declared.leg.Leg.{Leg}
use Rattle.fax_gateway.specs.declared.leg.Leg.TheVariants as legs
use Rattle.fax_gateway.specs.Driving.{Accepts, AreReceives, Comes, Entry, FailsToReceive, GivesNoDatagram, IsTick, IsTurn, ReceivesNothing, RefusesDatagram, RefusesRing, RefusesTick, Sends, events, events_in}
use Rattle.fax_gateway.specs.Due.{due_at}
use Rattle.fax_gateway.specs.Events.{Event, FromCalled, FromCalling, Placed, Ring, Tick, clock}
use Rattle.fax_gateway.specs.Setups.{Setup}
use Rattle.fax_gateway.proofs.DrivingLemmas.{sends_no_event}
use Rattle.fax_line.specs.declared.asked.LineAnswer.{LineAnswer}
use Rattle.fax_line.specs.declared.asked.LineAnswer.TheVariants as answered
use Rattle.fax_line.specs.declared.asked.LineRequest.{LineRequest}
use Rattle.fax_line.specs.declared.asked.LineRequest.TheVariants as asked
use Rattle.fax_line.specs.Actions.{Action, AreSteps, Asks, IsAsked, IsPlaced, IsRung, Rests, Turns, Wakes}
use Rattle.fax_line.specs.Laws.{RestsMissNothing}
use Rattle.fax_line.specs.Operations.{RiseTo}

-- after these entries the clock stands at this moment at most, or where it stood
abbrev Keeps : ℕ → List Entry → Type 0
Keeps now log = (trace : List Event) → clock (events log ++ trace) ≤ max now (clock trace)

none_keeps : (now : ℕ) (log : List Entry) → events log ≡ [] → Keeps now log
none_keeps now log is trace = subst (λ (l : List Event). clock (l ++ trace) ≤ max now (clock trace)) (sym is) (omega arith)

both_keep : (now : ℕ) (newer older : List Entry) → Keeps now newer → Keeps now older → Keeps now (newer ++ older)
both_keep now newer older first second trace =
    let same : events newer ++ (events older ++ trace) ≡ events (newer ++ older) ++ trace =
    sym (append_assoc (events newer) (events older) trace) ∙ ap (λ (l : List Event). l ++ trace) (sym (flat_map-append events_in newer older)) in
    let a = first (events older ++ trace) in
    let b = second trace in
    subst (λ (l : List Event). clock l ≤ max now (clock trace)) same (omega (arith, a, b))

come_keeps : (at : Leg) (now : ℕ) (e : Entry) (trace : List Event) → Comes at now e → clock (events_in e ++ trace) ≤ max now (clock trace)
come_keeps at now (Accepts (Ring moment number)) trace h = absurd h
come_keeps at now (Accepts (FromCalling octets moment decided read)) trace h = let is : moment ≡ now = h.1 in omega (arith, is)
come_keeps at now (Accepts (FromCalled octets moment decided)) trace h = let is : moment ≡ now = h.1 in omega (arith, is)
come_keeps at now (Accepts (Tick moment given)) trace h = absurd h
come_keeps at now (Accepts (Placed moment connected)) trace h = absurd h
come_keeps at now (RefusesRing fault) trace h = absurd h
come_keeps at now (RefusesDatagram on octets) trace h = omega arith
come_keeps at now (RefusesTick moment) trace h = absurd h
come_keeps at now (ReceivesNothing on) trace h = absurd h
come_keeps at now (FailsToReceive on) trace h = absurd h
come_keeps at now (Sends on octets fails) trace h = absurd h

all_keep : (at : Leg) (now : ℕ) (log : List Entry) → All (Comes at now) log → Keeps now log
all_keep at now [] all trace = omega arith
all_keep at now (e ∷ log) all trace =
    let a = come_keeps at now e (events log ++ trace) (All-head (Comes at now) e log all) in
    let b = all_keep at now log (All-tail (Comes at now) e log all) trace in
    subst (λ (l : List Event). clock l ≤ max now (clock trace)) (sym (append_assoc (events_in e) (events log) trace)) (omega (arith, a, b))

gives_no_event : (at : Leg) (e : Entry) → GivesNoDatagram at e → events (e ∷ []) ≡ []
gives_no_event at e (inl is) = ap (λ (x : Entry). events (x ∷ [])) is
gives_no_event at e (inr is) = ap (λ (x : Entry). events (x ∷ [])) is

receives_keep : (at : Leg) (now : ℕ) (log : List Entry) → AreReceives at now log → Keeps now log
receives_keep at now log (inl (each, many)) = all_keep at now log each
receives_keep at now log (inr (came, last, is, each, low, none)) =
    subst (λ (l : List Entry). Keeps now l) (sym is) (both_keep now (last ∷ []) came (none_keeps now (last ∷ []) (gives_no_event at last none)) (all_keep at now came each))

tick_keeps : (now : ℕ) (log : List Entry) → IsTick now log → Keeps now log
tick_keeps now log (inl (given, calling, called, first, second, is)) =
    let tick : List Entry = Accepts (Tick now given) ∷ [] in
    let ticks : Keeps now tick = λ trace. omega arith in
    subst (λ (l : List Entry). Keeps now l) (sym is)
    (both_keep now called (calling ++ tick) (none_keeps now called (sends_no_event legs.Called given.on_called called second))
    (both_keep now calling tick (none_keeps now calling (sends_no_event legs.Calling given.on_calling calling first)) ticks))
tick_keeps now log (inr is) = none_keeps now log (ap events is)

turn_keeps : (now : ℕ) (log : List Entry) → IsTurn now log → Keeps now log
turn_keeps now log turn =
    subst (λ (l : List Entry). Keeps now l) (sym turn.log_is)
    (both_keep now turn.tick (turn.called ++ turn.calling) (tick_keeps now turn.tick turn.ticks)
    (both_keep now turn.called turn.calling (receives_keep legs.Called now turn.called turn.on_called) (receives_keep legs.Calling now turn.calling turn.on_calling)))

ring_keeps : (now : ℕ) (result : Result ℕ RingFault) (log : List Entry) → IsRung now result log → Keeps now log
ring_keeps now (Ok number) log is = subst (λ (l : List Entry). Keeps now l) (sym is) (λ t. omega arith)
ring_keeps now (Err fault) log is = none_keeps now log (ap events is)

place_keeps : (setup : Setup) (writes : Writing) (trace : List Event) (now : ℕ) (connected : Bool) (result : Result (Unit {0}) PlaceFault) (log : List Entry)
    → IsPlaced setup writes trace now connected result log → Keeps now log
place_keeps setup writes trace now connected (Ok done) log is = subst (λ (l : List Entry). Keeps now l) (sym is) (λ t. omega arith)
place_keeps setup writes trace now connected (Err fault) log is = none_keeps now log (ap events is.0)

ask_keeps : (setup : Setup) (writes : Writing) (trace : List Event) (now : ℕ) (what : LineRequest) (answer : Option LineAnswer) (log : List Entry) → IsAsked setup writes trace now what answer log → Keeps now log
ask_keeps setup writes trace now (asked.Ring ringing) (Some (answered.Rung result)) log is = ring_keeps now result log is
ask_keeps setup writes trace now (asked.Peer peering) (Some answered.Done) log is = none_keeps now log (ap events is)
ask_keeps setup writes trace now (asked.Peer peering) (Some answered.NoRoute) log is = none_keeps now log (ap events is)
ask_keeps setup writes trace now (asked.Connect connecting) (Some (answered.Placed result)) log is = place_keeps setup writes trace now true result log is
ask_keeps setup writes trace now (asked.Connect connecting) (Some answered.NoRoute) log is = none_keeps now log (ap events is)
ask_keeps setup writes trace now asked.NotConnected (Some (answered.Placed result)) log is = place_keeps setup writes trace now false result log is
ask_keeps setup writes trace now (asked.HangUp hanging_up) (Some answered.Done) log is = none_keeps now log (ap events is)
ask_keeps setup writes trace now what answer log is = absurd is

-- one step more
step_low : (now latest : ℕ) (log newer older : List Entry) (trace : List Event) → log ≡ newer ++ older → Keeps now newer → now ≤ latest
    → clock (events older ++ trace) ≤ max now (clock trace) → clock (events log ++ trace) ≤ max latest (clock trace)
step_low now latest log newer older trace is keeps low before =
    let after : clock (events newer ++ (events older ++ trace)) ≤ max latest (clock trace) = let a = keeps (events older ++ trace) in omega (arith, a, before, low) in
    let same : events newer ++ (events older ++ trace) ≡ events log ++ trace =
    sym (append_assoc (events newer) (events older) trace) ∙ ap (λ (l : List Event). l ++ trace) (sym (flat_map-append events_in newer older)) ∙ ap (λ (l : List Entry). events l ++ trace) (sym is) in
    subst (λ (l : List Event). clock l ≤ max latest (clock trace)) same after

clock_low : (setup : Setup) (writes : Writing) (actions : List Action) (latest : ℕ) (trace : List Event) (log : List Entry)
    → AreSteps setup writes trace actions log → RiseTo actions latest → clock (events log ++ trace) ≤ max latest (clock trace)
clock_low setup writes [] latest trace log is rise = none_keeps latest log (ap events is) trace
clock_low setup writes (Turns now ∷ earlier) latest trace log (newer, older, is, step, steps) rise =
    step_low now latest log newer older trace is (turn_keeps now newer step) rise.0 (clock_low setup writes earlier now trace older steps rise.1)
clock_low setup writes (Rests now ∷ earlier) latest trace log (newer, older, is, step, steps) rise =
    step_low now latest log newer older trace is (none_keeps now newer (ap events step.0)) rise.0 (clock_low setup writes earlier now trace older steps rise.1)
clock_low setup writes (Asks now what answer ∷ earlier) latest trace log (newer, older, is, step, steps) rise =
    step_low now latest log newer older trace is (ask_keeps setup writes (events older ++ trace) now what answer newer step) rise.0 (clock_low setup writes earlier now trace older steps rise.1)
clock_low setup writes (Wakes ∷ earlier) latest trace log (newer, older, is, step, steps) rise =
    step_low latest latest log newer older trace is (none_keeps latest newer (ap events step)) (omega arith) (clock_low setup writes earlier latest trace older steps rise)

events_nil : (l : List Event) → l ++ [] ≡ l
events_nil [] = refl
events_nil (x ∷ xs) = ap (λ (l : List Event). x ∷ l) (events_nil xs)

-- so what is due lies after what the clock reads
pub miss_nothing : RestsMissNothing
miss_nothing setup writes earlier now log (newer, older, is, step, steps) rise =
    let none : newer ≡ [] = step.0 in
    let same : events older ≡ events log = ap events (sym (is ∙ ap (λ (l : List Entry). l ++ older) none)) in
    let low : clock (events older) ≤ now = let a = subst (λ (l : List Event). clock l ≤ max now 0) (events_nil (events older)) (clock_low setup writes earlier now [] older steps rise) in omega (arith, a) in
    let reads : now ≡ max now (clock (events older)) = omega (arith, low) in
    subst (λ (l : List Event). is_due (due_at setup writes l) (max now (clock l)) ≡ false) same
    (subst (λ (m : ℕ). is_due (due_at setup writes (events older)) m ≡ false) reads (subst (λ (l : List Event). is_due (due_at setup writes l) now ≡ false) (events_nil (events older)) step.1))
