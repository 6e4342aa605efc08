-- No datagram of a job leaves before its connect.
use Rattle.std.proofs.Common.{◌≡◌, ℕ, Bool, true, false, List, [], ◌∷◌, ◌++◌, Option, Some, None, Result, Ok, Err, refl, sym, ◌∙◌, ap, subst, inl, inr, ◌⊎◌}
use Rattle.std.specs.List.{All}
use Rattle.std.proofs.lemmas.Grind.{flat_map-append}
use Rattle.std.proofs.lemmas.List.Elements.{All-head, All-tail}
use Rattle.fax_call.specs.Writings.{Writing}
use Rattle.fax_gateway.specs.declared.fault.PlaceFault.{PlaceFault}
use Rattle.fax_gateway.specs.declared.fault.RingFault.{RingFault}
use Rattle.fax_gateway.specs.declared.leg.Leg.{Leg}
use Rattle.fax_gateway.specs.declared.leg.Leg.TheVariants as legs
use Rattle.fax_gateway.specs.Asking.{CallsBeginWherePlaced, GivesInPlacedCalls}
use Rattle.fax_gateway.specs.Driving.{Accepts, AreReceives, Comes, Entry, FailsToReceive, GivesNoDatagram, IsTick, IsTurn, ReceivesNothing, RefusesDatagram, RefusesRing, RefusesTick, Sends, events, events_in}
use Rattle.fax_gateway.specs.Events.{Event, FromCalled, FromCalling, Given, Placed, Ring, Tick}
use Rattle.fax_gateway.specs.Setups.{Setup}
use Rattle.fax_gateway.specs.Traces.{IsTrace}
use Rattle.fax_gateway.proofs.DrivingLemmas.{sends_no_event}
use Rattle.fax_line.specs.declared.asked.LineAnswer.{LineAnswer}
use Rattle.fax_line.specs.declared.asked.LineAnswer.TheVariants as answered
use Rattle.fax_line.specs.declared.asked.LineRequest.{LineRequest}
use Rattle.fax_line.specs.declared.asked.LineRequest.TheVariants as asked
use Rattle.fax_line.specs.declared.asked.ConnectRequest.{ConnectRequest}
use Rattle.fax_line.specs.Actions.{Action, AreSteps, Asks, IsAsked, IsStep, Rests, Turns, Wakes}
use Rattle.fax_line.specs.Connects.{GivesAfterConnect, JobsWaitForConnects, WasConnected}

-- a call is placed and connected at this moment
abbrev Has : ℕ → List Event → Type 0
Has at [] = ⊥
Has at (event ∷ earlier) = (event ≡ Placed at true) ⊎ Has at earlier

has_either : (at : ℕ) (newer older : List Event) → Has at (newer ++ older) → Has at newer ⊎ Has at older
has_either at [] older has = inr has
has_either at (event ∷ newer) older (inl is) = inl (inl is)
has_either at (event ∷ newer) older (inr has) = left (has_either at newer older has)
  where
    left : Has at newer ⊎ Has at older → Has at (event ∷ newer) ⊎ Has at older
    left (inl has) = inl (inr has)
    left (inr has) = inr has

has_after : (at : ℕ) (newer older : List Event) → Has at older → Has at (newer ++ older)
has_after at [] older has = has
has_after at (event ∷ newer) older has = inr (has_after at newer older has)

-- ---- in a turn none is

abbrev HasNone : List Entry → Type 0
HasNone log = (at : ℕ) → Has at (events log) → ⊥

none_by : (log : List Entry) → events log ≡ [] → HasNone log
none_by log is at has = subst (λ (l : List Event). Has at l) is has

none_in : (newer older : List Entry) → HasNone newer → HasNone older → HasNone (newer ++ older)
none_in newer older first second at has = either (has_either at (events newer) (events older) (subst (λ (l : List Event). Has at l) (flat_map-append events_in newer older) has))
  where
    either : Has at (events newer) ⊎ Has at (events older) → ⊥
    either (inl has) = first at has
    either (inr has) = second at has

comes_none : (leg : Leg) (now : ℕ) (e : Entry) → Comes leg now e → HasNone (e ∷ [])
comes_none leg now (Accepts (Ring moment number)) comes at has = absurd comes
comes_none leg now (Accepts (FromCalling octets moment decided read)) comes at (inl is) = cc
comes_none leg now (Accepts (FromCalling octets moment decided read)) comes at (inr has) = has
comes_none leg now (Accepts (FromCalled octets moment decided)) comes at (inl is) = cc
comes_none leg now (Accepts (FromCalled octets moment decided)) comes at (inr has) = has
comes_none leg now (Accepts (Tick moment given)) comes at has = absurd comes
comes_none leg now (Accepts (Placed moment connected)) comes at has = absurd comes
comes_none leg now (RefusesRing fault) comes at has = absurd comes
comes_none leg now (RefusesDatagram on octets) comes at has = has
comes_none leg now (RefusesTick moment) comes at has = absurd comes
comes_none leg now (ReceivesNothing on) comes at has = absurd comes
comes_none leg now (FailsToReceive on) comes at has = absurd comes
comes_none leg now (Sends on octets fails) comes at has = absurd comes

all_none : (leg : Leg) (now : ℕ) (log : List Entry) → All (Comes leg now) log → HasNone log
all_none leg now [] all = λ at has. has
all_none leg now (e ∷ log) all = none_in (e ∷ []) log (comes_none leg now e (All-head (Comes leg now) e log all)) (all_none leg now log (All-tail (Comes leg now) e log all))

gives_no_event : (leg : Leg) (e : Entry) → GivesNoDatagram leg e → events (e ∷ []) ≡ []
gives_no_event leg e (inl is) = ap (λ (x : Entry). events (x ∷ [])) is
gives_no_event leg e (inr is) = ap (λ (x : Entry). events (x ∷ [])) is

receives_none : (leg : Leg) (now : ℕ) (log : List Entry) → AreReceives leg now log → HasNone log
receives_none leg now log (inl (each, many)) = all_none leg now log each
receives_none leg now log (inr (came, last, is, each, low, none)) =
    subst (λ (l : List Entry). HasNone l) (sym is) (none_in (last ∷ []) came (none_by (last ∷ []) (gives_no_event leg last none)) (all_none leg now came each))

ticks_none : (now : ℕ) (given : Given) → HasNone (Accepts (Tick now given) ∷ [])
ticks_none now given at (inl is) = cc
ticks_none now given at (inr has) = has

tick_none : (now : ℕ) (log : List Entry) → IsTick now log → HasNone log
tick_none now log (inl (given, calling, called, first, second, is)) =
    subst (λ (l : List Entry). HasNone l) (sym is)
    (none_in called (calling ++ Accepts (Tick now given) ∷ []) (none_by called (sends_no_event legs.Called given.on_called called second))
    (none_in calling (Accepts (Tick now given) ∷ []) (none_by calling (sends_no_event legs.Calling given.on_calling calling first)) (ticks_none now given)))
tick_none now log (inr is) = none_by log (ap events is)

turn_none : (now : ℕ) (log : List Entry) → IsTurn now log → HasNone log
turn_none now log turn =
    subst (λ (l : List Entry). HasNone l) (sym turn.log_is)
    (none_in turn.tick (turn.called ++ turn.calling) (tick_none now turn.tick turn.ticks)
    (none_in turn.called turn.calling (receives_none legs.Called now turn.called turn.on_called) (receives_none legs.Calling now turn.calling turn.on_calling)))

-- ---- it was asked for

placed_at : (now at : ℕ) → Placed now true ≡ Placed at true → now ≡ at
placed_at now at is = cc

not_placed : (now at : ℕ) → Placed now false ≡ Placed at true → ⊥
not_placed now at is = cc

no_ring : (now number at : ℕ) → Ring now number ≡ Placed at true → ⊥
no_ring now number at is = cc

here : (now at : ℕ) (connecting : ConnectRequest) (earlier : List Action) → now ≡ at → WasConnected (Asks now (asked.Connect connecting) (Some (answered.Placed (Ok tt))) ∷ earlier) at
here now at connecting earlier same =
    subst (λ (n : ℕ). WasConnected (Asks now (asked.Connect connecting) (Some (answered.Placed (Ok tt))) ∷ earlier) n) same record { later = []; connecting = connecting; earlier = earlier; split = refl }

asked_for : (setup : Setup) (writes : Writing) (trace : List Event) (now : ℕ) (what : LineRequest) (answer : Option LineAnswer) (log : List Entry) (earlier : List Action) (at : ℕ) → IsAsked setup writes trace now what answer log
    → Has at (events log) → WasConnected (Asks now what answer ∷ earlier) at
asked_for setup writes trace now (asked.Ring ringing) (Some (answered.Rung (Ok number))) log earlier at is has = rung (subst (λ (l : List Entry). Has at (events l)) is has)
  where
    rung : Has at (Ring now number ∷ []) → WasConnected (Asks now (asked.Ring ringing) (Some (answered.Rung (Ok number))) ∷ earlier) at
    rung (inl ring) = absurd (no_ring now number at ring)
    rung (inr has) = absurd has
asked_for setup writes trace now (asked.Ring ringing) (Some (answered.Rung (Err fault))) log earlier at is has = absurd (none_by log (ap events is) at has)
asked_for setup writes trace now (asked.Peer peering) (Some answered.Done) log earlier at is has = absurd (none_by log (ap events is) at has)
asked_for setup writes trace now (asked.Peer peering) (Some answered.NoRoute) log earlier at is has = absurd (none_by log (ap events is) at has)
asked_for setup writes trace now (asked.Connect connecting) (Some (answered.Placed (Ok done))) log earlier at is has = connected (subst (λ (l : List Entry). Has at (events l)) is has)
  where
    connected : Has at (Placed now true ∷ []) → WasConnected (Asks now (asked.Connect connecting) (Some (answered.Placed (Ok done))) ∷ earlier) at
    connected (inl placed) = here now at connecting earlier (placed_at now at placed)
    connected (inr has) = absurd has
asked_for setup writes trace now (asked.Connect connecting) (Some (answered.Placed (Err fault))) log earlier at is has = absurd (none_by log (ap events is.0) at has)
asked_for setup writes trace now (asked.Connect connecting) (Some answered.NoRoute) log earlier at is has = absurd (none_by log (ap events is) at has)
asked_for setup writes trace now asked.NotConnected (Some (answered.Placed (Ok done))) log earlier at is has = unplaced (subst (λ (l : List Entry). Has at (events l)) is has)
  where
    unplaced : Has at (Placed now false ∷ []) → WasConnected (Asks now asked.NotConnected (Some (answered.Placed (Ok done))) ∷ earlier) at
    unplaced (inl placed) = absurd (not_placed now at placed)
    unplaced (inr has) = absurd has
asked_for setup writes trace now asked.NotConnected (Some (answered.Placed (Err fault))) log earlier at is has = absurd (none_by log (ap events is.0) at has)
asked_for setup writes trace now (asked.HangUp hanging_up) (Some answered.Done) log earlier at is has = absurd (none_by log (ap events is) at has)
asked_for setup writes trace now what answer log earlier at is has = absurd is

step_connects : (setup : Setup) (writes : Writing) (trace : List Event) (action : Action) (log : List Entry) (earlier : List Action) (at : ℕ) → IsStep setup writes trace action log → Has at (events log) → WasConnected (action ∷ earlier) at
step_connects setup writes trace (Turns now) log earlier at step has = absurd (turn_none now log step at has)
step_connects setup writes trace (Rests now) log earlier at step has = absurd (none_by log (ap events step.0) at has)
step_connects setup writes trace (Asks now what answer) log earlier at step has = asked_for setup writes trace now what answer log earlier at step has
step_connects setup writes trace Wakes log earlier at step has = absurd (none_by log (ap events step) at has)

connects : (setup : Setup) (writes : Writing) (trace : List Event) (actions : List Action) (log : List Entry) (at : ℕ) → AreSteps setup writes trace actions log → Has at (events log) → WasConnected actions at
connects setup writes trace [] log at is has = absurd (none_by log (ap events is) at has)
connects setup writes trace (action ∷ earlier) log at (newer, older, is, step, steps) has =
    either (λ has. connects setup writes trace earlier older at steps has)
    (has_either at (events newer) (events older) (subst (λ (l : List Event). Has at l) (ap events is ∙ flat_map-append events_in newer older) has))
  where
    before : WasConnected earlier at → WasConnected (action ∷ earlier) at
    before was = record { later = action ∷ was.later; connecting = was.connecting; earlier = was.earlier; split = ap (λ (l : List Action). action ∷ l) was.split }

    either : (Has at (events older) → WasConnected earlier at) → Has at (events newer) ⊎ Has at (events older) → WasConnected (action ∷ earlier) at
    either there (inl has) = step_connects setup writes (events older ++ trace) action newer earlier at step has
    either there (inr has) = before (there has)

-- ---- the law

trace_after : (setup : Setup) (writes : Writing) (later earlier : List Event) → IsTrace setup writes (later ++ earlier) → IsTrace setup writes earlier
trace_after setup writes [] earlier t = t
trace_after setup writes (event ∷ later) earlier t = trace_after setup writes later earlier t.1

has_split : (at : ℕ) (connected : Bool) (later earlier : List Event) → connected ≡ true → Has at (later ++ Placed at connected ∷ earlier)
has_split at connected later earlier is = has_after at later (Placed at connected ∷ earlier) (inl (ap (λ (b : Bool). Placed at b) is))

pub jobs_wait_for_connects : CallsBeginWherePlaced → GivesInPlacedCalls → JobsWaitForConnects
jobs_wait_for_connects begin_where_placed gives_in_calls setup writes actions log later at given earlier datagram asks steps trace is gives =
    let after : IsTrace setup writes (Tick at given ∷ earlier) = trace_after setup writes later (Tick at given ∷ earlier) (subst (IsTrace setup writes) is trace) in
    let call = gives_in_calls setup writes earlier at given datagram asks after gives in
    let placed = begin_where_placed setup writes earlier call.l asks after.1 call.is_leg in
    let has : Has placed.at earlier = subst (λ (l : List Event). Has placed.at l) (sym placed.split) (has_split placed.at call.l.placed placed.later placed.earlier call.placed) in
    let there : Has placed.at (events log) = subst (λ (l : List Event). Has placed.at l) (sym is) (has_after placed.at later (Tick at given ∷ earlier) (inr has)) in
    record { gives = call; placed = placed; connected = connects setup writes [] actions log placed.at steps there }
