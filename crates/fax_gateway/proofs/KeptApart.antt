-- The datagrams of each leg stand at least 40 ms apart, and after a preamble as far as is set.
use Rattle.std.proofs.Common.{◌≡◌, ℕ, ◌+◌, ◌≤◌, max, min, Bool, true, false, not, List, [], ◌∷◌, ◌++◌, Option, Some, None, Result, Ok, Err, option_map, refl, sym, ◌∙◌, ap, subst, arith, if◌then◌else◌}
use Rattle.std.proofs.lemmas.Bool.{leb-true}
use Rattle.fax_timers.specs.declared.pace.LastPacket.{LastPacket}
use Rattle.fax_timers.specs.Moments.{is_due}
use Rattle.fax_timers.specs.Paces.{PaceValue, new_pace, pace_allows, allowed_from, pace_after}
use Rattle.fax_udptl.specs.declared.fault.UdptlFault.{UdptlFault}
use Rattle.fax_udptl.specs.Datagrams.{DatagramValue, datagram_of}
use Rattle.fax_ifp.specs.Pieces.{Piece}
use Rattle.fax_jobs.specs.Jobs.{JobValue}
use Rattle.fax_answer.specs.declared.state.State.{State}
use Rattle.fax_answer.specs.declared.state.State.TheVariants.{Idle, Identify, Listen, Train, Page, Again, Closing}
use Rattle.fax_answer.specs.Table.{Reading}
use Rattle.fax_answer.specs.Replies.{WaitingPacket, is_preamble, is_waiting}
use Rattle.fax_answer.specs.Calls as answer
use Rattle.fax_answer.specs.Calls.{AnswererCore, new_answering, rung, says_goodbye, identifies_again, identifies_anew, timed_in}
use Rattle.fax_answer.specs.Readings.{comes_all}
use Rattle.fax_call.specs.Writings.{Writing}
use Rattle.fax_call.specs.Replies.{Packet, Due, signals_preamble, waits}
use Rattle.fax_call.specs.Table.{Move, Stays, Trains, Sends, AsksAgain, Turns, Closes, HangsUp, on_timers}
use Rattle.fax_call.specs.Calls as call
use Rattle.fax_call.specs.Calls.{CallerCore, moved, TakenPart, taken, after_giving}
use Rattle.fax_call.specs.Delivery.{is_over}
use Rattle.fax_gateway.specs.Setups.{Setup}
use Rattle.fax_gateway.specs.Events.{Event, Ring, FromCalling, FromCalled, Tick, Placed, Given, clock}
use Rattle.fax_gateway.specs.Legs.{new_pieces}
use Rattle.fax_gateway.specs.CallingLegs as calling_legs
use Rattle.fax_gateway.specs.CallingLegs.{CallingLeg, calling_leg, calling_after, is_idle, answers, told_calling}
use Rattle.fax_gateway.specs.CalledLegs as called_legs
use Rattle.fax_gateway.specs.CalledLegs.{CalledLeg, core_left, begun_core, calls, comes_to, leg_ticked, hears, with_tick, told_called}
use Rattle.fax_gateway.specs.BothLegs.{BothLegs, begins_next, heard_in_tick, leg_of, sends, sends_if, book_of, both_legs, in_tick}
use Rattle.fax_gateway.specs.Traces.{IsTrace}
use Rattle.fax_gateway.specs.Apart.{LastGiven, if_given, last_given, HasPreamble, IsApart, DatagramsAreApart}
use Rattle.fax_gateway.proofs.Preambles.{preamble_answered, preamble_called}

-- A PACE: its pause is that of the setup, and it lets nothing through for 40 ms after the datagram given last, and after a
-- preamble for that pause
abbrev Holds : Setup → Option LastPacket → Option LastGiven → Type 0
Holds setup packet None = Unit {0}
Holds setup packet (Some last) = (last.at + 40 ≤ allowed_from packet) × (HasPreamble last.octets → last.at + setup.pause ≤ allowed_from packet)

record IsPaced (setup : Setup) (p : PaceValue) (last : Option LastGiven) : Type 0 where
  pause : p.pause ≡ setup.pause
  holds : Holds setup p.last last

allowed : (packet : Option LastPacket) (now : ℕ) → pace_allows packet now ≡ true → allowed_from packet ≤ now
allowed None now h = omega arith
allowed (Some p) now h = leb-true (p.at + p.span) now h

apart : (setup : Setup) (packet : Option LastPacket) (last : Option LastGiven) (now : ℕ) → Holds setup packet last → pace_allows packet now ≡ true → IsApart setup last now
apart setup packet None now h a = tt
apart setup packet (Some last) now h a = (omega (arith, h.0, allowed packet now a), λ e. omega (arith, h.1 e, allowed packet now a))

-- a datagram is given at a moment, where the pace allows, and moves it as a preamble where its packet is one; or none is
abbrev Moves : (given : Option (List ℕ)) → PaceValue → ℕ → PaceValue → Type 0
Moves None p now q = q ≡ p
Moves (Some octets) p now q = (pace_allows p.last now ≡ true) × (b : Bool) × (q ≡ pace_after b p now) × (HasPreamble octets → b ≡ true)

span_is : (setup : Setup) (p : PaceValue) (now : ℕ) (b : Bool) → p.pause ≡ setup.pause → now + 40 ≤ allowed_from (pace_after b p now).last
span_is setup p now true e = omega (arith, e, setup.is_pause.0)
span_is setup p now false e = omega arith

pause_is : (setup : Setup) (p : PaceValue) (now : ℕ) (b : Bool) → p.pause ≡ setup.pause → b ≡ true → now + setup.pause ≤ allowed_from (pace_after b p now).last
pause_is setup p now true e t = omega (arith, e, setup.is_pause.1)
pause_is setup p now false e t = cc

paced_on : (setup : Setup) (p q : PaceValue) (now : ℕ) (last : Option LastGiven) (o : Option (List ℕ)) → Moves o p now q → IsPaced setup p last → IsPaced setup q (if_given o now last)
paced_on setup p q now last None m i = subst (λ (x : PaceValue). IsPaced setup x last) (sym m) i
paced_on setup p q now last (Some octets) m i =
    subst (λ (x : PaceValue). IsPaced setup x (Some (record { at = now; octets = octets }))) (sym m.2)
    (record { pause = i.pause; holds = (span_is setup p now m.1 i.pause, λ h. pause_is setup p now m.1 i.pause (m.3 h)) })

apart_now : (setup : Setup) (p q : PaceValue) (now : ℕ) (last : Option LastGiven) (o : Option (List ℕ)) (datagram : List ℕ) → Moves o p now q → IsPaced setup p last → o ≡ Some datagram → IsApart setup last now
apart_now setup p q now last None datagram m i e = cc
apart_now setup p q now last (Some d) datagram m i e = apart setup p.last last now i.holds m.0

-- THE CALLING LEG
either_pace : (b : Bool) (p : PaceValue) (x y : AnswererCore) → x.pace ≡ p → y.pace ≡ p → (if b then x else y).pace ≡ p
either_pace true p x y i j = i
either_pace false p x y i j = j

timed_in_pace : (state : State) (a : AnswererCore) (now : ℕ) → (timed_in state a now).pace ≡ a.pace
timed_in_pace Idle a now = refl
timed_in_pace Closing a now = refl
timed_in_pace Identify a now = either_pace (is_due a.timers.t1 now) a.pace _ _ refl (either_pace (is_due a.timers.t4 now) a.pace (identifies_again a) a refl refl)
timed_in_pace Listen a now = either_pace (is_due a.timers.t2 now) a.pace (says_goodbye a) a refl refl
timed_in_pace (Train d) a now = either_pace (is_due a.timers.t2 now) a.pace (says_goodbye a) a refl refl
timed_in_pace (Page d) a now = either_pace (is_due a.timers.t2 now) a.pace (says_goodbye a) a refl refl
timed_in_pace Again a now = either_pace (is_due a.timers.t2 now) a.pace (identifies_anew a now) a refl refl

timed_pace : (a : AnswererCore) (now : ℕ) → (answer.timed a now).pace ≡ a.pace
timed_pace a now = either_pace (is_waiting a.waiting) a.pace a (timed_in a.state a now) refl (timed_in_pace a.state a now)

-- a packet is given, where the pace allows, or none is
abbrev WaitingMoves : (given : Option WaitingPacket) → PaceValue → ℕ → PaceValue → Type 0
WaitingMoves None p now q = q ≡ p
WaitingMoves (Some w) p now q = (pace_allows p.last now ≡ true) × (q ≡ pace_after (is_preamble w.packet) p now)

abbrev TickMoves : PaceValue → ℕ → answer.TickResult → Type 0
TickMoves p now t = WaitingMoves t.given p now t.core.pace

first_moves : (a : AnswererCore) (now : ℕ) (ws : List WaitingPacket) → pace_allows a.pace.last now ≡ true → TickMoves a.pace now (answer.given_first a now ws)
first_moves a now [] e = refl
first_moves a now (w ∷ []) e = (e, refl)
first_moves a now (w ∷ v ∷ ws) e = (e, refl)

paced_moves : (a : AnswererCore) (now : ℕ) (b : Bool) → pace_allows a.pace.last now ≡ b → TickMoves a.pace now (if◌then◌else◌ {A = answer.TickResult} b (answer.given_first a now a.waiting) (record { core = a; given = None; ended = false }))
paced_moves a now true e = first_moves a now a.waiting e
paced_moves a now false e = refl

answers_move : (l : CallingLeg) (now : ℕ) → TickMoves (calling_legs.core_of l).pace now (answers l now)
answers_move l now =
    let a : AnswererCore = calling_legs.core_of l in
    let b : AnswererCore = answer.timed a now in
    subst (λ (p : PaceValue). TickMoves p now (answers l now)) (timed_pace a now) (paced_moves b now (pace_allows b.pace.last now) refl)

waiting_told : (setup : Setup) (given : List (List ℕ)) (o : Option WaitingPacket) (p q : PaceValue) (now : ℕ) → WaitingMoves o p now q → Moves (calling_legs.told_by setup given o) p now q
waiting_told setup given None p q now m = m
waiting_told setup given (Some w) p q now m = (m.0, is_preamble w.packet, m.1, preamble_answered setup given w.packet)

abbrev pace_on : Setup → Option CallingLeg → PaceValue
pace_on setup None = new_pace setup.pause
pace_on setup (Some l) = (calling_legs.core_of l).pace

-- what a tick tells on the leg
told_moves : (setup : Setup) (o : Option CallingLeg) (now at : ℕ) (given : Given) → Moves (told_calling setup o now) (pace_on setup o) now (pace_on setup (calling_after setup o now (Tick at given)))
told_moves setup None now at given = refl
told_moves setup (Some l) now at given =
    waiting_told setup l.given (answers l now).given (calling_legs.core_of l).pace (answers l now).core.pace now (answers_move l now)

comes_pace : (a : AnswererCore) (ps : List Piece) (now : ℕ) (read : Reading) (events : List answer.CallEvent) → (answer.after_events a (comes_all ps now read events)).pace ≡ (answer.after_events a events).pace
comes_pace a [] now read events = refl
comes_pace a (p ∷ ps) now read events = comes_pace a ps now read (answer.Comes p now read ∷ events)

with_pace : (l : CallingLeg) (now : ℕ) (read : Reading) (r : Result DatagramValue UdptlFault) → (calling_legs.core_of (calling_legs.leg_with l now read r)).pace ≡ (calling_legs.core_of l).pace
with_pace l now read (Ok d) = comes_pace (rung l.before l.begun) (new_pieces l.arrived d) now read l.events
with_pace l now read (Err f) = refl

heard_pace : (setup : Setup) (o : Option CallingLeg) (now : ℕ) (octets : List ℕ) (at : ℕ) (decided : Bool) (read : Reading) → pace_on setup (calling_after setup o now (FromCalling octets at decided read)) ≡ pace_on setup o
heard_pace setup None now octets at decided read = refl
heard_pace setup (Some l) now octets at decided read = by (is_idle (calling_legs.core_of l).state)
  where
    by : (b : Bool) → pace_on setup (if◌then◌else◌ {A = Option CallingLeg} b (Some l) (Some (calling_legs.leg_with l now read (datagram_of octets)))) ≡ (calling_legs.core_of l).pace
    by true = refl
    by false = with_pace l now read (datagram_of octets)

rung_pace : (setup : Setup) (o : Option CallingLeg) (now at number : ℕ) → pace_on setup (calling_after setup o now (Ring at number)) ≡ pace_on setup o
rung_pace setup None now at number = refl
rung_pace setup (Some l) now at number = refl

placed_pace : (setup : Setup) (o : Option CallingLeg) (now at : ℕ) (connected : Bool) → pace_on setup (calling_after setup o now (Placed at connected)) ≡ pace_on setup o
placed_pace setup None now at connected = refl
placed_pace setup (Some l) now at connected = refl

other_pace : (setup : Setup) (o : Option CallingLeg) (now : ℕ) (octets : List ℕ) (at : ℕ) (decided : Bool) → pace_on setup (calling_after setup o now (FromCalled octets at decided)) ≡ pace_on setup o
other_pace setup None now octets at decided = refl
other_pace setup (Some l) now octets at decided = refl

abbrev CallingPaced : Setup → List Event → Type 0
CallingPaced setup trace = IsPaced setup (pace_on setup (calling_leg setup trace)) (last_given (λ g. g.on_calling) trace)

calling_moves : (setup : Setup) (writes : Writing) (earlier : List Event) (at : ℕ) (given : Given) → IsTrace setup writes (Tick at given ∷ earlier) →
    Moves given.on_calling (pace_on setup (calling_leg setup earlier)) (max at (clock earlier)) (pace_on setup (calling_leg setup (Tick at given ∷ earlier)))
calling_moves setup writes earlier at given t =
    let now : ℕ = max at (clock earlier) in
    subst (λ (o : Option (List ℕ)). Moves o (pace_on setup (calling_leg setup earlier)) now (pace_on setup (calling_leg setup (Tick at given ∷ earlier)))) (sym (ap (λ (g : Given). g.on_calling) t.0))
    (told_moves setup (calling_leg setup earlier) now at given)

calling_paced : (setup : Setup) (writes : Writing) (trace : List Event) → IsTrace setup writes trace → CallingPaced setup trace
calling_paced setup writes [] t = record { pause = refl; holds = tt }
calling_paced setup writes (Ring at n ∷ earlier) t =
    subst (λ (p : PaceValue). IsPaced setup p (last_given (λ g. g.on_calling) earlier)) (sym (rung_pace setup (calling_leg setup earlier) (clock (Ring at n ∷ earlier)) at n)) (calling_paced setup writes earlier t.1)
calling_paced setup writes (FromCalling octets at decided read ∷ earlier) t =
    subst (λ (p : PaceValue). IsPaced setup p (last_given (λ g. g.on_calling) earlier)) (sym (heard_pace setup (calling_leg setup earlier) (clock (FromCalling octets at decided read ∷ earlier)) octets at decided read)) (calling_paced setup writes earlier t.1)
calling_paced setup writes (FromCalled octets at decided ∷ earlier) t =
    subst (λ (p : PaceValue). IsPaced setup p (last_given (λ g. g.on_calling) earlier)) (sym (other_pace setup (calling_leg setup earlier) (clock (FromCalled octets at decided ∷ earlier)) octets at decided)) (calling_paced setup writes earlier t.1)
calling_paced setup writes (Placed at connected ∷ earlier) t =
    subst (λ (p : PaceValue). IsPaced setup p (last_given (λ g. g.on_calling) earlier)) (sym (placed_pace setup (calling_leg setup earlier) (clock (Placed at connected ∷ earlier)) at connected)) (calling_paced setup writes earlier t.1)
calling_paced setup writes (Tick at given ∷ earlier) t =
    paced_on setup (pace_on setup (calling_leg setup earlier)) (pace_on setup (calling_leg setup (Tick at given ∷ earlier))) (max at (clock earlier)) (last_given (λ g. g.on_calling) earlier) given.on_calling
    (calling_moves setup writes earlier at given t) (calling_paced setup writes earlier t.1)

-- THE CALLED LEG
moved_pace : (a : CallerCore) (m : Move) → (moved a m).pace ≡ a.pace
moved_pace a Stays = refl
moved_pace a (Trains dis dcs c) = refl
moved_pace a (Sends dis dcs c) = refl
moved_pace a (AsksAgain c) = refl
moved_pace a (Turns format t1 c) = refl
moved_pace a (Closes outcome c) = refl
moved_pace a HangsUp = refl

abbrev PacketMoves : (given : Option Packet) → PaceValue → ℕ → PaceValue → Type 0
PacketMoves None p now q = q ≡ p
PacketMoves (Some packet) p now q = (pace_allows p.last now ≡ true) × (q ≡ pace_after (signals_preamble packet) p now)

abbrev CallMoves : PaceValue → ℕ → call.TickResult → Type 0
CallMoves p now t = PacketMoves t.given p now t.core.pace

giving_pace : (a : CallerCore) (now : ℕ) (packet : Packet) (due : List Due) → (after_giving a now packet due).pace ≡ pace_after (signals_preamble packet) a.pace now
giving_pace a now packet [] = refl
giving_pace a now packet (d ∷ due) = refl

call_first : (writes : Writing) (job : JobValue) (a : CallerCore) (now : ℕ) (due : List Due) → pace_allows a.pace.last now ≡ true → CallMoves a.pace now (call.given_first writes job a now due)
call_first writes job a now [] e = refl
call_first writes job a now (d ∷ due) e =
    let t : TakenPart = taken writes job d due in (e, giving_pace a now t.packet t.rest)

call_paced : (writes : Writing) (job : JobValue) (a : CallerCore) (now : ℕ) (b : Bool) → pace_allows a.pace.last now ≡ b →
    CallMoves a.pace now (if◌then◌else◌ {A = call.TickResult} b (call.given_first writes job a now a.waiting) (record { core = a; given = None }))
call_paced writes job a now true e = call_first writes job a now a.waiting e
call_paced writes job a now false e = refl

calls_move : (writes : Writing) (l : CalledLeg) (now : ℕ) → CallMoves (called_legs.core_of writes l).pace now (calls writes l now)
calls_move writes l now =
    let a : CallerCore = called_legs.core_of writes l in
    let b : CallerCore = call.timed a now in
    subst (λ (p : PaceValue). CallMoves p now (calls writes l now)) (moved_pace a (if waits a.waiting then Stays else on_timers (is_due a.t1 now) (is_due a.t4 now) a.state a.counts)) (call_paced writes l.job b now (pace_allows b.pace.last now) refl)

packet_told : (setup : Setup) (given : List (List ℕ)) (o : Option Packet) (p q : PaceValue) (now : ℕ) → PacketMoves o p now q → Moves (called_legs.told_by setup given o) p now q
packet_told setup given None p q now m = m
packet_told setup given (Some packet) p q now m = (m.0, signals_preamble packet, m.1, preamble_called setup given packet)

abbrev pace_left : Setup → Writing → Option CalledLeg → PaceValue
pace_left setup writes leg = (core_left setup writes leg).pace

called_moves_by : (setup : Setup) (writes : Writing) (leg : Option CalledLeg) (now : ℕ) → Moves (told_called setup writes leg now) (pace_left setup writes leg) now (pace_left setup writes (option_map (leg_ticked writes now) leg))
called_moves_by setup writes None now = refl
called_moves_by setup writes (Some l) now = by l.entered
  where
    by : (b : Bool) → Moves (if◌then◌else◌ {A = Option (List ℕ)} b None (called_legs.told_by setup l.given (calls writes l now).given)) (called_legs.core_of writes l).pace now
        (called_legs.core_of writes (if◌then◌else◌ {A = CalledLeg} b l (with_tick (calls writes l now) now l))).pace
    by true = refl
    by false = packet_told setup l.given (calls writes l now).given (called_legs.core_of writes l).pace (calls writes l now).core.pace now (calls_move writes l now)

begun_pace : (connected : Bool) (setup : Setup) (writes : Writing) (o : Option JobValue) (now : ℕ) (leg : Option CalledLeg) → pace_left setup writes (leg_of connected o (core_left setup writes leg) now leg) ≡ pace_left setup writes leg
begun_pace connected setup writes None now leg = refl
begun_pace true setup writes (Some job) now leg = refl
begun_pace false setup writes (Some job) now leg = refl

served_pace : (setup : Setup) (writes : Writing) (now : ℕ) (s : BothLegs) → pace_left setup writes (sends_if setup writes now s).leg ≡ pace_left setup writes s.leg
served_pace setup writes now s = by (begins_next setup s.leg)
  where
    by : (b : Bool) → pace_left setup writes (if◌then◌else◌ {A = BothLegs} b (sends true setup writes now s) s).leg ≡ pace_left setup writes s.leg
    by true = begun_pace true setup writes (book_of (sends true setup writes now s)).sending now s.leg
    by false = refl

called_moves : (setup : Setup) (writes : Writing) (earlier : List Event) (at : ℕ) (given : Given) → IsTrace setup writes (Tick at given ∷ earlier) →
    Moves given.on_called (pace_left setup writes (both_legs setup writes earlier).leg) (max at (clock earlier)) (pace_left setup writes (both_legs setup writes (Tick at given ∷ earlier)).leg)
called_moves setup writes earlier at given t =
    let now : ℕ = max at (clock earlier) in
    let s : BothLegs = both_legs setup writes earlier in
    let z : BothLegs = in_tick setup writes earlier at in
    let after : PaceValue = pace_left setup writes (both_legs setup writes (Tick at given ∷ earlier)).leg in
    subst (λ (p : PaceValue). Moves given.on_called p now after) (served_pace setup writes now (record s { steps = heard_in_tick (calling_leg setup earlier) now s.steps }))
    (subst (λ (o : Option (List ℕ)). Moves o (pace_left setup writes z.leg) now after) (sym (ap (λ (g : Given). g.on_called) t.0)) (called_moves_by setup writes z.leg now))

comes_to_pace : (writes : Writing) (job : JobValue) (a : CallerCore) (ps : List Piece) (now : ℕ) (events : List call.CallEvent) → (call.after_events writes job a (comes_to ps now events)).pace ≡ (call.after_events writes job a events).pace
comes_to_pace writes job a [] now events = refl
comes_to_pace writes job a (p ∷ ps) now events =
    let c : CallerCore = call.after_events writes job a events in
    comes_to_pace writes job a ps now (call.Comes p now ∷ events) ∙ moved_pace c (call.heard c p now)

with_datagram_pace : (writes : Writing) (l : CalledLeg) (now : ℕ) (r : Result DatagramValue UdptlFault) → (called_legs.core_of writes (called_legs.leg_with r now l)).pace ≡ (called_legs.core_of writes l).pace
with_datagram_pace writes l now (Ok d) = comes_to_pace writes l.job (begun_core l) (new_pieces l.arrived d) now l.events
with_datagram_pace writes l now (Err f) = refl

hears_pace : (setup : Setup) (writes : Writing) (octets : List ℕ) (now : ℕ) (leg : Option CalledLeg) → pace_left setup writes (option_map (hears writes octets now) leg) ≡ pace_left setup writes leg
hears_pace setup writes octets now None = refl
hears_pace setup writes octets now (Some l) = by (is_over (called_legs.core_of writes l).state)
  where
    by : (b : Bool) → (called_legs.core_of writes (if◌then◌else◌ {A = CalledLeg} b l (called_legs.leg_with (datagram_of octets) now l))).pace ≡ (called_legs.core_of writes l).pace
    by true = refl
    by false = with_datagram_pace writes l now (datagram_of octets)

abbrev CalledPaced : Setup → Writing → List Event → Type 0
CalledPaced setup writes trace = IsPaced setup (pace_left setup writes (both_legs setup writes trace).leg) (last_given (λ g. g.on_called) trace)

called_paced : (setup : Setup) (writes : Writing) (trace : List Event) → IsTrace setup writes trace → CalledPaced setup writes trace
called_paced setup writes [] t = record { pause = refl; holds = tt }
called_paced setup writes (Ring at n ∷ earlier) t = called_paced setup writes earlier t.1
called_paced setup writes (FromCalling octets at decided read ∷ earlier) t = called_paced setup writes earlier t.1
called_paced setup writes (FromCalled octets at decided ∷ earlier) t =
    subst (λ (p : PaceValue). IsPaced setup p (last_given (λ g. g.on_called) earlier)) (sym (hears_pace setup writes octets (clock (FromCalled octets at decided ∷ earlier)) (both_legs setup writes earlier).leg)) (called_paced setup writes earlier t.1)
called_paced setup writes (Placed at connected ∷ earlier) t =
    let s : BothLegs = both_legs setup writes earlier in
    subst (λ (p : PaceValue). IsPaced setup p (last_given (λ g. g.on_called) earlier))
    (sym (begun_pace connected setup writes (book_of (both_legs setup writes (Placed at connected ∷ earlier))).sending (clock (Placed at connected ∷ earlier)) s.leg)) (called_paced setup writes earlier t.1)
called_paced setup writes (Tick at given ∷ earlier) t =
    paced_on setup (pace_left setup writes (both_legs setup writes earlier).leg) (pace_left setup writes (both_legs setup writes (Tick at given ∷ earlier)).leg) (max at (clock earlier)) (last_given (λ g. g.on_called) earlier) given.on_called
    (called_moves setup writes earlier at given t) (called_paced setup writes earlier t.1)

pub are_apart : DatagramsAreApart
are_apart setup writes earlier at given datagram t =
    let now : ℕ = max at (clock earlier) in (
      λ e. apart_now setup (pace_on setup (calling_leg setup earlier)) (pace_on setup (calling_leg setup (Tick at given ∷ earlier))) now (last_given (λ g. g.on_calling) earlier) given.on_calling datagram
          (calling_moves setup writes earlier at given t) (calling_paced setup writes earlier t.1) e,
      λ e. apart_now setup (pace_left setup writes (both_legs setup writes earlier).leg) (pace_left setup writes (both_legs setup writes (Tick at given ∷ earlier)).leg) now (last_given (λ g. g.on_called) earlier) given.on_called datagram
          (called_moves setup writes earlier at given t) (called_paced setup writes earlier t.1) e,
    )
