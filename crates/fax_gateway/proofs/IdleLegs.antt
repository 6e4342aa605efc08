-- Where no call is on, a tick gives nothing on the calling leg; else it ends the call exactly where the answerer is idle
-- after it.
use Rattle.std.proofs.Common.{◌≡◌, ℕ, Bool, true, false, List, [], ◌∷◌, Option, Some, None, Result, Ok, Err, refl, ap, ◌∙◌, subst, if◌then◌else◌}
use Rattle.fax_timers.specs.Moments.{is_due}
use Rattle.fax_timers.specs.Paces.{pace_allows}
use Rattle.fax_udptl.specs.declared.fault.UdptlFault.{UdptlFault}
use Rattle.fax_udptl.specs.Datagrams.{DatagramValue, datagram_of}
use Rattle.fax_ifp.specs.Pieces.{Piece}
use Rattle.fax_answer.specs.declared.state.State.{State}
use Rattle.fax_answer.specs.declared.state.State.TheVariants.{Idle, Identify, Listen, Train, Page, Again, Closing}
use Rattle.fax_answer.specs.Table.{Reading}
use Rattle.fax_answer.specs.Replies.{WaitingPacket, is_waiting}
use Rattle.fax_answer.specs.Calls.{AnswererCore, rung, says_goodbye, identifies_again, identifies_anew, timed_in, timed, state_when_given, is_closing, TickResult, given_first, paced, ticked, CallEvent, Comes, after_events}
use Rattle.fax_answer.specs.Readings.{comes_all}
use Rattle.fax_answer.specs.Following.{Rests}
use Rattle.fax_answer.proofs.Rests.{rests_after, ticked_rests}
use Rattle.fax_gateway.specs.Setups.{Setup}
use Rattle.fax_gateway.specs.Events.{Event, Ring, FromCalling, FromCalled, Tick, Placed, clock}
use Rattle.fax_gateway.specs.Legs.{new_pieces}
use Rattle.fax_gateway.specs.CallingLegs.{CallingLeg, core_of, is_idle, leg_with, calling_after, calling_leg}

abbrev pub IfRests : Option CallingLeg → Type 0
IfRests None = Unit {0}
IfRests (Some l) = Rests (core_of l).state (core_of l).waiting

comes_rests : (a : AnswererCore) (ps : List Piece) (now : ℕ) (read : Reading) (events : List CallEvent) → Rests (after_events a events).state (after_events a events).waiting →
    Rests (after_events a (comes_all ps now read events)).state (after_events a (comes_all ps now read events)).waiting
comes_rests a [] now read events r = r
comes_rests a (p ∷ ps) now read events r =
    let c : AnswererCore = after_events a events in
    comes_rests a ps now read (Comes p now read ∷ events) (rests_after read c.state c.waiting c.history p r)

leg_rests : (l : CallingLeg) (now : ℕ) (read : Reading) (r : Result DatagramValue UdptlFault) → IfRests (Some l) → IfRests (Some (leg_with l now read r))
leg_rests l now read (Err f) n = n
leg_rests l now read (Ok d) n = comes_rests (rung l.before l.begun) (new_pieces l.arrived d) now read l.events n

step_rests : (setup : Setup) (o : Option CallingLeg) (now : ℕ) (e : Event) → IfRests o → IfRests (calling_after setup o now e)
step_rests setup None now (Ring at number) n = tt
step_rests setup None now (FromCalling octets at decided read) n = tt
step_rests setup None now (FromCalled octets at decided) n = tt
step_rests setup None now (Placed at connected) n = tt
step_rests setup None now (Tick at given) n = tt
step_rests setup (Some l) now (Ring at number) n = tt
step_rests setup (Some l) now (FromCalling octets at decided read) n = by (is_idle (core_of l).state)
  where
    by : (t : Bool) → IfRests (if t then Some l else Some (leg_with l now read (datagram_of octets)))
    by true = n
    by false = leg_rests l now read (datagram_of octets) n
step_rests setup (Some l) now (FromCalled octets at decided) n = n
step_rests setup (Some l) now (Placed at connected) n = n
step_rests setup (Some l) now (Tick at given) n = ticked_rests (core_of l) now n

pub rests_of : (setup : Setup) (trace : List Event) → IfRests (calling_leg setup trace)
rests_of setup [] = tt
rests_of setup (e ∷ earlier) = step_rests setup (calling_leg setup earlier) (clock (e ∷ earlier)) e (rests_of setup earlier)

pub idle_is : (s : State) → is_idle s ≡ true → s ≡ Idle
idle_is Idle h = refl
idle_is Identify h = cc
idle_is Listen h = cc
idle_is (Train d) h = cc
idle_is (Page d) h = cc
idle_is Again h = cc
idle_is Closing h = cc

pub idle_timed : (a : AnswererCore) (now : ℕ) → a.state ≡ Idle → timed a now ≡ a
idle_timed a now p = by (is_waiting a.waiting)
  where
    by : (t : Bool) → (if◌then◌else◌ {A = AnswererCore} t a (timed_in a.state a now)) ≡ a
    by true = refl
    by false = ap (λ (q : State). timed_in q a now) p

pub idle_tick : (a : AnswererCore) (now : ℕ) → is_idle a.state ≡ true → Rests a.state a.waiting → ticked a now ≡ record { core = a; given = None; ended = false }
idle_tick a now h r =
    let p : a.state ≡ Idle = idle_is a.state h in
    let none : a.waiting ≡ [] = subst (λ (q : State). Rests q a.waiting) p r in
    ap (λ (b : AnswererCore). paced b now) (idle_timed a now p) ∙ by (pace_allows a.pace.last now) (ap (given_first a now) none)
  where
    by : (t : Bool) → given_first a now a.waiting ≡ record { core = a; given = None; ended = false } →
        (if◌then◌else◌ {A = TickResult} t (given_first a now a.waiting) (record { core = a; given = None; ended = false })) ≡ record { core = a; given = None; ended = false }
    by true e = e
    by false e = refl

goodbye_if : (b : Bool) (x y : AnswererCore) → is_idle x.state ≡ false → is_idle y.state ≡ false → is_idle (if◌then◌else◌ {A = AnswererCore} b x y).state ≡ false
goodbye_if true x y p q = p
goodbye_if false x y p q = q

timed_in_busy : (state : State) (a : AnswererCore) (now : ℕ) → is_idle a.state ≡ false → is_idle (timed_in state a now).state ≡ false
timed_in_busy Idle a now h = h
timed_in_busy Closing a now h = h
timed_in_busy Identify a now h =
    goodbye_if (is_due a.timers.t1 now) (says_goodbye a) (if is_due a.timers.t4 now then identifies_again a else a) refl (goodbye_if (is_due a.timers.t4 now) (identifies_again a) a h h)
timed_in_busy Listen a now h = goodbye_if (is_due a.timers.t2 now) (says_goodbye a) a refl h
timed_in_busy (Train d) a now h = goodbye_if (is_due a.timers.t2 now) (says_goodbye a) a refl h
timed_in_busy (Page d) a now h = goodbye_if (is_due a.timers.t2 now) (says_goodbye a) a refl h
timed_in_busy Again a now h = goodbye_if (is_due a.timers.t2 now) (identifies_anew a now) a refl h

sent_end : (s : State) → is_idle s ≡ false → is_idle (state_when_given s) ≡ is_closing s
sent_end Idle h = cc
sent_end Identify h = refl
sent_end Listen h = refl
sent_end (Train d) h = refl
sent_end (Page d) h = refl
sent_end Again h = refl
sent_end Closing h = refl

first_end : (a : AnswererCore) (now : ℕ) (ws : List WaitingPacket) → is_idle a.state ≡ false → is_idle (given_first a now ws).core.state ≡ (given_first a now ws).ended
first_end a now [] h = h
first_end a now (w ∷ []) h = sent_end a.state h
first_end a now (w ∷ v ∷ ws) h = h

pub busy_tick : (a : AnswererCore) (now : ℕ) → is_idle a.state ≡ false → is_idle (ticked a now).core.state ≡ (ticked a now).ended
busy_tick a now h =
    let b : AnswererCore = timed a now in
    let n : is_idle b.state ≡ false = goodbye_if (is_waiting a.waiting) a (timed_in a.state a now) h (timed_in_busy a.state a now h) in
    by b n (pace_allows b.pace.last now)
  where
    by : (b : AnswererCore) → is_idle b.state ≡ false → (t : Bool) →
        is_idle (if◌then◌else◌ {A = TickResult} t (given_first b now b.waiting) (record { core = b; given = None; ended = false })).core.state
        ≡ (if◌then◌else◌ {A = TickResult} t (given_first b now b.waiting) (record { core = b; given = None; ended = false })).ended
    by b n true = first_end b now b.waiting n
    by b n false = n
