-- A call in which nothing more is heard is over in time, and little is given in it.
use Rattle.std.proofs.Common.{◌≡◌, ℕ, zero, suc, ◌+◌, ◌-◌, ◌*◌, ◌/◌, ◌^◌, ◌<◌, ◌≤◌, max, nat_le, Bool, true, false, not, ◌&&◌, List, [], ◌∷◌, ◌++◌, length, Option, Some, None, refl, sym, subst, arith, if◌then◌else◌, append-nil}
use Rattle.fax_frames.specs.declared.dcs.Dcs.{Dcs}
use Rattle.fax_frames.specs.declared.writing.Plain.TheVariants.{Rtn, Dcn}
use Rattle.fax_frames.specs.Capabilities.{our_dis}
use Rattle.fax_frames.specs.Rates.{bits_a_second}
use Rattle.fax_frames.specs.Written.{written_plain, written_dis}
use Rattle.fax_timers.specs.Moments.{is_due, moment_after}
use Rattle.fax_timers.specs.Paces.{PaceValue, pace_allows, allowed_from, packet_at, pace_after}
use Rattle.fax_timers.specs.Spans as spans
use Rattle.fax_timers.proofs.DueMoments.{allows_is}
use Rattle.fax_ifp.specs.Pieces as pieces
use Rattle.fax_ifp.specs.WrittenPackets.{written_after}
use Rattle.fax_answer.specs.declared.command.Command.TheVariants.{Eom, Mps, Eop}
use Rattle.fax_answer.specs.declared.state.State.{State}
use Rattle.fax_answer.specs.declared.state.State.TheVariants.{Idle, Identify, Listen, Train, Page, Again, Closing}
use Rattle.fax_answer.specs.declared.timers.Timers.{Timers}
use Rattle.fax_answer.specs.Orders.{order_of}
use Rattle.fax_answer.specs.History.{Entry, Decision, PassesOver, Trains, HangsUp, GivesCfr, GivesFtt, GivesMcf, GivesRtn, octets_since, missing_in_training}
use Rattle.fax_answer.specs.Table.{Reading, has_zero_run, on_order, state_after}
use Rattle.fax_answer.specs.Replies.{WaitingPacket, silent, preamble, is_preamble, frame_packet, mcf_packet, confirmed_if, plain_reply, reply_to, is_waiting}
use Rattle.fax_answer.specs.Calls.{AnswererCore, dis_reply, no_timers, rung, is_heard, timers_after, came, says_goodbye, identifies_again, identifies_anew, timed, timed_in, state_when_given, timers_when_given, TickResult, given_first, paced, ticked, CallEvent, Comes, Ticks, after_events}
use Rattle.fax_answer.specs.Silence.{time_of, last_tick, AllUntil, IsPassedOver, IsSilence, timers_time, silent_time, NoCallHangs, one_if_given, packets_given, LittleIsGiven}

gt_if : (m n : ℕ) → nat_le m n ≡ false → n < m
gt_if m n h = grind (arith)

le_if : (m n : ℕ) → nat_le m n ≡ true → m ≤ n
le_if m n h = grind (arith)

abbrev leg : State → List Entry → List WaitingPacket → Timers → PaceValue → AnswererCore
leg s h ws t p = record { state = s; history = h; waiting = ws; timers = t; pace = p }

abbrev if_let : Bool → AnswererCore → ℕ → TickResult
if_let c a now = if c then given_first a now a.waiting else record { core = a; given = None; ended = false }

-- ---- WHAT IS KNOWN of the state and its timers at a moment after all that came

abbrev SetBy : Option ℕ → ℕ → Type 0
SetBy None x = ⊥
SetBy (Some t) x = t ≤ x

abbrev SetIfQuiet : (m : ℕ) → List WaitingPacket → Option ℕ → Type 0
SetIfQuiet m [] t = SetBy t (m + spans.t2)
SetIfQuiet m (w ∷ ws) t = Unit {0}

abbrev Timely : (m : ℕ) → State → List WaitingPacket → Timers → Type 0
Timely m Idle [] t = Unit {0}
Timely m Idle (w ∷ ws) t = ⊥
Timely m Identify ws t = SetBy t.t1 (m + spans.t1) × SetBy t.t1 (2 ^ 64 - 1)
Timely m Listen ws t = SetIfQuiet m ws t.t2
Timely m (Train dcs) ws t = SetIfQuiet m ws t.t2
Timely m (Page dcs) ws t = SetIfQuiet m ws t.t2
Timely m Again ws t = SetIfQuiet m ws t.t2
Timely m Closing [] t = ⊥
Timely m Closing (w ∷ ws) t = Unit {0}

abbrev IsTimely : (m : ℕ) → AnswererCore → Type 0
IsTimely m a = Timely m a.state a.waiting a.timers

set_later : (x y : ℕ) (t : Option ℕ) → x ≤ y → SetBy t x → SetBy t y
set_later x y None h k = k
set_later x y (Some t) h k = omega arith

quiet_later : (m n : ℕ) (ws : List WaitingPacket) (t : Option ℕ) → m ≤ n → SetIfQuiet m ws t → SetIfQuiet n ws t
quiet_later m n [] t h k = set_later (m + spans.t2) (n + spans.t2) t (omega arith) k
quiet_later m n (w ∷ ws) t h k = tt

later : (m n : ℕ) (s : State) (ws : List WaitingPacket) (t : Timers) → m ≤ n → Timely m s ws t → Timely n s ws t
later m n Idle [] t h k = tt
later m n Idle (w ∷ ws) t h k = k
later m n Identify ws t h k = (set_later (m + spans.t1) (n + spans.t1) t.t1 (omega arith) k.0, k.1)
later m n Listen ws t h k = quiet_later m n ws t.t2 h k
later m n (Train dcs) ws t h k = quiet_later m n ws t.t2 h k
later m n (Page dcs) ws t h k = quiet_later m n ws t.t2 h k
later m n Again ws t h k = quiet_later m n ws t.t2 h k
later m n Closing [] t h k = k
later m n Closing (w ∷ ws) t h k = tt

-- a piece is passed over
with_t2 : (m now : ℕ) (s : State) (t : Timers) (c : Bool) → now ≤ m → Timely m s [] t
    → Timely m s [] (if c then record { t1 = t.t1; t2 = Some (moment_after now spans.t2); t4 = t.t4 } else t)
with_t2 m now s t false h k = k
with_t2 m now Idle t true h k = tt
with_t2 m now Identify t true h k = k
with_t2 m now Listen t true h k = omega arith
with_t2 m now (Train dcs) t true h k = omega arith
with_t2 m now (Page dcs) t true h k = omega arith
with_t2 m now Again t true h k = omega arith
with_t2 m now Closing t true h k = k

more_wait : (m : ℕ) (s : State) (w : WaitingPacket) (ws more : List WaitingPacket) (t : Timers) → Timely m s (w ∷ ws) t → Timely m s (w ∷ more) t
more_wait m Idle w ws more t k = k
more_wait m Identify w ws more t k = k
more_wait m Listen w ws more t k = tt
more_wait m (Train dcs) w ws more t k = tt
more_wait m (Page dcs) w ws more t k = tt
more_wait m Again w ws more t k = tt
more_wait m Closing w ws more t k = tt

abbrev DecidesTimely : (m : ℕ) → State → List Entry → List WaitingPacket → Timers → PaceValue → pieces.Piece → (now : ℕ) → Decision → Type 0
DecidesTimely m s h ws t p piece now d = Timely m (state_after s d) (ws ++ reply_to d) (timers_after (leg s h ws t p) piece d now)

passes_timely : (m now : ℕ) (s : State) (h : List Entry) (ws : List WaitingPacket) (t : Timers) (p : PaceValue) (piece : pieces.Piece) → now ≤ m → Timely m s ws t
    → DecidesTimely m s h ws t p piece now PassesOver
passes_timely m now s h [] t p piece l k = with_t2 m now s t (is_heard s piece) l k
passes_timely m now s h (w ∷ ws) t p piece l k = more_wait m s w ws (ws ++ []) t k

-- or something is decided at a frame
abbrev IsOn : State → Type 0
IsOn Idle = ⊥
IsOn s = Unit {0}

answers_timely : (m : ℕ) (s : State) (w : WaitingPacket) (ws : List WaitingPacket) (t : Timers) → IsOn s → Timely m s [] t → Timely m s (w ∷ ws) (record { t1 = t.t1; t2 = None; t4 = None })
answers_timely m Idle w ws t on k = absurd on
answers_timely m Identify w ws t on k = k
answers_timely m Listen w ws t on k = tt
answers_timely m (Train dcs) w ws t on k = tt
answers_timely m (Page dcs) w ws t on k = tt
answers_timely m Again w ws t on k = tt
answers_timely m Closing w ws t on k = tt

decided_timely : (m now : ℕ) (s : State) (h : List Entry) (t : Timers) (p : PaceValue) (octets : List ℕ) (d : Decision) → now ≤ m → IsOn s → Timely m s [] t
    → DecidesTimely m s h [] t p (pieces.Frame octets) now d
decided_timely m now s h t p octets PassesOver l on k = passes_timely m now s h [] t p (pieces.Frame octets) l k
decided_timely m now s h t p octets (Trains dcs) l on k = omega arith
decided_timely m now s h t p octets HangsUp l on k = tt
decided_timely m now s h t p octets (GivesCfr dcs) l on k = tt
decided_timely m now s h t p octets GivesFtt l on k = tt
decided_timely m now s h t p octets (GivesMcf Eom page) l on k = tt
decided_timely m now s h t p octets (GivesMcf Mps page) l on k = answers_timely m s (silent preamble) (record { packet = mcf_packet; confirmed = confirmed_if Mps page } ∷ []) t on k
decided_timely m now s h t p octets (GivesMcf Eop page) l on k = answers_timely m s (silent preamble) (record { packet = mcf_packet; confirmed = confirmed_if Eop page } ∷ []) t on k
decided_timely m now s h t p octets GivesRtn l on k = answers_timely m s (silent preamble) (record { packet = frame_packet (written_plain Rtn false); confirmed = None } ∷ []) t on k

frame_timely : (m now : ℕ) (read : Reading) (s : State) (h : List Entry) (t : Timers) (p : PaceValue) (octets : List ℕ) → now ≤ m → Timely m s [] t
    → DecidesTimely m s h [] t p (pieces.Frame octets) now (on_order read s h (order_of octets))
frame_timely m now read Idle h t p octets l k = tt
frame_timely m now read Identify h t p octets l k = decided_timely m now Identify h t p octets (on_order read Identify h (order_of octets)) l tt k
frame_timely m now read Listen h t p octets l k = decided_timely m now Listen h t p octets (on_order read Listen h (order_of octets)) l tt k
frame_timely m now read (Train dcs) h t p octets l k = decided_timely m now (Train dcs) h t p octets (on_order read (Train dcs) h (order_of octets)) l tt k
frame_timely m now read (Page dcs) h t p octets l k = decided_timely m now (Page dcs) h t p octets (on_order read (Page dcs) h (order_of octets)) l tt k
frame_timely m now read Again h t p octets l k = decided_timely m now Again h t p octets (on_order read Again h (order_of octets)) l tt k
frame_timely m now read Closing h t p octets l k = absurd k

-- a training check ends
checks_timely : (m now : ℕ) (c : Bool) (dcs : Dcs) (h : List Entry) (ws : List WaitingPacket) (t : Timers) (p : PaceValue) (whole : Bool)
    → DecidesTimely m (Train dcs) h ws t p (pieces.End whole) now (if c then GivesCfr dcs else GivesFtt)
checks_timely m now true dcs h [] t p whole = tt
checks_timely m now true dcs h (w ∷ ws) t p whole = tt
checks_timely m now false dcs h [] t p whole = tt
checks_timely m now false dcs h (w ∷ ws) t p whole = tt

came_timely : (m now : ℕ) (read : Reading) (s : State) (h : List Entry) (ws : List WaitingPacket) (t : Timers) (p : PaceValue) (piece : pieces.Piece) → now ≤ m → Timely m s ws t
    → IsTimely m (came read (leg s h ws t p) piece now)
came_timely m now read s h [] t p (pieces.Frame octets) l k = frame_timely m now read s h t p octets l k
came_timely m now read s h (w ∷ ws) t p (pieces.Frame octets) l k = passes_timely m now s h (w ∷ ws) t p (pieces.Frame octets) l k
came_timely m now read s h ws t p (pieces.Start n) l k = passes_timely m now s h ws t p (pieces.Start n) l k
came_timely m now read s h ws t p (pieces.Octets o) l k = passes_timely m now s h ws t p (pieces.Octets o) l k
came_timely m now read s h ws t p pieces.Gap l k = passes_timely m now s h ws t p pieces.Gap l k
came_timely m now read (Train dcs) h ws t p (pieces.End whole) l k =
    checks_timely m now (whole && (not (missing_in_training h) && has_zero_run (bits_a_second dcs.rate / 8) (octets_since h))) dcs h ws t p whole
came_timely m now read Idle h ws t p (pieces.End whole) l k = passes_timely m now Idle h ws t p (pieces.End whole) l k
came_timely m now read Identify h ws t p (pieces.End whole) l k = passes_timely m now Identify h ws t p (pieces.End whole) l k
came_timely m now read Listen h ws t p (pieces.End whole) l k = passes_timely m now Listen h ws t p (pieces.End whole) l k
came_timely m now read (Page dcs) h ws t p (pieces.End whole) l k = passes_timely m now (Page dcs) h ws t p (pieces.End whole) l k
came_timely m now read Again h ws t p (pieces.End whole) l k = passes_timely m now Again h ws t p (pieces.End whole) l k
came_timely m now read Closing h ws t p (pieces.End whole) l k = passes_timely m now Closing h ws t p (pieces.End whole) l k

-- a tick
if_timely : (m : ℕ) (c : Bool) (a b : AnswererCore) → IsTimely m a → IsTimely m b → IsTimely m (if c then a else b)
if_timely m true a b k l = k
if_timely m false a b k l = l

timed_timely : (m now : ℕ) (s : State) (h : List Entry) (ws : List WaitingPacket) (t : Timers) (p : PaceValue) → now ≤ m → Timely m s ws t → IsTimely m (timed (leg s h ws t p) now)
timed_timely m now s h (w ∷ ws) t p l k = k
timed_timely m now Idle h [] t p l k = tt
timed_timely m now Identify h [] t p l k =
    let a : AnswererCore = leg Identify h [] t p in
    if_timely m (is_due t.t1 now) (says_goodbye a) (if is_due t.t4 now then identifies_again a else a) tt
    (if_timely m (is_due t.t4 now) (identifies_again a) a k k)
timed_timely m now Listen h [] t p l k = let a : AnswererCore = leg Listen h [] t p in if_timely m (is_due t.t2 now) (says_goodbye a) a tt k
timed_timely m now (Train dcs) h [] t p l k = let a : AnswererCore = leg (Train dcs) h [] t p in if_timely m (is_due t.t2 now) (says_goodbye a) a tt k
timed_timely m now (Page dcs) h [] t p l k = let a : AnswererCore = leg (Page dcs) h [] t p in if_timely m (is_due t.t2 now) (says_goodbye a) a tt k
timed_timely m now Again h [] t p l k = let a : AnswererCore = leg Again h [] t p in if_timely m (is_due t.t2 now) (identifies_anew a now) a (omega arith, omega arith) k
timed_timely m now Closing h [] t p l k = absurd k

last_timely : (m now : ℕ) (s : State) (w : WaitingPacket) (t : Timers) → now ≤ m → Timely m s (w ∷ []) t → Timely m (state_when_given s) [] (timers_when_given s t now)
last_timely m now Idle w t l k = tt
last_timely m now Identify w t l k = k
last_timely m now Listen w t l k = omega arith
last_timely m now (Train dcs) w t l k = omega arith
last_timely m now (Page dcs) w t l k = omega arith
last_timely m now Again w t l k = omega arith
last_timely m now Closing w t l k = tt

given_timely : (m now : ℕ) (s : State) (h : List Entry) (ws : List WaitingPacket) (t : Timers) (p : PaceValue) → now ≤ m → Timely m s ws t → IsTimely m (given_first (leg s h ws t p) now ws).core
given_timely m now s h [] t p l k = k
given_timely m now s h (w ∷ []) t p l k = last_timely m now s w t l k
given_timely m now Idle h (w ∷ v ∷ ws) t p l k = k
given_timely m now Identify h (w ∷ v ∷ ws) t p l k = k
given_timely m now Listen h (w ∷ v ∷ ws) t p l k = tt
given_timely m now (Train dcs) h (w ∷ v ∷ ws) t p l k = tt
given_timely m now (Page dcs) h (w ∷ v ∷ ws) t p l k = tt
given_timely m now Again h (w ∷ v ∷ ws) t p l k = tt
given_timely m now Closing h (w ∷ v ∷ ws) t p l k = tt

paced_timely : (m now : ℕ) (a : AnswererCore) → now ≤ m → IsTimely m a → IsTimely m (paced a now).core
paced_timely m now a l k = by (pace_allows a.pace.last now)
  where
    by : (c : Bool) → IsTimely m (if_let c a now).core
    by true = given_timely m now a.state a.history a.waiting a.timers a.pace l k
    by false = k

ticked_timely : (m now : ℕ) (a : AnswererCore) → now ≤ m → IsTimely m a → IsTimely m (ticked a now).core
ticked_timely m now a l k = paced_timely m now (timed a now) l (timed_timely m now a.state a.history a.waiting a.timers a.pace l k)

until_timely : (core : AnswererCore) (start from : ℕ) (events : List CallEvent) → start ≤ from → AllUntil from events → IsTimely from (after_events (rung core start) events)
until_timely core start from [] l u = (omega arith, omega arith)
until_timely core start from (Comes piece now read ∷ before) l u =
    let a : AnswererCore = after_events (rung core start) before in
    came_timely from now read a.state a.history a.waiting a.timers a.pace piece u.0 (until_timely core start from before l u.1)
until_timely core start from (Ticks now ∷ before) l u = ticked_timely from now (after_events (rung core start) before) u.0 (until_timely core start from before l u.1)

-- ---- THE PACE

span_most : (preamble : Bool) (pause now : ℕ) → (packet_at preamble pause now).span ≤ (if preamble then spans.longest_pause else spans.pace)
span_most true pause now = omega arith
span_most false pause now = omega arith

span_long : (preamble : Bool) (pause now : ℕ) → (packet_at preamble pause now).span ≤ spans.longest_pause
span_long true pause now = omega arith
span_long false pause now = omega arith

abbrev pub IsPaced : (m : ℕ) → AnswererCore → Type 0
IsPaced m a = allowed_from a.pace.last ≤ m + spans.longest_pause

if_pace : (c : Bool) (a b : AnswererCore) (p : PaceValue) → a.pace ≡ p → b.pace ≡ p → (if◌then◌else◌ {A = AnswererCore} c a b).pace ≡ p
if_pace true a b p e f = e
if_pace false a b p e f = f

timed_in_pace : (s : State) (a : AnswererCore) (now : ℕ) → (timed_in s a now).pace ≡ a.pace
timed_in_pace Idle a now = refl
timed_in_pace Identify a now =
    if_pace (is_due a.timers.t1 now) (says_goodbye a) (if is_due a.timers.t4 now then identifies_again a else a) a.pace refl
    (if_pace (is_due a.timers.t4 now) (identifies_again a) a a.pace refl refl)
timed_in_pace Listen a now = if_pace (is_due a.timers.t2 now) (says_goodbye a) a a.pace refl refl
timed_in_pace (Train dcs) a now = if_pace (is_due a.timers.t2 now) (says_goodbye a) a a.pace refl refl
timed_in_pace (Page dcs) a now = if_pace (is_due a.timers.t2 now) (says_goodbye a) a a.pace refl refl
timed_in_pace Again a now = if_pace (is_due a.timers.t2 now) (identifies_anew a now) a a.pace refl refl
timed_in_pace Closing a now = refl

timed_pace : (a : AnswererCore) (now : ℕ) → (timed a now).pace ≡ a.pace
timed_pace a now = if_pace (is_waiting a.waiting) a (timed_in a.state a now) a.pace refl (timed_in_pace a.state a now)

given_paced : (m now : ℕ) (a : AnswererCore) (ws : List WaitingPacket) → now ≤ m → IsPaced m a → IsPaced m (given_first a now ws).core
given_paced m now a [] l k = k
given_paced m now a (w ∷ []) l k = let s : (packet_at (is_preamble w.packet) a.pace.pause now).span ≤ spans.longest_pause = span_long (is_preamble w.packet) a.pace.pause now in omega arith
given_paced m now a (w ∷ v ∷ ws) l k = let s : (packet_at (is_preamble w.packet) a.pace.pause now).span ≤ spans.longest_pause = span_long (is_preamble w.packet) a.pace.pause now in omega arith

paced_paced : (m now : ℕ) (a : AnswererCore) → now ≤ m → IsPaced m a → IsPaced m (paced a now).core
paced_paced m now a l k = by (pace_allows a.pace.last now)
  where
    by : (c : Bool) → IsPaced m (if_let c a now).core
    by true = given_paced m now a a.waiting l k
    by false = k

pub ticked_paced : (m now : ℕ) (a : AnswererCore) → now ≤ m → IsPaced m a → IsPaced m (ticked a now).core
ticked_paced m now a l k =
    paced_paced m now (timed a now) l (subst (λ (p : PaceValue). allowed_from p.last ≤ m + spans.longest_pause) (sym (timed_pace a now)) k)

pub until_paced : (core : AnswererCore) (start from : ℕ) (events : List CallEvent) → allowed_from core.pace.last ≤ start + spans.longest_pause → start ≤ from → AllUntil from events
    → IsPaced from (after_events (rung core start) events)
until_paced core start from [] p l u = omega arith
until_paced core start from (Comes piece now read ∷ before) p l u = until_paced core start from before p l u.1
until_paced core start from (Ticks now ∷ before) p l u = ticked_paced from now (after_events (rung core start) before) u.0 (until_paced core start from before p l u.1)

-- ---- THE MOMENT at which the call is over, at the latest

abbrev goodbye_time : (gap : ℕ) → ℕ
goodbye_time gap = 2040 + 2 * gap

abbrev dis_time : (gap : ℕ) → ℕ
dis_time gap = 2040 + 2 * gap

goodbye_is : (gap : ℕ) → time_of gap (plain_reply Dcn None) ≤ goodbye_time gap
unfolding written_after
goodbye_is gap = omega arith

dis_is : (gap : ℕ) → time_of gap dis_reply ≤ dis_time gap
unfolding written_after
dis_is gap = omega arith

-- from T1 on: the last DIS and the DCN are given
abbrev after_t1 : (gap : ℕ) → ℕ
after_t1 gap = spans.longest_pause + dis_time gap + goodbye_time gap

-- from T2 on, after an EOM
abbrev anew_time : (gap : ℕ) → ℕ
anew_time gap = gap + spans.t1 + after_t1 gap

abbrev OverBy : Option ℕ → (gap x : ℕ) → Type 0
OverBy None gap x = ⊥
OverBy (Some t) gap x = t + after_t1 gap ≤ x

abbrev t2_left : List WaitingPacket → Option ℕ → (m : ℕ) → ℕ
t2_left [] None m = 0
t2_left [] (Some t) m = t - m
t2_left (w ∷ ws) t m = spans.t2

-- what waits, with the pause that is left
abbrev given_time : (gap m : ℕ) → List WaitingPacket → PaceValue → ℕ
given_time gap m ws p = allowed_from p.last - m + time_of gap ws

abbrev Within : (gap x m : ℕ) → State → List WaitingPacket → Timers → PaceValue → Type 0
Within gap x m Idle ws t p = Unit {0}
Within gap x m Closing ws t p = given_time gap m ws p + m ≤ x
Within gap x m Identify ws t p = (given_time gap m ws p + goodbye_time gap + m ≤ x) × OverBy t.t1 gap x
Within gap x m Listen ws t p = given_time gap m ws p + t2_left ws t.t2 m + goodbye_time gap + m ≤ x
Within gap x m (Train dcs) ws t p = given_time gap m ws p + t2_left ws t.t2 m + goodbye_time gap + m ≤ x
Within gap x m (Page dcs) ws t p = given_time gap m ws p + t2_left ws t.t2 m + goodbye_time gap + m ≤ x
Within gap x m Again ws t p = given_time gap m ws p + t2_left ws t.t2 m + anew_time gap + m ≤ x

abbrev IsWithin : (gap x m : ℕ) → AnswererCore → Type 0
IsWithin gap x m a = Within gap x m a.state a.waiting a.timers a.pace

-- a packet waits, and the pace holds it back
held : (al r y m now x : ℕ) → m ≤ now → now < al → al - m + r + y + m ≤ x → al - now + r + y + now ≤ x
held al r y m now x h l k = omega arith

waits_on : (gap x m now : ℕ) (s : State) (w : WaitingPacket) (ws : List WaitingPacket) (t : Timers) (p : PaceValue) → m ≤ now → now < allowed_from p.last
    → Within gap x m s (w ∷ ws) t p → Within gap x now s (w ∷ ws) t p
waits_on gap x m now Idle w ws t p h l k = tt
waits_on gap x m now Closing w ws t p h l k = omega arith
waits_on gap x m now Identify w ws t p h l k = (held (allowed_from p.last) (time_of gap (w ∷ ws)) (goodbye_time gap) m now x h l k.0, k.1)
waits_on gap x m now Listen w ws t p h l k = omega arith
waits_on gap x m now (Train dcs) w ws t p h l k = omega arith
waits_on gap x m now (Page dcs) w ws t p h l k = omega arith
waits_on gap x m now Again w ws t p h l k = omega arith

-- or it is given: s the span after it, q what the pace asks for at most, r the rest, z what is after, at most y before
fits : (gap al m now s q r y z x : ℕ) → m ≤ now → now ≤ m + gap → s ≤ q → z ≤ y → al - m + (gap + q + r) + y + m ≤ x → now + s - now + r + z + now ≤ x
fits gap al m now s q r y z x h g l f k = omega arith

abbrev span_at : WaitingPacket → PaceValue → ℕ → ℕ
span_at w p now = (packet_at (is_preamble w.packet) p.pause now).span

abbrev span_by : WaitingPacket → ℕ
span_by w = if is_preamble w.packet then spans.longest_pause else spans.pace

-- the last one: Closing is over, and T2 is set in Listen, Train, Page and Again
last_given : (gap x m now : ℕ) (s : State) (w : WaitingPacket) (t : Timers) (p : PaceValue) → m ≤ now → now ≤ m + gap → Within gap x m s (w ∷ []) t p
    → Within gap x now (state_when_given s) [] (timers_when_given s t now) (pace_after (is_preamble w.packet) p now)
last_given gap x m now s w t p h g k = by s k
  where
    most : span_at w p now ≤ span_by w
    most = span_most (is_preamble w.packet) p.pause now

    alone : (y : ℕ) → given_time gap m (w ∷ []) p + y + m ≤ x → given_time gap now [] (pace_after (is_preamble w.packet) p now) + y + now ≤ x
    alone y l = fits gap (allowed_from p.last) m now (span_at w p now) (span_by w) 0 y y x h g most (omega arith) l

    with_t2 : (y : ℕ) → given_time gap m (w ∷ []) p + spans.t2 + y + m ≤ x
        → given_time gap now [] (pace_after (is_preamble w.packet) p now) + t2_left [] (Some (moment_after now spans.t2)) now + y + now ≤ x
    with_t2 y l = more (given_time gap now [] (pace_after (is_preamble w.packet) p now)) (moment_after now spans.t2 - now) y now (omega arith)
        (fits gap (allowed_from p.last) m now (span_at w p now) (span_by w) 0 (spans.t2 + y) (spans.t2 + y) x h g most (omega arith) (grouped (given_time gap m (w ∷ []) p) spans.t2 y m l))
      where
        grouped : (a b c d : ℕ) → a + b + c + d ≤ x → a + (b + c) + d ≤ x
        grouped a b c d l = omega arith

        more : (a b c d : ℕ) → b ≤ spans.t2 → a + (spans.t2 + c) + d ≤ x → a + b + c + d ≤ x
        more a b c d f l = omega arith

    by : (s : State) → Within gap x m s (w ∷ []) t p → Within gap x now (state_when_given s) [] (timers_when_given s t now) (pace_after (is_preamble w.packet) p now)
    by Idle k = tt
    by Closing k = tt
    by Identify k = (alone (goodbye_time gap) k.0, k.1)
    by Listen k = with_t2 (goodbye_time gap) k
    by (Train dcs) k = with_t2 (goodbye_time gap) k
    by (Page dcs) k = with_t2 (goodbye_time gap) k
    by Again k = with_t2 (anew_time gap) k

-- another one
one_given : (gap x m now : ℕ) (s : State) (w v : WaitingPacket) (ws : List WaitingPacket) (t : Timers) (p : PaceValue) → m ≤ now → now ≤ m + gap → Within gap x m s (w ∷ v ∷ ws) t p
    → Within gap x now s (v ∷ ws) t (pace_after (is_preamble w.packet) p now)
one_given gap x m now s w v ws t p h g k = by s k
  where
    r : ℕ
    r = time_of gap (v ∷ ws)

    most : span_at w p now ≤ span_by w
    most = span_most (is_preamble w.packet) p.pause now

    less : (y : ℕ) → given_time gap m (w ∷ v ∷ ws) p + y + m ≤ x → given_time gap now (v ∷ ws) (pace_after (is_preamble w.packet) p now) + y + now ≤ x
    less y l = fits gap (allowed_from p.last) m now (span_at w p now) (span_by w) r y y x h g most (omega arith) l

    with_t2 : (y : ℕ) → given_time gap m (w ∷ v ∷ ws) p + spans.t2 + y + m ≤ x → given_time gap now (v ∷ ws) (pace_after (is_preamble w.packet) p now) + spans.t2 + y + now ≤ x
    with_t2 y l = apart (given_time gap now (v ∷ ws) (pace_after (is_preamble w.packet) p now)) spans.t2 y now (less (spans.t2 + y) (grouped (given_time gap m (w ∷ v ∷ ws) p) spans.t2 y m l))
      where
        grouped : (a b c d : ℕ) → a + b + c + d ≤ x → a + (b + c) + d ≤ x
        grouped a b c d l = omega arith

        apart : (a b c d : ℕ) → a + (b + c) + d ≤ x → a + b + c + d ≤ x
        apart a b c d l = omega arith

    alone : given_time gap m (w ∷ v ∷ ws) p + m ≤ x → given_time gap now (v ∷ ws) (pace_after (is_preamble w.packet) p now) + now ≤ x
    alone l = without (given_time gap now (v ∷ ws) (pace_after (is_preamble w.packet) p now)) now (less 0 (with_none (given_time gap m (w ∷ v ∷ ws) p) m l))
      where
        with_none : (a d : ℕ) → a + d ≤ x → a + 0 + d ≤ x
        with_none a d l = omega arith

        without : (a d : ℕ) → a + 0 + d ≤ x → a + d ≤ x
        without a d l = omega arith

    by : (s : State) → Within gap x m s (w ∷ v ∷ ws) t p → Within gap x now s (v ∷ ws) t (pace_after (is_preamble w.packet) p now)
    by Idle k = tt
    by Closing k = alone k
    by Identify k = (less (goodbye_time gap) k.0, k.1)
    by Listen k = with_t2 (goodbye_time gap) k
    by (Train dcs) k = with_t2 (goodbye_time gap) k
    by (Page dcs) k = with_t2 (goodbye_time gap) k
    by Again k = with_t2 (anew_time gap) k

-- WHILE PACKETS WAIT
some_wait : (gap x m now : ℕ) (s : State) (h : List Entry) (w : WaitingPacket) (ws : List WaitingPacket) (t : Timers) (p : PaceValue) → m ≤ now → now ≤ m + gap → Within gap x m s (w ∷ ws) t p
    → IsWithin gap x now (paced (leg s h (w ∷ ws) t p) now).core
some_wait gap x m now s h w ws t p l g k = by (pace_allows p.last now) (sym (allows_is p.last now)) ws k
  where
    by : (c : Bool) → nat_le (allowed_from p.last) now ≡ c → (ws : List WaitingPacket) → Within gap x m s (w ∷ ws) t p → IsWithin gap x now (if_let c (leg s h (w ∷ ws) t p) now).core
    by true e [] k = last_given gap x m now s w t p l g k
    by true e (v ∷ ws) k = one_given gap x m now s w v ws t p l g k
    by false e ws k = waits_on gap x m now s w ws t p l (gt_if (allowed_from p.last) now e) k

-- WHERE NO PACKET WAITS, and no timer acts
none_waits : (gap x now : ℕ) (s : State) (h : List Entry) (t : Timers) (p : PaceValue) → Within gap x now s [] t p → IsWithin gap x now (paced (leg s h [] t p) now).core
none_waits gap x now s h t p k = by (pace_allows p.last now)
  where
    by : (c : Bool) → IsWithin gap x now (if_let c (leg s h [] t p) now).core
    by true = k
    by false = k

-- a reply waits, at the moment of the tick before
fewer : (al r q y m x : ℕ) → r ≤ q → al - m + q + y + m ≤ x → al - m + r + y + m ≤ x
fewer al r q y m x h l = omega arith

fewer_last : (al r q m x : ℕ) → r ≤ q → al - m + q + m ≤ x → al - m + r + m ≤ x
fewer_last al r q m x h l = omega arith

goodbye_within : (gap x m now : ℕ) (h : List Entry) (t : Timers) (p : PaceValue) (s : State) → m ≤ now → now ≤ m + gap → allowed_from p.last - m + goodbye_time gap + m ≤ x
    → IsWithin gap x now (paced (says_goodbye (leg s h [] t p)) now).core
goodbye_within gap x m now h t p s l g k =
    some_wait gap x m now Closing h (silent preamble) (record { packet = frame_packet (written_plain Dcn false); confirmed = None } ∷ []) no_timers p l g
    (fewer_last (allowed_from p.last) (time_of gap (plain_reply Dcn None)) (goodbye_time gap) m x (goodbye_is gap) k)

dis_within : (gap x m now : ℕ) (h : List Entry) (t : Timers) (p : PaceValue) → m ≤ now → now ≤ m + gap → allowed_from p.last - m + dis_time gap + goodbye_time gap + m ≤ x → OverBy t.t1 gap x
    → IsWithin gap x now (paced (leg Identify h dis_reply t p) now).core
dis_within gap x m now h t p l g k o =
    some_wait gap x m now Identify h (silent preamble) (record { packet = frame_packet (written_dis our_dis); confirmed = None } ∷ []) t p l g
    (fewer (allowed_from p.last) (time_of gap dis_reply) (dis_time gap) (goodbye_time gap) m x (dis_is gap) k, o)

-- A TICK
abbrev timers_of : (t1 t2 t4 : Option ℕ) → Timers
timers_of t1 t2 t4 = record { t1 = t1; t2 = t2; t4 = t4 }

-- y: what is after T2, at u
t2_due : (al u y m x : ℕ) → al - m + 0 + (u - m) + y + m ≤ x → al - m + y + m ≤ x
t2_due al u y m x k = omega arith

t2_rests : (al u y m now x : ℕ) → m ≤ now → now < u → al - m + 0 + (u - m) + y + m ≤ x → al - now + 0 + (u - now) + y + now ≤ x
t2_rests al u y m now x h l k = omega arith

listen_tick : (gap x m now : ℕ) (h : List Entry) (t1 t2 t4 : Option ℕ) (p : PaceValue) → m ≤ now → now ≤ m + gap → Timely m Listen [] (timers_of t1 t2 t4) → Within gap x m Listen [] (timers_of t1 t2 t4) p
    → IsWithin gap x now (ticked (leg Listen h [] (timers_of t1 t2 t4) p) now).core
listen_tick gap x m now h t1 None t4 p l g f k = absurd f
listen_tick gap x m now h t1 (Some u) t4 p l g f k = by (nat_le u now) refl
  where
    a : AnswererCore
    a = leg Listen h [] (timers_of t1 (Some u) t4) p

    by : (c : Bool) → nat_le u now ≡ c → IsWithin gap x now (paced (if c then says_goodbye (leg Listen h [] (timers_of t1 (Some u) t4) p) else leg Listen h [] (timers_of t1 (Some u) t4) p) now).core
    by true e = goodbye_within gap x m now h (timers_of t1 (Some u) t4) p Listen l g (t2_due (allowed_from p.last) u (goodbye_time gap) m x k)
    by false e = none_waits gap x now Listen h (timers_of t1 (Some u) t4) p (t2_rests (allowed_from p.last) u (goodbye_time gap) m now x l (gt_if u now e) k)

train_tick : (gap x m now : ℕ) (dcs : Dcs) (h : List Entry) (t1 t2 t4 : Option ℕ) (p : PaceValue) → m ≤ now → now ≤ m + gap → Timely m (Train dcs) [] (timers_of t1 t2 t4)
    → Within gap x m (Train dcs) [] (timers_of t1 t2 t4) p → IsWithin gap x now (ticked (leg (Train dcs) h [] (timers_of t1 t2 t4) p) now).core
train_tick gap x m now dcs h t1 None t4 p l g f k = absurd f
train_tick gap x m now dcs h t1 (Some u) t4 p l g f k = by (nat_le u now) refl
  where
    by : (c : Bool) → nat_le u now ≡ c → IsWithin gap x now (paced (if c then says_goodbye (leg (Train dcs) h [] (timers_of t1 (Some u) t4) p) else leg (Train dcs) h [] (timers_of t1 (Some u) t4) p) now).core
    by true e = goodbye_within gap x m now h (timers_of t1 (Some u) t4) p (Train dcs) l g (t2_due (allowed_from p.last) u (goodbye_time gap) m x k)
    by false e = none_waits gap x now (Train dcs) h (timers_of t1 (Some u) t4) p (t2_rests (allowed_from p.last) u (goodbye_time gap) m now x l (gt_if u now e) k)

page_tick : (gap x m now : ℕ) (dcs : Dcs) (h : List Entry) (t1 t2 t4 : Option ℕ) (p : PaceValue) → m ≤ now → now ≤ m + gap → Timely m (Page dcs) [] (timers_of t1 t2 t4)
    → Within gap x m (Page dcs) [] (timers_of t1 t2 t4) p → IsWithin gap x now (ticked (leg (Page dcs) h [] (timers_of t1 t2 t4) p) now).core
page_tick gap x m now dcs h t1 None t4 p l g f k = absurd f
page_tick gap x m now dcs h t1 (Some u) t4 p l g f k = by (nat_le u now) refl
  where
    by : (c : Bool) → nat_le u now ≡ c → IsWithin gap x now (paced (if c then says_goodbye (leg (Page dcs) h [] (timers_of t1 (Some u) t4) p) else leg (Page dcs) h [] (timers_of t1 (Some u) t4) p) now).core
    by true e = goodbye_within gap x m now h (timers_of t1 (Some u) t4) p (Page dcs) l g (t2_due (allowed_from p.last) u (goodbye_time gap) m x k)
    by false e = none_waits gap x now (Page dcs) h (timers_of t1 (Some u) t4) p (t2_rests (allowed_from p.last) u (goodbye_time gap) m now x l (gt_if u now e) k)

again_tick : (gap x m now : ℕ) (h : List Entry) (t1 t2 t4 : Option ℕ) (p : PaceValue) → m ≤ now → now ≤ m + gap → Timely m Again [] (timers_of t1 t2 t4) → Within gap x m Again [] (timers_of t1 t2 t4) p
    → IsWithin gap x now (ticked (leg Again h [] (timers_of t1 t2 t4) p) now).core
again_tick gap x m now h t1 None t4 p l g f k = absurd f
again_tick gap x m now h t1 (Some u) t4 p l g f k = by (nat_le u now) refl
  where
    by : (c : Bool) → nat_le u now ≡ c → IsWithin gap x now (paced (if c then identifies_anew (leg Again h [] (timers_of t1 (Some u) t4) p) now else leg Again h [] (timers_of t1 (Some u) t4) p) now).core
    by true e = dis_within gap x m now h (timers_of (Some (moment_after now spans.t1)) None None) p l g (omega arith) (omega arith)
    by false e = none_waits gap x now Again h (timers_of t1 (Some u) t4) p (t2_rests (allowed_from p.last) u (anew_time gap) m now x l (gt_if u now e) k)

identify_tick : (gap x m now : ℕ) (h : List Entry) (t1 t2 t4 : Option ℕ) (p : PaceValue) → m ≤ now → now ≤ m + gap → allowed_from p.last ≤ m + spans.longest_pause
    → Within gap x m Identify [] (timers_of t1 t2 t4) p → IsWithin gap x now (ticked (leg Identify h [] (timers_of t1 t2 t4) p) now).core
identify_tick gap x m now h None t2 t4 p l g f k = absurd k.1
identify_tick gap x m now h (Some u) t2 t4 p l g f k = by (nat_le u now) refl (is_due t4 now)
  where
    a : AnswererCore
    a = leg Identify h [] (timers_of (Some u) t2 t4) p

    first : allowed_from p.last - m + 0 + goodbye_time gap + m ≤ x
    first = k.0

    second : u + after_t1 gap ≤ x
    second = k.1

    by : (c : Bool) → nat_le u now ≡ c → (d : Bool)
        → IsWithin gap x now (paced (if c then says_goodbye (leg Identify h [] (timers_of (Some u) t2 t4) p) else if d then identifies_again (leg Identify h [] (timers_of (Some u) t2 t4) p) else leg Identify h [] (timers_of (Some u) t2 t4) p) now).core
    by true e d = goodbye_within gap x m now h (timers_of (Some u) t2 t4) p Identify l g (omega arith)
    by false e true = let o : now < u = gt_if u now e in dis_within gap x m now h (timers_of (Some u) None None) p l g (omega arith) second
    by false e false = let o : now < u = gt_if u now e in none_waits gap x now Identify h (timers_of (Some u) t2 t4) p (omega arith, second)

tick_within : (gap x m now : ℕ) (s : State) (h : List Entry) (ws : List WaitingPacket) (t1 t2 t4 : Option ℕ) (p : PaceValue) → m ≤ now → now ≤ m + gap → allowed_from p.last ≤ m + spans.longest_pause
    → Timely m s ws (timers_of t1 t2 t4) → Within gap x m s ws (timers_of t1 t2 t4) p → IsWithin gap x now (ticked (leg s h ws (timers_of t1 t2 t4) p) now).core
tick_within gap x m now s h (w ∷ ws) t1 t2 t4 p l g f y k = some_wait gap x m now s h w ws (timers_of t1 t2 t4) p l g k
tick_within gap x m now Idle h [] t1 t2 t4 p l g f y k = none_waits gap x now Idle h (timers_of t1 t2 t4) p tt
tick_within gap x m now Closing h [] t1 t2 t4 p l g f y k = absurd y
tick_within gap x m now Identify h [] t1 t2 t4 p l g f y k = identify_tick gap x m now h t1 t2 t4 p l g f k
tick_within gap x m now Listen h [] t1 t2 t4 p l g f y k = listen_tick gap x m now h t1 t2 t4 p l g y k
tick_within gap x m now (Train dcs) h [] t1 t2 t4 p l g f y k = train_tick gap x m now dcs h t1 t2 t4 p l g y k
tick_within gap x m now (Page dcs) h [] t1 t2 t4 p l g f y k = page_tick gap x m now dcs h t1 t2 t4 p l g y k
tick_within gap x m now Again h [] t1 t2 t4 p l g f y k = again_tick gap x m now h t1 t2 t4 p l g y k

-- ---- THE SILENCE

-- what is passed over changes nothing but the history
passed : (P : State → List WaitingPacket → Timers → PaceValue → Type 0) (read : Reading) (b : AnswererCore) (piece : pieces.Piece) (now : ℕ) → IsPassedOver read b piece → P b.state b.waiting b.timers b.pace →
    let c : AnswererCore = came read b piece now in
    P c.state c.waiting c.timers c.pace
passed P read b piece now s k =
    subst (λ (d : Decision). P (state_after b.state d) (b.waiting ++ reply_to d) (timers_after b piece d now) b.pace) (sym s.0)
    (subst (λ (ws : List WaitingPacket). P b.state ws (timers_after b piece PassesOver now) b.pace) (sym (append-nil b.waiting))
    (subst (λ (c : Bool). P b.state b.waiting (if c then record { t1 = b.timers.t1; t2 = Some (moment_after now spans.t2); t4 = b.timers.t4 } else b.timers) b.pace) (sym s.1) k))

abbrev Goes : (gap x m : ℕ) → State → List WaitingPacket → Timers → PaceValue → Type 0
Goes gap x m s ws t p = Timely m s ws t × (allowed_from p.last ≤ m + spans.longest_pause) × Within gap x m s ws t p

ticked_goes : (gap x m now : ℕ) (a : AnswererCore) → m ≤ now → now ≤ m + gap → Goes gap x m a.state a.waiting a.timers a.pace →
    let b : AnswererCore = (ticked a now).core in
    Goes gap x now b.state b.waiting b.timers b.pace
ticked_goes gap x m now a l g k = (
  ticked_timely now now a (omega arith) (later m now a.state a.waiting a.timers l k.0),
  ticked_paced now now a (omega arith) (further (allowed_from a.pace.last) k.1),
  tick_within gap x m now a.state a.history a.waiting a.timers.t1 a.timers.t2 a.timers.t4 a.pace l g k.1 k.0 k.2,
)
  where
    further : (al : ℕ) → al ≤ m + spans.longest_pause → al ≤ now + spans.longest_pause
    further al f = omega arith

silent_goes : (a : AnswererCore) (gap x from : ℕ) (silence : List CallEvent) → Goes gap x from a.state a.waiting a.timers a.pace → IsSilence a gap from silence →
    let z : AnswererCore = after_events a silence in
    Goes gap x (last_tick from silence) z.state z.waiting z.timers z.pace
silent_goes a gap x from [] k s = k
silent_goes a gap x from (Comes piece now read ∷ silence) k s =
    passed (Goes gap x (last_tick from silence)) read (after_events a silence) piece now s.0 (silent_goes a gap x from silence k s.1)
silent_goes a gap x from (Ticks now ∷ silence) k s = ticked_goes gap x (last_tick from silence) now (after_events a silence) s.0 s.1 (silent_goes a gap x from silence k s.2)

-- what is needed in all
t2_most : (from gap : ℕ) (ws : List WaitingPacket) (t : Option ℕ) → SetIfQuiet from ws t → t2_left ws t from ≤ spans.t2
t2_most from gap [] None k = absurd k
t2_most from gap [] (Some u) k = omega arith
t2_most from gap (w ∷ ws) t k = omega arith

begins_t2 : (from gap al r z y q : ℕ) → al ≤ from + spans.longest_pause → z ≤ spans.t2 → y ≤ q → al - from + r + z + y + from ≤ from + (r + (spans.t2 + spans.longest_pause + q))
begins_t2 from gap al r z y q f h l = omega arith

begins_within : (from gap : ℕ) (s : State) (ws : List WaitingPacket) (t : Timers) (p : PaceValue) → allowed_from p.last ≤ from + spans.longest_pause → Timely from s ws t
    → Within gap (from + (time_of gap ws + (timers_time s + 9000 + 5 * gap))) from s ws t p
begins_within from gap Idle ws t p f k = tt
begins_within from gap Closing ws t p f k = omega arith
begins_within from gap Identify ws t p f k = (omega arith, by t.t1 k.0)
  where
    by : (o : Option ℕ) → SetBy o (from + spans.t1) → OverBy o gap (from + (time_of gap ws + (timers_time Identify + 9000 + 5 * gap)))
    by None g = absurd g
    by (Some u) g = omega arith
begins_within from gap Listen ws t p f k = let l : t2_left ws t.t2 from ≤ spans.t2 = t2_most from gap ws t.t2 k in omega arith
begins_within from gap (Train dcs) ws t p f k = let l : t2_left ws t.t2 from ≤ spans.t2 = t2_most from gap ws t.t2 k in omega arith
begins_within from gap (Page dcs) ws t p f k = let l : t2_left ws t.t2 from ≤ spans.t2 = t2_most from gap ws t.t2 k in omega arith
begins_within from gap Again ws t p f k = let l : t2_left ws t.t2 from ≤ spans.t2 = t2_most from gap ws t.t2 k in omega arith

over_so : (gap x m : ℕ) (s : State) (ws : List WaitingPacket) (t : Timers) (p : PaceValue) → x < m → Within gap x m s ws t p → s ≡ Idle
over_so gap x m Idle ws t p l k = refl
over_so gap x m Closing ws t p l k = absurd (omega arith)
over_so gap x m Identify ws t p l k = absurd (omega (arith, k.0))
over_so gap x m Listen ws t p l k = absurd (omega arith)
over_so gap x m (Train dcs) ws t p l k = absurd (omega arith)
over_so gap x m (Page dcs) ws t p l k = absurd (omega arith)
over_so gap x m Again ws t p l k = absurd (omega arith)

pub no_call_hangs : NoCallHangs
no_call_hangs core start from gap events silence p s u silent long =
    over_so gap x (last_tick from silence) z.state z.waiting z.timers z.pace long
    (silent_goes a gap x from silence (timely, early, begins_within from gap a.state a.waiting a.timers a.pace early timely) silent).2
  where
    a : AnswererCore
    a = after_events (rung core start) events

    z : AnswererCore
    z = after_events a silence

    x : ℕ
    x = from + silent_time gap a

    timely : IsTimely from a
    timely = until_timely core start from events s u

    early : IsPaced from a
    early = until_paced core start from events p s u

-- ---- WHAT IS GIVEN

-- The DIS may be given n times more until T1, which is due at u.
abbrev Repeats : (n m : ℕ) → List WaitingPacket → (t1 t4 : Option ℕ) → Type 0
Repeats n m ws None t4 = ⊥
Repeats n m [] (Some u) None = u ≤ m + spans.t4 * n
Repeats n m [] (Some u) (Some v) = u ≤ max v m + spans.t4 * n
Repeats n m (w ∷ ws) (Some u) t4 = u ≤ m + spans.t4 + spans.t4 * n

-- at most k packets more are given
abbrev Few : (k m : ℕ) → State → List WaitingPacket → Timers → Type 0
Few k m Idle ws t = Unit {0}
Few k m Closing ws t = length ws ≤ k
Few k m Identify ws t = (n : ℕ) × (length ws + 2 * n + 2 ≤ k) × Repeats n m ws t.t1 t.t4
Few k m Listen ws t = length ws + 2 ≤ k
Few k m (Train dcs) ws t = length ws + 2 ≤ k
Few k m (Page dcs) ws t = length ws + 2 ≤ k
Few k m Again ws t = length ws + 26 ≤ k

repeats_later : (n m now : ℕ) (ws : List WaitingPacket) (t1 t4 : Option ℕ) → m ≤ now → Repeats n m ws t1 t4 → Repeats n now ws t1 t4
repeats_later n m now ws None t4 l k = absurd k
repeats_later n m now [] (Some u) None l k = omega arith
repeats_later n m now [] (Some u) (Some v) l k = omega arith
repeats_later n m now (w ∷ ws) (Some u) t4 l k = omega arith

few_later : (k m now : ℕ) (s : State) (ws : List WaitingPacket) (t : Timers) → m ≤ now → Few k m s ws t → Few k now s ws t
few_later k m now Idle ws t l f = tt
few_later k m now Closing ws t l f = f
few_later k m now Identify ws t l f = (f.0, f.1, repeats_later f.0 m now ws t.t1 t.t4 l f.2)
few_later k m now Listen ws t l f = f
few_later k m now (Train dcs) ws t l f = f
few_later k m now (Page dcs) ws t l f = f
few_later k m now Again ws t l f = f

-- what a tick gives, and leaves
abbrev Leaves : (k now : ℕ) → TickResult → Type 0
Leaves k now r = (n : ℕ) × (one_if_given r.given + n ≤ k) × Few n now r.core.state r.core.waiting r.core.timers

-- a packet is given
given_few : (k now : ℕ) (s : State) (h : List Entry) (w : WaitingPacket) (ws : List WaitingPacket) (t1 t2 t4 : Option ℕ) (p : PaceValue) → Timely now s (w ∷ ws) (timers_of t1 t2 t4)
    → Few k now s (w ∷ ws) (timers_of t1 t2 t4) → Leaves k now (given_first (leg s h (w ∷ ws) (timers_of t1 t2 t4) p) now (w ∷ ws))
given_few k now Idle h w ws t1 t2 t4 p y f = absurd y
given_few k now Closing h w [] t1 t2 t4 p y f = (0, omega arith, tt)
given_few k now Closing h w (v ∷ ws) t1 t2 t4 p y f = (k - 1, omega arith, omega arith)
given_few k now Identify h w [] t1 t2 t4 p y f = (k - 1, omega (arith, f.1), (f.0, omega (arith, f.1), by t1 y.1 f.2))
  where
    by : (o : Option ℕ) → SetBy o (2 ^ 64 - 1) → Repeats f.0 now (w ∷ []) o t4 → Repeats f.0 now [] o (Some (moment_after now spans.t4))
    by None g r = absurd g
    by (Some u) g r = omega arith
given_few k now Identify h w (v ∷ ws) t1 t2 t4 p y f = (k - 1, omega (arith, f.1), (f.0, omega (arith, f.1), by t1 f.2))
  where
    by : (o : Option ℕ) → Repeats f.0 now (w ∷ v ∷ ws) o t4 → Repeats f.0 now (v ∷ ws) o t4
    by None r = r
    by (Some u) r = r
given_few k now Listen h w [] t1 t2 t4 p y f = (k - 1, omega arith, omega arith)
given_few k now Listen h w (v ∷ ws) t1 t2 t4 p y f = (k - 1, omega arith, omega arith)
given_few k now (Train dcs) h w [] t1 t2 t4 p y f = (k - 1, omega arith, omega arith)
given_few k now (Train dcs) h w (v ∷ ws) t1 t2 t4 p y f = (k - 1, omega arith, omega arith)
given_few k now (Page dcs) h w [] t1 t2 t4 p y f = (k - 1, omega arith, omega arith)
given_few k now (Page dcs) h w (v ∷ ws) t1 t2 t4 p y f = (k - 1, omega arith, omega arith)
given_few k now Again h w [] t1 t2 t4 p y f = (k - 1, omega arith, omega arith)
given_few k now Again h w (v ∷ ws) t1 t2 t4 p y f = (k - 1, omega arith, omega arith)

some_few : (k now : ℕ) (s : State) (h : List Entry) (w : WaitingPacket) (ws : List WaitingPacket) (t1 t2 t4 : Option ℕ) (p : PaceValue) → Timely now s (w ∷ ws) (timers_of t1 t2 t4)
    → Few k now s (w ∷ ws) (timers_of t1 t2 t4) → Leaves k now (paced (leg s h (w ∷ ws) (timers_of t1 t2 t4) p) now)
some_few k now s h w ws t1 t2 t4 p y f = by (pace_allows p.last now)
  where
    by : (c : Bool) → Leaves k now (if_let c (leg s h (w ∷ ws) (timers_of t1 t2 t4) p) now)
    by true = given_few k now s h w ws t1 t2 t4 p y f
    by false = (k, omega arith, f)

none_few : (k now : ℕ) (s : State) (h : List Entry) (t : Timers) (p : PaceValue) → Few k now s [] t → Leaves k now (paced (leg s h [] t p) now)
none_few k now s h t p f = by (pace_allows p.last now)
  where
    by : (c : Bool) → Leaves k now (if_let c (leg s h [] t p) now)
    by true = (k, omega arith, f)
    by false = (k, omega arith, f)

goodbye_few : (k now : ℕ) (s : State) (h : List Entry) (t : Timers) (p : PaceValue) → 2 ≤ k → Leaves k now (paced (says_goodbye (leg s h [] t p)) now)
goodbye_few k now s h t p l = some_few k now Closing h (silent preamble) (record { packet = frame_packet (written_plain Dcn false); confirmed = None } ∷ []) None None None p tt l

dis_few : (k now : ℕ) (h : List Entry) (u n : ℕ) (p : PaceValue) → u ≤ now + spans.t1 → u ≤ 2 ^ 64 - 1 → 2 * n + 4 ≤ k → u ≤ now + spans.t4 + spans.t4 * n
    → Leaves k now (paced (leg Identify h dis_reply (timers_of (Some u) None None) p) now)
dis_few k now h u n p a b l r =
    some_few k now Identify h (silent preamble) (record { packet = frame_packet (written_dis our_dis); confirmed = None } ∷ []) (Some u) None None p (a, b) (n, omega arith, r)

goodbye_or : (k now : ℕ) (s : State) (h : List Entry) (t : Timers) (p : PaceValue) (c : Bool) → 2 ≤ k → Few k now s [] t → Leaves k now (paced (if c then says_goodbye (leg s h [] t p) else leg s h [] t p) now)
goodbye_or k now s h t p true l f = goodbye_few k now s h t p l
goodbye_or k now s h t p false l f = none_few k now s h t p f

-- the DIS is given again, while T1 is not due
repeat_few : (k now u v n : ℕ) (h : List Entry) (p : PaceValue) → now < u → v ≤ now → u ≤ now + spans.t1 → u ≤ 2 ^ 64 - 1 → 2 * n + 2 ≤ k → u ≤ max v now + spans.t4 * n
    → Leaves k now (paced (leg Identify h dis_reply (timers_of (Some u) None None) p) now)
repeat_few k now u v zero h p l e a b f r = absurd (omega arith)
repeat_few k now u v (suc n) h p l e a b f r = dis_few k now h u n p a b (omega arith) (omega arith)

identify_few : (k now : ℕ) (h : List Entry) (t1 t2 t4 : Option ℕ) (p : PaceValue) → Timely now Identify [] (timers_of t1 t2 t4) → Few k now Identify [] (timers_of t1 t2 t4)
    → Leaves k now (ticked (leg Identify h [] (timers_of t1 t2 t4) p) now)
identify_few k now h None t2 t4 p y f = absurd y.0
identify_few k now h (Some u) t2 None p y f = by (nat_le u now)
  where
    by : (c : Bool) → Leaves k now (paced (if c then says_goodbye (leg Identify h [] (timers_of (Some u) t2 None) p) else leg Identify h [] (timers_of (Some u) t2 None) p) now)
    by c = goodbye_or k now Identify h (timers_of (Some u) t2 None) p c (omega (arith, f.1)) f
identify_few k now h (Some u) t2 (Some v) p y f = by (nat_le u now) refl (nat_le v now) refl
  where
    by : (c : Bool) → nat_le u now ≡ c → (d : Bool) → nat_le v now ≡ d
        → Leaves k now (paced (if c then says_goodbye (leg Identify h [] (timers_of (Some u) t2 (Some v)) p) else if d then identifies_again (leg Identify h [] (timers_of (Some u) t2 (Some v)) p) else leg Identify h [] (timers_of (Some u) t2 (Some v)) p) now)
    by true e d q = goodbye_few k now Identify h (timers_of (Some u) t2 (Some v)) p (omega (arith, f.1))
    by false e true q = repeat_few k now u v f.0 h p (gt_if u now e) (le_if v now q) y.0 y.1 (omega (arith, f.1)) f.2
    by false e false q = none_few k now Identify h (timers_of (Some u) t2 (Some v)) p f

again_few : (k now : ℕ) (h : List Entry) (t1 t2 t4 : Option ℕ) (p : PaceValue) (c : Bool) → 26 ≤ k
    → Leaves k now (paced (if c then identifies_anew (leg Again h [] (timers_of t1 t2 t4) p) now else leg Again h [] (timers_of t1 t2 t4) p) now)
again_few k now h t1 t2 t4 p true l = dis_few k now h (moment_after now spans.t1) 11 p (omega arith) (omega arith) (omega arith) (omega arith)
again_few k now h t1 t2 t4 p false l = none_few k now Again h (timers_of t1 t2 t4) p l

tick_few : (k now : ℕ) (s : State) (h : List Entry) (ws : List WaitingPacket) (t1 t2 t4 : Option ℕ) (p : PaceValue) → Timely now s ws (timers_of t1 t2 t4) → Few k now s ws (timers_of t1 t2 t4)
    → Leaves k now (ticked (leg s h ws (timers_of t1 t2 t4) p) now)
tick_few k now s h (w ∷ ws) t1 t2 t4 p y f = some_few k now s h w ws t1 t2 t4 p y f
tick_few k now Idle h [] t1 t2 t4 p y f = none_few k now Idle h (timers_of t1 t2 t4) p tt
tick_few k now Closing h [] t1 t2 t4 p y f = absurd y
tick_few k now Identify h [] t1 t2 t4 p y f = identify_few k now h t1 t2 t4 p y f
tick_few k now Listen h [] t1 t2 t4 p y f = goodbye_or k now Listen h (timers_of t1 t2 t4) p (is_due t2 now) f f
tick_few k now (Train dcs) h [] t1 t2 t4 p y f = goodbye_or k now (Train dcs) h (timers_of t1 t2 t4) p (is_due t2 now) f f
tick_few k now (Page dcs) h [] t1 t2 t4 p y f = goodbye_or k now (Page dcs) h (timers_of t1 t2 t4) p (is_due t2 now) f f
tick_few k now Again h [] t1 t2 t4 p y f = again_few k now h t1 t2 t4 p (is_due t2 now) f

-- a silence: so many packets at most in all, some of them given
abbrev Counts : (all m : ℕ) → (given : ℕ) → State → List WaitingPacket → Timers → PaceValue → Type 0
Counts all m given s ws t p = Timely m s ws t × ((k : ℕ) × (given + k ≤ all) × Few k m s ws t)

ticked_counts : (all m now given : ℕ) (a : AnswererCore) → m ≤ now → Counts all m given a.state a.waiting a.timers a.pace →
    let r : TickResult = ticked a now in
    Counts all now (one_if_given r.given + given) r.core.state r.core.waiting r.core.timers r.core.pace
ticked_counts all m now given a l c =
    let y : IsTimely now a = later m now a.state a.waiting a.timers l c.0 in
    let k : ℕ = c.1.0 in
    let f : Few k now a.state a.waiting a.timers = few_later k m now a.state a.waiting a.timers l c.1.2 in
    let r : Leaves k now (ticked a now) = tick_few k now a.state a.history a.waiting a.timers.t1 a.timers.t2 a.timers.t4 a.pace y f in
    (ticked_timely now now a (omega arith) y, (r.0, total (one_if_given (ticked a now).given) r.0 k c.1.1 r.1, r.2))
  where
    total : (one n k : ℕ) → given + k ≤ all → one + n ≤ k → one + given + n ≤ all
    total one n k g h = omega arith

silent_counts : (a : AnswererCore) (gap all from : ℕ) (silence : List CallEvent) → Counts all from 0 a.state a.waiting a.timers a.pace → IsSilence a gap from silence →
    let z : AnswererCore = after_events a silence in
    Counts all (last_tick from silence) (packets_given a silence) z.state z.waiting z.timers z.pace
silent_counts a gap all from [] c s = c
silent_counts a gap all from (Comes piece now read ∷ silence) c s =
    passed (Counts all (last_tick from silence) (packets_given a silence)) read (after_events a silence) piece now s.0 (silent_counts a gap all from silence c s.1)
silent_counts a gap all from (Ticks now ∷ silence) c s =
    ticked_counts all (last_tick from silence) now (packets_given a silence) (after_events a silence) s.0 (silent_counts a gap all from silence c s.2)

begins_repeats : (from : ℕ) (ws : List WaitingPacket) (t1 t4 : Option ℕ) → SetBy t1 (from + spans.t1) → Repeats 12 from ws t1 t4
begins_repeats from ws None t4 k = absurd k
begins_repeats from [] (Some u) None k = omega arith
begins_repeats from [] (Some u) (Some v) k = omega arith
begins_repeats from (w ∷ ws) (Some u) t4 k = omega arith

begins_few : (from : ℕ) (s : State) (ws : List WaitingPacket) (t : Timers) → Timely from s ws t → Few (length ws + 26) from s ws t
begins_few from Idle ws t k = tt
begins_few from Closing ws t k = omega arith
begins_few from Identify ws t k = (12, omega arith, begins_repeats from ws t.t1 t.t4 k.0)
begins_few from Listen ws t k = omega arith
begins_few from (Train dcs) ws t k = omega arith
begins_few from (Page dcs) ws t k = omega arith
begins_few from Again ws t k = omega arith

pub little_is_given : LittleIsGiven
little_is_given core start from gap events silence s u silent = by (silent_counts a gap (length a.waiting + 26) from silence (timely, (length a.waiting + 26, omega arith, begins_few from a.state a.waiting a.timers timely)) silent).1
  where
    a : AnswererCore
    a = after_events (rung core start) events

    z : AnswererCore
    z = after_events a silence

    timely : IsTimely from a
    timely = until_timely core start from events s u

    by : (k : ℕ) × (packets_given a silence + k ≤ length a.waiting + 26) × Few k (last_tick from silence) z.state z.waiting z.timers → packets_given a silence ≤ length a.waiting + 26
    by c = less (packets_given a silence) c.0 (length a.waiting + 26) c.1
      where
        less : (x k y : ℕ) → x + k ≤ y → x ≤ y
        less x k y h = omega arith
