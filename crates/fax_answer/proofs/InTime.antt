-- T1, T2 and T4 are set by what was heard and given.
use Rattle.std.proofs.Common.{◌≡◌, ◌↔◌, ℕ, ◌/◌, Bool, true, false, not, ◌&&◌, List, [], ◌∷◌, ◌++◌, Option, Some, None, refl, sym, ◌∙◌, ap, subst, if◌then◌else◌}
use Rattle.fax_frames.specs.declared.dcs.Dcs.{Dcs}
use Rattle.fax_frames.specs.declared.writing.Plain.TheVariants.{Rtn}
use Rattle.fax_frames.specs.Rates.{bits_a_second}
use Rattle.fax_frames.specs.Written.{written_plain}
use Rattle.fax_timers.specs.Moments.{is_due, on_clock, earlier, moment_after}
use Rattle.fax_timers.specs.Paces.{PaceValue, pace_allows, allowed_from}
use Rattle.fax_timers.specs.Spans as spans
use Rattle.fax_ifp.specs.Pieces as pieces
use Rattle.fax_answer.specs.declared.command.Command.TheVariants.{Eom, Mps, Eop}
use Rattle.fax_answer.specs.declared.state.State.{State}
use Rattle.fax_answer.specs.declared.state.State.TheVariants.{Idle, Identify, Listen, Train, Page, Again, Closing}
use Rattle.fax_answer.specs.declared.timers.Timers.{Timers}
use Rattle.fax_answer.specs.Orders.{order_of}
use Rattle.fax_answer.specs.History.{Entry, Decision, PassesOver, Trains, HangsUp, GivesCfr, GivesFtt, GivesMcf, GivesRtn, octets_since, missing_in_training}
use Rattle.fax_answer.specs.Table.{Reading, has_zero_run, on_order, state_after}
use Rattle.fax_answer.specs.Replies.{WaitingPacket, silent, preamble, frame_packet, mcf_packet, confirmed_if, reply_to, is_waiting}
use Rattle.fax_answer.specs.Following.{gives_up}
use Rattle.fax_answer.specs.Calls.{AnswererCore, rung, timers_after, came, says_goodbye, identifies_again, identifies_anew, timed, timed_in, state_when_given, TickResult, given_first, paced, ticked, CallEvent, Comes, Ticks, after_events}
use Rattle.fax_answer.specs.Due.{timer_of, due_at}
use Rattle.fax_answer.specs.InTime.{since_by, identified_since, given_by, last_given, sounds, last_sound, timer_since, NoTimerIsEarly, gives_up_at, GivesUpInTime}
use Rattle.fax_answer.proofs.DueLemmas.{rests_before}

abbrev leg : State → List Entry → List WaitingPacket → Timers → PaceValue → AnswererCore
leg s h ws t p = record { state = s; history = h; waiting = ws; timers = t; pace = p }

-- ---- WHAT IS KNOWN, where the machine identifies itself from i on, gave a packet last at g, and heard or gave something last at x

abbrev KnowsT1 : List WaitingPacket → Timers → (i g : ℕ) → Type 0
KnowsT1 [] t i g = (t.t1 ≡ Some (moment_after i spans.t1)) × (t.t4 ≡ Some (moment_after g spans.t4))
KnowsT1 (w ∷ ws) t i g = t.t1 ≡ Some (moment_after i spans.t1)

abbrev KnowsT2 : List WaitingPacket → Timers → (x : ℕ) → Type 0
KnowsT2 [] t x = t.t2 ≡ Some (moment_after x spans.t2)
KnowsT2 (w ∷ ws) t x = Unit {0}

abbrev Knows : State → List WaitingPacket → Timers → (i g x : ℕ) → Type 0
Knows Idle ws t i g x = Unit {0}
Knows Closing ws t i g x = Unit {0}
Knows Identify ws t i g x = KnowsT1 ws t i g
Knows Listen ws t i g x = KnowsT2 ws t x
Knows (Train dcs) ws t i g x = KnowsT2 ws t x
Knows (Page dcs) ws t i g x = KnowsT2 ws t x
Knows Again ws t i g x = KnowsT2 ws t x

abbrev CoreKnows : AnswererCore → (i g x : ℕ) → Type 0
CoreKnows a i g x = Knows a.state a.waiting a.timers i g x

-- ---- A PIECE

abbrev heard_after : List WaitingPacket → pieces.Piece → (now x : ℕ) → ℕ
heard_after ws piece now x = if not (is_waiting ws) && sounds piece then now else x

-- it is passed over
waits_so : (s : State) (w : WaitingPacket) (ws more : List WaitingPacket) (t : Timers) (i g x y : ℕ) → Knows s (w ∷ ws) t i g x → Knows s (w ∷ more) t i g y
waits_so Idle w ws more t i g x y k = tt
waits_so Closing w ws more t i g x y k = tt
waits_so Identify w ws more t i g x y k = k
waits_so Listen w ws more t i g x y k = tt
waits_so (Train dcs) w ws more t i g x y k = tt
waits_so (Page dcs) w ws more t i g x y k = tt
waits_so Again w ws more t i g x y k = tt

passes : (s : State) (h : List Entry) (ws : List WaitingPacket) (t : Timers) (p : PaceValue) (piece : pieces.Piece) (now i g x : ℕ) → Knows s ws t i g x
    → Knows s (ws ++ []) (timers_after (leg s h ws t p) piece PassesOver now) i g (heard_after ws piece now x)
passes s h (w ∷ ws) t p piece now i g x k = waits_so s w ws (ws ++ []) t i g x x k
passes Idle h [] t p piece now i g x k = tt
passes Closing h [] t p piece now i g x k = tt
passes Identify h [] t p (pieces.Frame o) now i g x k = k
passes Identify h [] t p (pieces.Start n) now i g x k = k
passes Identify h [] t p (pieces.Octets o) now i g x k = k
passes Identify h [] t p (pieces.End n) now i g x k = k
passes Identify h [] t p pieces.Gap now i g x k = k
passes Listen h [] t p (pieces.Frame o) now i g x k = refl
passes Listen h [] t p (pieces.Start n) now i g x k = refl
passes Listen h [] t p (pieces.Octets o) now i g x k = refl
passes Listen h [] t p (pieces.End n) now i g x k = k
passes Listen h [] t p pieces.Gap now i g x k = k
passes (Train dcs) h [] t p (pieces.Frame o) now i g x k = refl
passes (Train dcs) h [] t p (pieces.Start n) now i g x k = refl
passes (Train dcs) h [] t p (pieces.Octets o) now i g x k = refl
passes (Train dcs) h [] t p (pieces.End n) now i g x k = k
passes (Train dcs) h [] t p pieces.Gap now i g x k = k
passes (Page dcs) h [] t p (pieces.Frame o) now i g x k = refl
passes (Page dcs) h [] t p (pieces.Start n) now i g x k = refl
passes (Page dcs) h [] t p (pieces.Octets o) now i g x k = refl
passes (Page dcs) h [] t p (pieces.End n) now i g x k = k
passes (Page dcs) h [] t p pieces.Gap now i g x k = k
passes Again h [] t p (pieces.Frame o) now i g x k = refl
passes Again h [] t p (pieces.Start n) now i g x k = refl
passes Again h [] t p (pieces.Octets o) now i g x k = refl
passes Again h [] t p (pieces.End n) now i g x k = k
passes Again h [] t p pieces.Gap now i g x k = k

-- or something is decided at a frame
abbrev Decided : State → List Entry → Timers → PaceValue → List ℕ → (now i g : ℕ) → Decision → Type 0
Decided s h t p octets now i g d = Knows (state_after s d) ([] ++ reply_to d) (timers_after (leg s h [] t p) (pieces.Frame octets) d now) i g now

answers : (s : State) (w : WaitingPacket) (ws : List WaitingPacket) (t : Timers) (now i g x : ℕ) → Knows s [] t i g x → Knows s (w ∷ ws) (record { t1 = t.t1; t2 = None; t4 = None }) i g now
answers Idle w ws t now i g x k = tt
answers Closing w ws t now i g x k = tt
answers Identify w ws t now i g x k = k.0
answers Listen w ws t now i g x k = tt
answers (Train dcs) w ws t now i g x k = tt
answers (Page dcs) w ws t now i g x k = tt
answers Again w ws t now i g x k = tt

decided_so : (s : State) (h : List Entry) (t : Timers) (p : PaceValue) (octets : List ℕ) (now i g x : ℕ) (d : Decision) → Knows s [] t i g x → Decided s h t p octets now i g d
decided_so s h t p octets now i g x PassesOver k = passes s h [] t p (pieces.Frame octets) now i g x k
decided_so s h t p octets now i g x (Trains dcs) k = refl
decided_so s h t p octets now i g x HangsUp k = tt
decided_so s h t p octets now i g x (GivesCfr dcs) k = tt
decided_so s h t p octets now i g x GivesFtt k = tt
decided_so s h t p octets now i g x (GivesMcf Eom page) k = tt
decided_so s h t p octets now i g x (GivesMcf Mps page) k = answers s (silent preamble) (record { packet = mcf_packet; confirmed = confirmed_if Mps page } ∷ []) t now i g x k
decided_so s h t p octets now i g x (GivesMcf Eop page) k = answers s (silent preamble) (record { packet = mcf_packet; confirmed = confirmed_if Eop page } ∷ []) t now i g x k
decided_so s h t p octets now i g x GivesRtn k = answers s (silent preamble) (record { packet = frame_packet (written_plain Rtn false); confirmed = None } ∷ []) t now i g x k

-- a training check ends
checks : (b : Bool) (dcs : Dcs) (h : List Entry) (ws : List WaitingPacket) (t : Timers) (p : PaceValue) (whole : Bool) (now i g x : ℕ) →
    let d : Decision = if b then GivesCfr dcs else GivesFtt in
    Knows (state_after (Train dcs) d) (ws ++ reply_to d) (timers_after (leg (Train dcs) h ws t p) (pieces.End whole) d now) i g x
checks true dcs h [] t p whole now i g x = tt
checks true dcs h (w ∷ ws) t p whole now i g x = tt
checks false dcs h [] t p whole now i g x = tt
checks false dcs h (w ∷ ws) t p whole now i g x = tt

came_so : (read : Reading) (s : State) (h : List Entry) (ws : List WaitingPacket) (t : Timers) (p : PaceValue) (piece : pieces.Piece) (now i g x : ℕ) → Knows s ws t i g x
    → CoreKnows (came read (leg s h ws t p) piece now) i g (heard_after ws piece now x)
came_so read s h [] t p (pieces.Frame octets) now i g x k = decided_so s h t p octets now i g x (on_order read s h (order_of octets)) k
came_so read s h (w ∷ ws) t p (pieces.Frame octets) now i g x k = passes s h (w ∷ ws) t p (pieces.Frame octets) now i g x k
came_so read s h ws t p (pieces.Start n) now i g x k = passes s h ws t p (pieces.Start n) now i g x k
came_so read s h ws t p (pieces.Octets o) now i g x k = passes s h ws t p (pieces.Octets o) now i g x k
came_so read s h ws t p pieces.Gap now i g x k = passes s h ws t p pieces.Gap now i g x k
came_so read (Train dcs) h ws t p (pieces.End whole) now i g x k =
    checks (whole && (not (missing_in_training h) && has_zero_run (bits_a_second dcs.rate / 8) (octets_since h))) dcs h ws t p whole now i g (heard_after ws (pieces.End whole) now x)
came_so read Idle h ws t p (pieces.End whole) now i g x k = passes Idle h ws t p (pieces.End whole) now i g x k
came_so read Closing h ws t p (pieces.End whole) now i g x k = passes Closing h ws t p (pieces.End whole) now i g x k
came_so read Identify h ws t p (pieces.End whole) now i g x k = passes Identify h ws t p (pieces.End whole) now i g x k
came_so read Listen h ws t p (pieces.End whole) now i g x k = passes Listen h ws t p (pieces.End whole) now i g x k
came_so read (Page dcs) h ws t p (pieces.End whole) now i g x k = passes (Page dcs) h ws t p (pieces.End whole) now i g x k
came_so read Again h ws t p (pieces.End whole) now i g x k = passes Again h ws t p (pieces.End whole) now i g x k

-- ---- A TICK

-- the state tells from when on the machine identifies itself
abbrev Turns : (old : State) → AnswererCore → (now i g x : ℕ) → Type 0
Turns old b now i g x = CoreKnows b (since_by old b.state now i) g x

if_turns : (old : State) (c : Bool) (a b : AnswererCore) (now i g x : ℕ) → Turns old a now i g x → Turns old b now i g x → Turns old (if c then a else b) now i g x
if_turns old true a b now i g x k l = k
if_turns old false a b now i g x k l = l

same_since : (s : State) (now i : ℕ) → since_by s s now i ≡ i
same_since Idle now i = refl
same_since Closing now i = refl
same_since Identify now i = refl
same_since Listen now i = refl
same_since (Train dcs) now i = refl
same_since (Page dcs) now i = refl
same_since Again now i = refl

stays_so : (s : State) (h : List Entry) (ws : List WaitingPacket) (t : Timers) (p : PaceValue) (now i g x : ℕ) → Knows s ws t i g x → Turns s (leg s h ws t p) now i g x
stays_so s h ws t p now i g x k = subst (λ (j : ℕ). Knows s ws t j g x) (sym (same_since s now i)) k

timed_so : (s : State) (h : List Entry) (ws : List WaitingPacket) (t : Timers) (p : PaceValue) (now i g x : ℕ) → Knows s ws t i g x → Turns s (timed (leg s h ws t p) now) now i g x
timed_so s h (w ∷ ws) t p now i g x k = stays_so s h (w ∷ ws) t p now i g x k
timed_so Idle h [] t p now i g x k = tt
timed_so Closing h [] t p now i g x k = tt
timed_so Identify h [] t p now i g x k =
    let a : AnswererCore = leg Identify h [] t p in
    if_turns Identify (is_due t.t1 now) (says_goodbye a) (if is_due t.t4 now then identifies_again a else a) now i g x tt
    (if_turns Identify (is_due t.t4 now) (identifies_again a) a now i g x k.0 k)
timed_so Listen h [] t p now i g x k = let a : AnswererCore = leg Listen h [] t p in if_turns Listen (is_due t.t2 now) (says_goodbye a) a now i g x tt k
timed_so (Train dcs) h [] t p now i g x k = let a : AnswererCore = leg (Train dcs) h [] t p in if_turns (Train dcs) (is_due t.t2 now) (says_goodbye a) a now i g x tt k
timed_so (Page dcs) h [] t p now i g x k = let a : AnswererCore = leg (Page dcs) h [] t p in if_turns (Page dcs) (is_due t.t2 now) (says_goodbye a) a now i g x tt k
timed_so Again h [] t p now i g x k = let a : AnswererCore = leg Again h [] t p in if_turns Again (is_due t.t2 now) (identifies_anew a now) a now i g x refl k

-- a packet is given
abbrev Gives : (old : State) → TickResult → (now i g x : ℕ) → Type 0
Gives old r now i g x = CoreKnows r.core (since_by old r.core.state now i) (given_by r.given now g) (given_by r.given now x)

one_so : (old s : State) (h : List Entry) (w : WaitingPacket) (t : Timers) (p : PaceValue) (now i g x : ℕ) → Turns old (leg s h (w ∷ []) t p) now i g x
    → Gives old (given_first (leg s h (w ∷ []) t p) now (w ∷ [])) now i g x
one_so old Idle h w t p now i g x k = tt
one_so old Closing h w t p now i g x k = tt
one_so old Identify h w t p now i g x k = (k, refl)
one_so old Listen h w t p now i g x k = refl
one_so old (Train dcs) h w t p now i g x k = refl
one_so old (Page dcs) h w t p now i g x k = refl
one_so old Again h w t p now i g x k = refl

given_so : (old s : State) (h : List Entry) (ws : List WaitingPacket) (t : Timers) (p : PaceValue) (now i g x : ℕ) → Turns old (leg s h ws t p) now i g x
    → Gives old (given_first (leg s h ws t p) now ws) now i g x
given_so old s h [] t p now i g x k = k
given_so old s h (w ∷ []) t p now i g x k = one_so old s h w t p now i g x k
given_so old s h (w ∷ v ∷ ws) t p now i g x k = by s k
  where
    by : (s : State) → Knows s (w ∷ v ∷ ws) t (since_by old s now i) g x → Knows s (v ∷ ws) t (since_by old s now i) now now
    by Idle k = tt
    by Closing k = tt
    by Identify k = k
    by Listen k = tt
    by (Train dcs) k = tt
    by (Page dcs) k = tt
    by Again k = tt

paced_so : (old : State) (a : AnswererCore) (now i g x : ℕ) → Turns old a now i g x → Gives old (paced a now) now i g x
paced_so old a now i g x k = by (pace_allows a.pace.last now)
  where
    by : (c : Bool) → Gives old (if◌then◌else◌ {A = TickResult} c (given_first a now a.waiting) (record { core = a; given = None; ended = false })) now i g x
    by true = given_so old a.state a.history a.waiting a.timers a.pace now i g x k
    by false = k

ticked_so : (a : AnswererCore) (now i g x : ℕ) → CoreKnows a i g x → Gives a.state (ticked a now) now i g x
ticked_so a now i g x k = paced_so a.state (timed a now) now i g x (timed_so a.state a.history a.waiting a.timers a.pace now i g x k)

-- ---- A CALL

call_so : (core : AnswererCore) (start : ℕ) (events : List CallEvent) →
    let begun : AnswererCore = rung core start in
    CoreKnows (after_events begun events) (identified_since begun start events) (last_given begun start events) (last_sound begun start events)
call_so core start [] = refl
call_so core start (Comes piece now read ∷ before) =
    let begun : AnswererCore = rung core start in
    let a : AnswererCore = after_events begun before in
    came_so read a.state a.history a.waiting a.timers a.pace piece now (identified_since begun start before) (last_given begun start before) (last_sound begun start before) (call_so core start before)
call_so core start (Ticks now ∷ before) =
    let begun : AnswererCore = rung core start in
    ticked_so (after_events begun before) now (identified_since begun start before) (last_given begun start before) (last_sound begun start before) (call_so core start before)

timer_is : (s : State) (t : Timers) (i g x : ℕ) → Knows s [] t i g x → timer_of s t ≡ timer_since s i g x
timer_is Idle t i g x k = refl
timer_is Closing t i g x k = refl
timer_is Identify t i g x k = ap (λ (o : Option ℕ). earlier o t.t4) k.0 ∙ ap (λ (o : Option ℕ). earlier (Some (moment_after i spans.t1)) o) k.1
timer_is Listen t i g x k = k
timer_is (Train dcs) t i g x k = k
timer_is (Page dcs) t i g x k = k
timer_is Again t i g x k = k

pub no_timer_is_early : NoTimerIsEarly
no_timer_is_early core start events none = (due, λ now fits early. rests_before a now fits (ap (λ (o : Option ℕ). is_due o now) due ∙ early))
  where
    begun : AnswererCore
    begun = rung core start

    a : AnswererCore
    a = after_events begun events

    i : ℕ
    i = identified_since begun start events

    g : ℕ
    g = last_given begun start events

    x : ℕ
    x = last_sound begun start events

    known : Knows a.state [] a.timers i g x
    known = subst (λ (ws : List WaitingPacket). Knows a.state ws a.timers i g x) none (call_so core start events)

    due : due_at a ≡ timer_since a.state i g x
    due = ap (λ (ws : List WaitingPacket). if is_waiting ws then on_clock (allowed_from a.pace.last) else timer_of a.state a.timers) none ∙ timer_is a.state a.timers i g x known

-- ---- THE CALL IS GIVEN UP

-- where no packet waits, or two do, a tick that gives one leaves the state
none_waits : (s : State) (h : List Entry) (t : Timers) (p : PaceValue) (now : ℕ) → (paced (leg s h [] t p) now).core.state ≡ s
none_waits s h t p now = by (pace_allows p.last now)
  where
    by : (c : Bool) → (if◌then◌else◌ {A = TickResult} c (given_first (leg s h [] t p) now []) (record { core = leg s h [] t p; given = None; ended = false })).core.state ≡ s
    by true = refl
    by false = refl

two_wait : (s : State) (h : List Entry) (w v : WaitingPacket) (t : Timers) (p : PaceValue) (now : ℕ) → (paced (leg s h (w ∷ v ∷ []) t p) now).core.state ≡ s
two_wait s h w v t p now = by (pace_allows p.last now)
  where
    by : (c : Bool) → (if◌then◌else◌ {A = TickResult} c (given_first (leg s h (w ∷ v ∷ []) t p) now (w ∷ v ∷ [])) (record { core = leg s h (w ∷ v ∷ []) t p; given = None; ended = false })).core.state ≡ s
    by true = refl
    by false = refl

-- and else it is left too, but in Closing
not_closed : (s : State) → (s ≡ Closing → ⊥) → state_when_given s ≡ s
not_closed Closing n = absurd (n refl)
not_closed Idle n = refl
not_closed Identify n = refl
not_closed Listen n = refl
not_closed (Train dcs) n = refl
not_closed (Page dcs) n = refl
not_closed Again n = refl

some_wait : (s : State) (h : List Entry) (w : WaitingPacket) (ws : List WaitingPacket) (t : Timers) (p : PaceValue) (now : ℕ) → (s ≡ Closing → ⊥) → (paced (leg s h (w ∷ ws) t p) now).core.state ≡ s
some_wait s h w ws t p now n = by (pace_allows p.last now) ws
  where
    by : (c : Bool) (ws : List WaitingPacket) → (if◌then◌else◌ {A = TickResult} c (given_first (leg s h (w ∷ ws) t p) now (w ∷ ws)) (record { core = leg s h (w ∷ ws) t p; given = None; ended = false })).core.state ≡ s
    by true [] = not_closed s n
    by true (v ∷ ws) = refl
    by false ws = refl

-- a tick where no packet waits
abbrev GivesUp : (timed : AnswererCore) → (now : ℕ) → Bool → Type 0
GivesUp b now up = ((paced b now).core.state ≡ Closing) ↔ (up ≡ true)

goodbye_so : (a : AnswererCore) (now : ℕ) → GivesUp (says_goodbye a) now true
goodbye_so a now = (λ k. refl, λ k. by (pace_allows a.pace.last now))
  where
    by : (c : Bool) → (if◌then◌else◌ {A = TickResult} c (given_first (says_goodbye a) now (says_goodbye a).waiting) (record { core = says_goodbye a; given = None; ended = false })).core.state ≡ Closing
    by true = refl
    by false = refl

keeps_so : (b : AnswererCore) (now : ℕ) → (paced b now).core.state ≡ b.state → (b.state ≡ Closing → ⊥) → GivesUp b now false
keeps_so b now same n = (λ k. absurd (n (sym same ∙ k)), λ k. cc)

anew_state : (a : AnswererCore) (now : ℕ) → (paced (identifies_anew a now) now).core.state ≡ Identify
anew_state a now = by (pace_allows a.pace.last now)
  where
    by : (c : Bool) → (if◌then◌else◌ {A = TickResult} c (given_first (identifies_anew a now) now (identifies_anew a now).waiting) (record { core = identifies_anew a now; given = None; ended = false })).core.state ≡ Identify
    by true = refl
    by false = refl

again_state : (h : List Entry) (t : Timers) (p : PaceValue) (now : ℕ) → (paced (identifies_again (leg Identify h [] t p)) now).core.state ≡ Identify
again_state h t p now = by (pace_allows p.last now)
  where
    by : (c : Bool) → (if◌then◌else◌ {A = TickResult} c (given_first (identifies_again (leg Identify h [] t p)) now (identifies_again (leg Identify h [] t p)).waiting) (record { core = identifies_again (leg Identify h [] t p); given = None; ended = false })).core.state ≡ Identify
    by true = refl
    by false = refl

-- by T2
by_t2 : (s : State) (h : List Entry) (t : Timers) (p : PaceValue) (now : ℕ) (c : Bool) → (s ≡ Closing → ⊥) → GivesUp (if c then says_goodbye (leg s h [] t p) else leg s h [] t p) now c
by_t2 s h t p now true n = goodbye_so (leg s h [] t p) now
by_t2 s h t p now false n = keeps_so (leg s h [] t p) now (none_waits s h t p now) n

-- by T1
by_t1 : (h : List Entry) (t : Timers) (p : PaceValue) (now : ℕ) (c d : Bool) →
    let a : AnswererCore = leg Identify h [] t p in
    GivesUp (if c then says_goodbye a else if d then identifies_again a else a) now c
by_t1 h t p now true d = goodbye_so (leg Identify h [] t p) now
by_t1 h t p now false true = keeps_so (identifies_again (leg Identify h [] t p)) now (again_state h t p now) (λ e. cc)
by_t1 h t p now false false = keeps_so (leg Identify h [] t p) now (none_waits Identify h t p now) (λ e. cc)

by_anew : (h : List Entry) (t : Timers) (p : PaceValue) (now : ℕ) (c : Bool) → GivesUp (if c then identifies_anew (leg Again h [] t p) now else leg Again h [] t p) now false
by_anew h t p now true = keeps_so (identifies_anew (leg Again h [] t p) now) now (anew_state (leg Again h [] t p) now) (λ e. cc)
by_anew h t p now false = keeps_so (leg Again h [] t p) now (none_waits Again h t p now) (λ e. cc)

up_so : (s : State) (h : List Entry) (t : Timers) (p : PaceValue) (now : ℕ) → (s ≡ Closing → ⊥) → GivesUp (timed_in s (leg s h [] t p) now) now (gives_up s t now)
up_so Closing h t p now n = absurd (n refl)
up_so Idle h t p now n = keeps_so (leg Idle h [] t p) now (none_waits Idle h t p now) n
up_so Identify h t p now n = by_t1 h t p now (is_due t.t1 now) (is_due t.t4 now)
up_so Listen h t p now n = by_t2 Listen h t p now (is_due t.t2 now) n
up_so (Train dcs) h t p now n = by_t2 (Train dcs) h t p now (is_due t.t2 now) n
up_so (Page dcs) h t p now n = by_t2 (Page dcs) h t p now (is_due t.t2 now) n
up_so Again h t p now n = by_anew h t p now (is_due t.t2 now)

-- the timer is that of the call
up_is : (s : State) (t : Timers) (now i g x : ℕ) → Knows s [] t i g x → gives_up s t now ≡ is_due (gives_up_at s i x) now
up_is Idle t now i g x k = refl
up_is Closing t now i g x k = refl
up_is Identify t now i g x k = ap (λ (o : Option ℕ). is_due o now) k.0
up_is Listen t now i g x k = ap (λ (o : Option ℕ). is_due o now) k
up_is (Train dcs) t now i g x k = ap (λ (o : Option ℕ). is_due o now) k
up_is (Page dcs) t now i g x k = ap (λ (o : Option ℕ). is_due o now) k
up_is Again t now i g x k = refl

ends_so : (s : State) (h : List Entry) (ws : List WaitingPacket) (t : Timers) (p : PaceValue) (now i g x : ℕ) → Knows s ws t i g x → (s ≡ Closing → ⊥)
    → ((ticked (leg s h ws t p) now).core.state ≡ Closing) ↔ ((ws ≡ []) × (is_due (gives_up_at s i x) now ≡ true))
ends_so s h [] t p now i g x k n =
    let e : gives_up s t now ≡ is_due (gives_up_at s i x) now = up_is s t now i g x k in
    let u : GivesUp (timed_in s (leg s h [] t p) now) now (gives_up s t now) = up_so s h t p now n in
    (λ c. (refl, sym e ∙ u.0 c), λ c. u.1 (e ∙ c.1))
ends_so s h (w ∷ ws) t p now i g x k n =
    let same : (paced (leg s h (w ∷ ws) t p) now).core.state ≡ s = some_wait s h w ws t p now n in
    (λ c. absurd (n (sym same ∙ c)), λ c. let e : w ∷ ws ≡ [] = c.0 in cc)

pub gives_up_in_time : GivesUpInTime
gives_up_in_time core start now events n =
    let begun : AnswererCore = rung core start in
    let a : AnswererCore = after_events begun events in
    ends_so a.state a.history a.waiting a.timers a.pace now (identified_since begun start events) (last_given begun start events) (last_sound begun start events) (call_so core start events) n
