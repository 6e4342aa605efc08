-- When a tick does something.
use Rattle.std.proofs.Common.{◌≡◌, ◌≢◌, ◌⊎◌, inl, inr, ℕ, ◌<◌, ◌^◌, Bool, true, false, List, [], ◌∷◌, Option, refl, sym, ◌∙◌, ap, subst, if◌then◌else◌}
use Rattle.std.specs.Prelude.{IsSome}
use Rattle.fax_timers.specs.Moments.{is_due, on_clock}
use Rattle.fax_timers.specs.Paces.{PaceValue, pace_allows, allowed_from}
use Rattle.fax_timers.proofs.DueMoments.{held_back, let_through, neither, one_of}
use Rattle.fax_answer.specs.declared.state.State.{State}
use Rattle.fax_answer.specs.declared.state.State.TheVariants.{Idle, Identify, Listen, Train, Page, Again, Closing}
use Rattle.fax_answer.specs.declared.timers.Timers.{Timers}
use Rattle.fax_answer.specs.declared.pending.Pending.{Pending}
use Rattle.fax_answer.specs.declared.pending.Pending.TheVariants.{Nothing, Tone, Preamble, Frame}
use Rattle.fax_answer.specs.declared.procedure.Procedure.{Procedure}
use Rattle.fax_answer.specs.History.{Entry}
use Rattle.fax_answer.specs.Replies.{ConfirmedPage, WaitingPacket, is_waiting}
use Rattle.fax_answer.specs.Pending.{waiting_of}
use Rattle.fax_answer.specs.Following.{Follows}
use Rattle.fax_answer.specs.Calls.{AnswererCore, TickResult, ticked, timed_in, paced, given_first, says_goodbye, identifies_again, identifies_anew}
use Rattle.fax_answer.specs.Due.{timer_of, due_at, untouched, RestsBefore, ActsFrom}

abbrev leg : State → List Entry → List WaitingPacket → Timers → PaceValue → AnswererCore
leg s h ws t p = record { state = s; history = h; waiting = ws; timers = t; pace = p }

abbrev if_let : Bool → AnswererCore → ℕ → TickResult
if_let b a now = if b then given_first a now a.waiting else untouched a

-- NO PACKET WAITS, and no timer is due
nothing_given : (b : Bool) (s : State) (h : List Entry) (t : Timers) (p : PaceValue) (now : ℕ) → if_let b (leg s h [] t p) now ≡ untouched (leg s h [] t p)
nothing_given true s h t p now = refl
nothing_given false s h t p now = refl

abbrev neither_timed : Bool → Bool → AnswererCore → ℕ → AnswererCore
neither_timed b c a now = if b then says_goodbye a else if c then identifies_again a else a

no_timer : (s : State) (h : List Entry) (t : Timers) (p : PaceValue) (now : ℕ) → is_due (timer_of s t) now ≡ false → timed_in s (leg s h [] t p) now ≡ leg s h [] t p
no_timer Idle h t p now e = refl
no_timer Closing h t p now e = refl
no_timer Identify h t p now e =
    let a : AnswererCore = leg Identify h [] t p in
    let none = neither t.t1 t.t4 now e in
    ap (λ (b : Bool). neither_timed b (is_due t.t4 now) a now) none.0 ∙ ap (λ (c : Bool). neither_timed false c a now) none.1
no_timer Listen h t p now e = let a : AnswererCore = leg Listen h [] t p in ap (λ (b : Bool). if b then says_goodbye a else a) e
no_timer (Train dcs) h t p now e = let a : AnswererCore = leg (Train dcs) h [] t p in ap (λ (b : Bool). if b then says_goodbye a else a) e
no_timer (Page dcs) h t p now e = let a : AnswererCore = leg (Page dcs) h [] t p in ap (λ (b : Bool). if b then says_goodbye a else a) e
no_timer Again h t p now e = let a : AnswererCore = leg Again h [] t p in ap (λ (b : Bool). if b then identifies_anew a now else a) e

rests : (s : State) (h : List Entry) (ws : List WaitingPacket) (t : Timers) (p : PaceValue) (now : ℕ) → now < 2 ^ 64 → is_due (due_at (leg s h ws t p)) now ≡ false
    → ticked (leg s h ws t p) now ≡ untouched (leg s h ws t p)
rests s h [] t p now fits e = ap (λ (a : AnswererCore). paced a now) (no_timer s h t p now e) ∙ nothing_given (pace_allows p.last now) s h t p now
rests s h (w ∷ ws) t p now fits e = ap (λ (b : Bool). if_let b (leg s h (w ∷ ws) t p) now) (held_back p.last now fits e)

pub rests_before : RestsBefore
rests_before a now fits e = rests a.state a.history a.waiting a.timers a.pace now fits e

-- A TIMER IS DUE: packets wait, which are given or are not
abbrev Does : AnswererCore → TickResult → Type 0
Does a t = IsSome t.given ⊎ (t.core ≢ a)

given_some : (a : AnswererCore) (now : ℕ) (ws : List WaitingPacket) → is_waiting ws ≡ true → IsSome (given_first a now ws).given
given_some a now [] e = cc
given_some a now (w ∷ []) e = refl
given_some a now (w ∷ v ∷ ws) e = refl

now_waits : (a b : AnswererCore) (now : ℕ) → a.waiting ≡ [] → is_waiting b.waiting ≡ true → Does a (paced b now)
now_waits a b now none some = by (pace_allows b.pace.last now)
  where
    by : (let_it : Bool) → Does a (if_let let_it b now)
    by true = inl (given_some b now b.waiting some)
    by false = inr (λ same. let k : true ≡ false = sym some ∙ ap (λ (x : AnswererCore). is_waiting x.waiting) same ∙ ap is_waiting none in cc)

timer_acts : (s : State) (h : List Entry) (t : Timers) (p : PaceValue) (now : ℕ) → is_due (timer_of s t) now ≡ true → is_waiting (timed_in s (leg s h [] t p) now).waiting ≡ true
timer_acts Idle h t p now e = cc
timer_acts Closing h t p now e = cc
timer_acts Identify h t p now e = by (is_due t.t1 now) (is_due t.t4 now) (one_of t.t1 t.t4 now e)
  where
    by : (b c : Bool) → (b ≡ true) ⊎ (c ≡ true) → is_waiting (neither_timed b c (leg Identify h [] t p) now).waiting ≡ true
    by true c k = refl
    by false true k = refl
    by false false (inl k) = cc
    by false false (inr k) = cc
timer_acts Listen h t p now e = let a : AnswererCore = leg Listen h [] t p in ap (λ (b : Bool). is_waiting (if b then says_goodbye a else a).waiting) e
timer_acts (Train dcs) h t p now e = let a : AnswererCore = leg (Train dcs) h [] t p in ap (λ (b : Bool). is_waiting (if b then says_goodbye a else a).waiting) e
timer_acts (Page dcs) h t p now e = let a : AnswererCore = leg (Page dcs) h [] t p in ap (λ (b : Bool). is_waiting (if b then says_goodbye a else a).waiting) e
timer_acts Again h t p now e = let a : AnswererCore = leg Again h [] t p in ap (λ (b : Bool). is_waiting (if b then identifies_anew a now else a).waiting) e

acts : (s : State) (h : List Entry) (ws : List WaitingPacket) (t : Timers) (p : PaceValue) (now : ℕ) → is_due (due_at (leg s h ws t p)) now ≡ true
    → Does (leg s h ws t p) (ticked (leg s h ws t p) now)
acts s h [] t p now e = now_waits (leg s h [] t p) (timed_in s (leg s h [] t p) now) now refl (timer_acts s h t p now e)
acts s h (w ∷ ws) t p now e =
    let a : AnswererCore = leg s h (w ∷ ws) t p in
    subst (λ (b : Bool). Does a (if_let b a now)) (sym (let_through p.last now e)) (inl (given_some a now (w ∷ ws) refl))

pub acts_from : ActsFrom
acts_from a now e = acts a.state a.history a.waiting a.timers a.pace now e

-- THE SAME OF WHAT STANDS FOR A CORE
due_shown : (p : Pending) (confirmed : Option ConfirmedPage) (a : AnswererCore) (s : State) (t : Timers) (pace : PaceValue) → waiting_of p confirmed ≡ a.waiting → s ≡ a.state → t ≡ a.timers → pace ≡ a.pace
    → due_at a ≡ (if is_waiting (waiting_of p confirmed) then on_clock (allowed_from pace.last) else timer_of s t)
due_shown p confirmed a s t pace w e f g =
    ap (λ (ws : List WaitingPacket). if is_waiting ws then on_clock (allowed_from a.pace.last) else timer_of a.state a.timers) (sym w)
    ∙ ap (λ (x : PaceValue). if is_waiting (waiting_of p confirmed) then on_clock (allowed_from x.last) else timer_of a.state a.timers) (sym g)
    ∙ ap (λ (x : State). if is_waiting (waiting_of p confirmed) then on_clock (allowed_from pace.last) else timer_of x a.timers) (sym e)
    ∙ ap (λ (x : Timers). if is_waiting (waiting_of p confirmed) then on_clock (allowed_from pace.last) else timer_of s x) (sym f)

waits_so : (p : Pending) (confirmed : Option ConfirmedPage) → (p ≡ Nothing → ⊥) → is_waiting (waiting_of p confirmed) ≡ true
waits_so Nothing confirmed n = absurd (n refl)
waits_so Tone confirmed n = refl
waits_so (Preamble reply) confirmed n = refl
waits_so (Frame reply) confirmed n = refl

pub due_waiting : (core : AnswererCore) (confirmed : Option ConfirmedPage) (p : Procedure) → Follows core confirmed p → (p.pending ≡ Nothing → ⊥) → due_at core ≡ on_clock (allowed_from p.pace.last)
due_waiting core confirmed p f some =
    due_shown p.pending confirmed core p.state p.timers p.pace f.waiting f.state f.timers f.pace
    ∙ ap (λ (b : Bool). if b then on_clock (allowed_from p.pace.last) else timer_of p.state p.timers) (waits_so p.pending confirmed some)

pub due_resting : (core : AnswererCore) (confirmed : Option ConfirmedPage) (p : Procedure) → Follows core confirmed p → p.pending ≡ Nothing → due_at core ≡ timer_of p.state p.timers
due_resting core confirmed p f none =
    due_shown p.pending confirmed core p.state p.timers p.pace f.waiting f.state f.timers f.pace
    ∙ ap (λ (x : Pending). if is_waiting (waiting_of x confirmed) then on_clock (allowed_from p.pace.last) else timer_of p.state p.timers) none
