-- When a tick does something.
use Rattle.std.proofs.Common.{◌≡◌, ◌≢◌, ◌⊎◌, inl, inr, ℕ, ◌<◌, ◌^◌, nat_lt, Bool, true, false, List, [], ◌∷◌, Option, Some, None, refl, sym, ◌∙◌, ap, subst, if◌then◌else◌}
use Rattle.std.specs.Prelude.{IsSome}
use Rattle.fax_frames.specs.declared.dis.Dis.{Dis}
use Rattle.fax_frames.specs.declared.dcs.Dcs.{Dcs}
use Rattle.fax_timers.specs.Moments.{is_due, on_clock}
use Rattle.fax_timers.specs.Paces.{PaceValue, pace_allows, allowed_from}
use Rattle.fax_timers.proofs.DueMoments.{held_back, let_through}
use Rattle.fax_jobs.specs.Jobs.{JobValue}
use Rattle.fax_pagestore.specs.Writers.{WriterValue}
use Rattle.fax_call.specs.declared.pending.Pending.TheVariants.{Nothing}
use Rattle.fax_call.specs.declared.procedure.Procedure.{Procedure}
use Rattle.fax_call.specs.declared.state.State.{State}
use Rattle.fax_call.specs.declared.state.State.TheVariants.{Idle, AwaitDis, AwaitCfr, AwaitMcf, Closing}
use Rattle.fax_call.specs.Writings.{Writing}
use Rattle.fax_call.specs.Replies.{Due, waits}
use Rattle.fax_jobs.specs.declared.outcome.Outcome.TheVariants.{NoReply}
use Rattle.fax_call.specs.Table.{Counts, Move, Stays, Trains, AsksAgain, Closes, next_try, tries_again, asks_again, on_timers, most_tries}
use Rattle.fax_call.specs.Calls.{CallerCore, TickResult, moved, ticked, paced, given_first}
use Rattle.fax_call.specs.Following.{IsFit, Follows}
use Rattle.fax_call.specs.Due.{timer_of, due_at, untouched, RestsBefore, ActsFrom}
use Rattle.fax_call.proofs.FollowingLemmas.{core_waits, core_rests}

abbrev if_let : Writing → JobValue → Bool → CallerCore → ℕ → TickResult
if_let writes job b a now = if b then given_first writes job a now a.waiting else untouched a

-- NO PACKET WAITS, and no timer is due
nothing_given : (writes : Writing) (job : JobValue) (a : CallerCore) (now : ℕ) (ws : List Due) (b : Bool) → waits ws ≡ false → (if b then given_first writes job a now ws else untouched a) ≡ untouched a
nothing_given writes job a now [] true e = refl
nothing_given writes job a now (d ∷ due) true e = cc
nothing_given writes job a now ws false e = refl

no_timer : (s : State) (t1 t4 : Option ℕ) (c : Counts) (now : ℕ) → is_due (timer_of s t1 t4) now ≡ false → on_timers (is_due t1 now) (is_due t4 now) s c ≡ Stays
no_timer Idle t1 t4 c now e = refl
no_timer (Closing outcome) t1 t4 c now e = refl
no_timer AwaitDis t1 t4 c now e = ap (λ (b : Bool). on_timers b (is_due t4 now) AwaitDis c) e
no_timer (AwaitCfr dis dcs) t1 t4 c now e = ap (λ (b : Bool). on_timers (is_due t1 now) b (AwaitCfr dis dcs) c) e
no_timer (AwaitMcf dis dcs) t1 t4 c now e = ap (λ (b : Bool). on_timers (is_due t1 now) b (AwaitMcf dis dcs) c) e

abbrev due_if : CallerCore → Bool → Option ℕ
due_if a w = if w then on_clock (allowed_from a.pace.last) else timer_of a.state a.t1 a.t4

abbrev timed_if : CallerCore → ℕ → Bool → CallerCore
timed_if a now w = moved a (if w then Stays else on_timers (is_due a.t1 now) (is_due a.t4 now) a.state a.counts)

pub rests_before : RestsBefore
rests_before writes job a now fits e = by (waits a.waiting) refl e
  where
    by : (w : Bool) → waits a.waiting ≡ w → is_due (due_if a w) now ≡ false → paced writes job (timed_if a now w) now ≡ untouched a
    by true some k = ap (λ (b : Bool). if_let writes job b a now) (held_back a.pace.last now fits k)
    by false none k =
        ap (λ (m : Move). paced writes job (moved a m) now) (no_timer a.state a.t1 a.t4 a.counts now k)
        ∙ nothing_given writes job a now a.waiting (pace_allows a.pace.last now) none

-- A TIMER IS DUE: packets wait, which are given or are not
abbrev Does : CallerCore → TickResult → Type 0
Does a t = IsSome t.given ⊎ (t.core ≢ a)

given_some : (writes : Writing) (job : JobValue) (a : CallerCore) (now : ℕ) (ws : List Due) → waits ws ≡ true → IsSome (given_first writes job a now ws).given
given_some writes job a now [] e = cc
given_some writes job a now (d ∷ due) e = refl

now_waits : (writes : Writing) (job : JobValue) (a b : CallerCore) (now : ℕ) → waits a.waiting ≡ false → waits b.waiting ≡ true → Does a (paced writes job b now)
now_waits writes job a b now none some = by (pace_allows b.pace.last now)
  where
    by : (let_it : Bool) → Does a (if_let writes job let_it b now)
    by true = inl (given_some writes job b now b.waiting some)
    by false = inr (λ same. let k : true ≡ false = sym some ∙ ap (λ (x : CallerCore). waits x.waiting) same ∙ none in cc)

trained : (a : CallerCore) (dis : Dis) (dcs : Dcs) (c : Counts) → waits (moved a (tries_again dis dcs c)).waiting ≡ true
trained a dis dcs c = by (nat_lt c.tries most_tries)
  where
    by : (b : Bool) → waits (moved a (if b then Trains dis dcs (next_try c) else Closes NoReply c)).waiting ≡ true
    by true = refl
    by false = refl

asked : (a : CallerCore) (c : Counts) → waits (moved a (asks_again c)).waiting ≡ true
asked a c = by (nat_lt c.tries most_tries)
  where
    by : (b : Bool) → waits (moved a (if b then AsksAgain (next_try c) else Closes NoReply c)).waiting ≡ true
    by true = refl
    by false = refl

timer_acts : (a : CallerCore) (s : State) (t1 t4 : Option ℕ) (c : Counts) (now : ℕ) → is_due (timer_of s t1 t4) now ≡ true → waits (moved a (on_timers (is_due t1 now) (is_due t4 now) s c)).waiting ≡ true
timer_acts a Idle t1 t4 c now e = cc
timer_acts a (Closing outcome) t1 t4 c now e = cc
timer_acts a AwaitDis t1 t4 c now e = ap (λ (b : Bool). waits (moved a (on_timers b (is_due t4 now) AwaitDis c)).waiting) e
timer_acts a (AwaitCfr dis dcs) t1 t4 c now e = ap (λ (b : Bool). waits (moved a (on_timers (is_due t1 now) b (AwaitCfr dis dcs) c)).waiting) e ∙ trained a dis dcs c
timer_acts a (AwaitMcf dis dcs) t1 t4 c now e = ap (λ (b : Bool). waits (moved a (on_timers (is_due t1 now) b (AwaitMcf dis dcs) c)).waiting) e ∙ asked a c

pub acts_from : ActsFrom
acts_from writes job a now e = by (waits a.waiting) refl e
  where
    by : (w : Bool) → waits a.waiting ≡ w → is_due (due_if a w) now ≡ true → Does a (paced writes job (timed_if a now w) now)
    by true some k = subst (λ (b : Bool). Does a (if_let writes job b a now)) (sym (let_through a.pace.last now k)) (inl (given_some writes job a now a.waiting some))
    by false none k = now_waits writes job a (timed_if a now false) now none (timer_acts a a.state a.t1 a.t4 a.counts now k)

-- THE SAME OF WHAT STANDS FOR A CORE
pub due_waiting : (writes : Writing) (job : JobValue) (core : CallerCore) (writer : WriterValue) (p : Procedure) → IsFit p → Follows writes job core writer p
    → (p.pending ≡ Nothing → ⊥) → due_at core ≡ on_clock (allowed_from p.pace.last)
due_waiting writes job core writer p fit f some =
    ap (λ (w : Bool). due_if core w) (core_waits writes job core writer p fit f some) ∙ sym (ap (λ (x : PaceValue). on_clock (allowed_from x.last)) f.pace)

pub due_resting : (writes : Writing) (job : JobValue) (core : CallerCore) (writer : WriterValue) (p : Procedure) → Follows writes job core writer p
    → p.pending ≡ Nothing → due_at core ≡ timer_of p.state p.t1 p.t4
due_resting writes job core writer p f none =
    ap (λ (w : Bool). due_if core w) (core_rests writes job core writer p f none)
    ∙ ap (λ (s : State). timer_of s core.t1 core.t4) (sym f.state)
    ∙ ap (λ (t : Option ℕ). timer_of p.state t core.t4) (sym f.t1)
    ∙ ap (λ (t : Option ℕ). timer_of p.state p.t1 t) (sym f.t4)
