-- A tick while nothing is due leads a gateway on, and its clock alone is another.
use Rattle.std.proofs.Common.{◌≡◌, ℕ, ◌<◌, ◌≤◌, ◌^◌, max, nat_le, Bool, true, false, List, [], ◌∷◌, length, drop, Option, Some, None, refl, sym, ◌∙◌, ap, subst, arith, if◌then◌else◌}
use Rattle.std.specs.Prelude.{is_some}
use Rattle.fax_timers.specs.Moments.{is_due, earlier}
use Rattle.fax_timers.proofs.DueMoments.{neither}
use Rattle.fax_udptl.specs.Slots.{newest_slots}
use Rattle.fax_jobs.specs.declared.outcome.Outcome.{Outcome}
use Rattle.fax_jobs.specs.declared.report.Report.{Report}
use Rattle.fax_jobs.specs.Jobs.{JobValue}
use Rattle.fax_jobs.specs.Books.{Book, first_of, taken}
use Rattle.fax_answer.specs.Replies.{ConfirmedPage}
use Rattle.fax_answer.specs.Calls as answer_calls
use Rattle.fax_answer.specs.Calls.{AnswererCore}
use Rattle.fax_answer.specs.Due as answer_due
use Rattle.fax_answer.specs.Reached as answer
use Rattle.fax_answer.specs.Refusals.{TellsWhy}
use Rattle.fax_answer.proofs.DueLemmas as answer_lemmas
use Rattle.fax_call.specs.declared.procedure.Procedure.{Procedure}
use Rattle.fax_call.specs.declared.state.State.{State}
use Rattle.fax_call.specs.Writings.{Writing}
use Rattle.fax_call.specs.Calls.{CallerCore, TickResult}
use Rattle.fax_call.specs.Delivery.{is_over}
use Rattle.fax_call.specs.Due as call_due_at
use Rattle.fax_call.specs.Reached as call
use Rattle.fax_call.proofs.DueLemmas as call_lemmas
use Rattle.fax_gateway.specs.declared.caller_endpoint.CallerEndpoint.{CallerEndpoint}
use Rattle.fax_gateway.specs.declared.given.Kept.{Kept}
use Rattle.fax_gateway.specs.Setups.{Setup}
use Rattle.fax_gateway.specs.Events.{Event, Tick, clock}
use Rattle.fax_gateway.specs.CallingLegs as calling_legs
use Rattle.fax_gateway.specs.CallingLegs.{CallingLeg, answers, calling_leg, confirmed_by, packets_with, told_calling}
use Rattle.fax_gateway.specs.CalledLegs.{CalledLeg, calls, core_of, is_free, outcome_of, packets_given, told_by}
use Rattle.fax_gateway.specs.BothLegs.{book_of, both_legs, in_tick}
use Rattle.fax_gateway.specs.Reports.{job_sent}
use Rattle.fax_gateway.specs.Turns.{IsRefusedAt, call_if, given_up_at, kept_at, kept_if}
use Rattle.fax_gateway.specs.Reached.{Begins, CallingValue, GatewayValue, IsCalled, IsCalling, IsLeg, IsReachedBy, TicksOn, answering_of, closed_if, confirmed_if, confirmed_on, ended_if, ended_on, given_shown, outcome_of_rep, report_if, ticked_on}
use Rattle.fax_gateway.specs.Due.{call_due, called_due, calling_due, due_at, job_due, nothing_given}
use Rattle.fax_gateway.proofs.Ticking.{IsHeard, Served, job_is, same_served, sent_off, sent_on, serves_at_rest, serves_off, serves_on, ticks}

-- ---- THE CALLING LEG

answers_rest : (l : CallingLeg) (now : ℕ) → now < 2 ^ 64 → is_due (answer_due.due_at (calling_legs.core_of l)) now ≡ false → answers l now ≡ answer_due.untouched (calling_legs.core_of l)
answers_rest l now fits e = answer_lemmas.rests_before (calling_legs.core_of l) now fits e

leg_rests : (setup : Setup) (leg : Option CallingLeg) (now : ℕ) (endpoint : CallingValue) → now < 2 ^ 64 → is_due (calling_due setup leg) now ≡ false → IsCalling setup leg endpoint → IsCalling setup (ticked_on leg now) endpoint
leg_rests setup None now endpoint fits e r = r
leg_rests setup (Some l) now endpoint fits e r =
    let rests = answers_rest l now fits e in
    record {
      number = r.number;
      core = subst (λ (a : AnswererCore). answer.IsReached (newest_slots l.arrived) a endpoint.kept) (sym (ap (λ (t : answer_calls.TickResult). t.core) rests)) r.core;
      on_leg = subst (λ (given : List (List ℕ)). IsLeg setup l.arrived given endpoint.leg) (sym (ap (λ (t : answer_calls.TickResult). packets_with t.given l.given) rests)) r.on_leg;
    }

leg_tells : (setup : Setup) (leg : Option CallingLeg) (now : ℕ) → now < 2 ^ 64 → is_due (calling_due setup leg) now ≡ false → told_calling setup leg now ≡ None
leg_tells setup None now fits e = refl
leg_tells setup (Some l) now fits e = ap (λ (t : answer_calls.TickResult). calling_legs.told_by setup l.given t.given) (answers_rest l now fits e)

leg_confirms : (setup : Setup) (leg : Option CallingLeg) (now : ℕ) → now < 2 ^ 64 → is_due (calling_due setup leg) now ≡ false → confirmed_on leg now ≡ None
leg_confirms setup None now fits e = refl
leg_confirms setup (Some l) now fits e = ap (λ (t : answer_calls.TickResult). confirmed_by t.given) (answers_rest l now fits e)

leg_ends : (setup : Setup) (leg : Option CallingLeg) (now : ℕ) → now < 2 ^ 64 → is_due (calling_due setup leg) now ≡ false → ended_on leg now ≡ false
leg_ends setup None now fits e = refl
leg_ends setup (Some l) now fits e = ap (λ (t : answer_calls.TickResult). t.ended) (answers_rest l now fits e)

leg_keeps : (setup : Setup) (leg : Option CallingLeg) (now : ℕ) → now < 2 ^ 64 → is_due (calling_due setup leg) now ≡ false → kept_at leg now ≡ None
leg_keeps setup None now fits e = refl
leg_keeps setup (Some l) now fits e = ap (λ (t : answer_calls.TickResult). kept_if l.number (confirmed_by t.given)) (answers_rest l now fits e)

leg_refuses : (setup : Setup) (leg : Option CallingLeg) (now : ℕ) → now < 2 ^ 64 → is_due (calling_due setup leg) now ≡ false → IsRefusedAt leg now None
leg_refuses setup None now fits e = refl
leg_refuses setup (Some l) now fits e = (
  None,
  subst (λ (t : answer_calls.TickResult). TellsWhy t None) (sym (answers_rest l now fits e)) (record { rtn = λ h. absurd h; silent = λ off. refl }),
  refl,
)

leg_gives_up : (setup : Setup) (leg : Option CallingLeg) (now : ℕ) → now < 2 ^ 64 → is_due (calling_due setup leg) now ≡ false → given_up_at leg now ≡ None
leg_gives_up setup None now fits e = refl
leg_gives_up setup (Some l) now fits e = ap (λ (t : answer_calls.TickResult). call_if t.ended l.number) (answers_rest l now fits e)

-- ---- THE CALLED LEG, in the call of a job

le_true : (m n : ℕ) → m ≤ n → nat_le m n ≡ true
le_true m n h = grind (arith)

from_the_first : (now : ℕ) → nat_le 0 now ≡ true
from_the_first now = le_true 0 now (omega arith)

call_waits : (over : Bool) (due : Option ℕ) (now : ℕ) → is_due (if over then Some 0 else due) now ≡ false → (over ≡ false) × (is_due due now ≡ false)
call_waits true due now e = let k : true ≡ false = sym (from_the_first now) ∙ e in cc
call_waits false due now e = (refl, e)

calls_rest : (writes : Writing) (l : CalledLeg) (now : ℕ) → now < 2 ^ 64 → is_due (call_due (core_of writes l)) now ≡ false → calls writes l now ≡ call_due_at.untouched (core_of writes l)
calls_rest writes l now fits e =
    call_lemmas.rests_before writes l.job (core_of writes l) now fits (call_waits (is_some (outcome_of (core_of writes l))) (call_due_at.due_at (core_of writes l)) now e).1

call_rests : (setup : Setup) (writes : Writing) (l : CalledLeg) (now : ℕ) (endpoint : CallerEndpoint) → now < 2 ^ 64 → is_due (call_due (core_of writes l)) now ≡ false → IsCalled setup writes (Some l) endpoint → TicksOn setup writes l now None endpoint
call_rests setup writes l now endpoint fits e r =
    let rests = calls_rest writes l now fits e in
    record {
      called = record {
        core = subst (λ (a : CallerCore). call.IsReached writes l.job (newest_slots l.arrived) a endpoint.caller) (sym (ap (λ (t : TickResult). t.core) rests)) r.core;
        on_leg = subst (λ (given : List (List ℕ)). IsLeg setup l.arrived given endpoint.leg) (sym (ap (λ (t : TickResult). packets_given t.given l.given) rests)) r.on_leg;
      };
      told = sym (ap (λ (t : TickResult). told_by setup l.given t.given) rests);
    }

pub outcome_is_of_rep : (setup : Setup) (writes : Writing) (l : CalledLeg) (endpoint : CallerEndpoint) → IsCalled setup writes (Some l) endpoint → outcome_of_rep endpoint.caller.procedure ≡ outcome_of (core_of writes l)
outcome_is_of_rep setup writes l endpoint r =
    let p : Procedure = endpoint.caller.procedure in
    ap (λ (s : State). if◌then◌else◌ {A = Option Outcome} (is_over s) p.outcome None) r.core.follows.state
    ∙ ap (λ (o : Option Outcome). if◌then◌else◌ {A = Option Outcome} (is_over (core_of writes l).state) o None) r.core.follows.outcome

none_of : (o : Option Outcome) → is_some o ≡ false → o ≡ None
none_of None e = refl
none_of (Some outcome) e = cc

no_outcome : (setup : Setup) (writes : Writing) (l : CalledLeg) (now : ℕ) (endpoint : CallerEndpoint) → is_due (call_due (core_of writes l)) now ≡ false → IsCalled setup writes (Some l) endpoint → outcome_of_rep endpoint.caller.procedure ≡ None
no_outcome setup writes l now endpoint e r =
    outcome_is_of_rep setup writes l endpoint r
    ∙ none_of (outcome_of (core_of writes l)) (call_waits (is_some (outcome_of (core_of writes l))) (call_due_at.due_at (core_of writes l)) now e).0

-- ---- while no job is sent

free_due : (asks : Bool) (writes : Writing) (leg : Option CalledLeg) (waiting : List JobValue) → is_free leg ≡ true → called_due asks writes leg waiting ≡ job_due asks waiting
free_due asks writes None waiting e = refl
free_due asks writes (Some l) waiting e = ap (λ (b : Bool). if b then job_due asks waiting else call_due (core_of writes l)) e

on_due : (asks : Bool) (writes : Writing) (leg : Option CalledLeg) (l : CalledLeg) (waiting : List JobValue) → leg ≡ Some l → l.entered ≡ false → called_due asks writes leg waiting ≡ call_due (core_of writes l)
on_due asks writes leg l waiting is e =
    ap (λ (x : Option CalledLeg). called_due asks writes x waiting) is ∙ ap (λ (b : Bool). if b then job_due asks waiting else call_due (core_of writes l)) e

none_waits : (waiting : List JobValue) (now : ℕ) → is_due (job_due false waiting) now ≡ false → waiting ≡ []
none_waits [] now e = refl
none_waits (job ∷ jobs) now e = let k : true ≡ false = sym (from_the_first now) ∙ e in cc

none_taken : (b : Book) → b.waiting ≡ [] → b.sending ≡ None → taken b ≡ b
none_taken b empty none =
    ap (λ (ws : List JobValue). record b { waiting = drop 1 ws; sending = first_of ws }) empty
    ∙ ap (λ (ws : List JobValue). record b { waiting = ws; sending = None }) (sym empty)
    ∙ ap (λ (s : Option JobValue). record b { sending = s }) (sym none)

-- ---- THE TICK

heard_same : (setup : Setup) (trace : List Event) (now : ℕ) (old : GatewayValue) → now < 2 ^ 64 → is_due (calling_due setup (calling_leg setup trace)) now ≡ false → IsHeard setup trace now old old.book
heard_same setup trace now old fits e =
    let leg : Option CallingLeg = calling_leg setup trace in
    let n : ℕ = old.calling.number in
    sym (ap (λ (b : Bool). closed_if b (confirmed_if n (confirmed_on leg now) old.book)) (leg_ends setup leg now fits e)
    ∙ ap (λ (o : Option ConfirmedPage). confirmed_if n o old.book) (leg_confirms setup leg now fits e))

served : (setup : Setup) (writes : Writing) (trace : List Event) (at : ℕ) (old : GatewayValue) → IsReachedBy setup writes trace old → max at (clock trace) < 2 ^ 64
    → is_due (calling_due setup (calling_leg setup trace)) (max at (clock trace)) ≡ false → is_due (called_due setup.asks writes (both_legs setup writes trace).leg (book_of (both_legs setup writes trace)).waiting) (max at (clock trace)) ≡ false
    → Served setup writes (max at (clock trace)) (in_tick setup writes trace at) old.called None None old.book
served setup writes trace at old r fits calling called = by old.book.sending refl
  where
    now : ℕ
    now = max at (clock trace)

    o : Option Outcome
    o = outcome_of_rep old.called.caller.procedure

    d : ℕ
    d = old.called.caller.procedure.counts.delivered

    heard : IsHeard setup trace now old old.book
    heard = heard_same setup trace now old fits calling

    leg : Option CalledLeg
    leg = (both_legs setup writes trace).leg

    call_at : (l : CalledLeg) → leg ≡ Some l → l.entered ≡ false → is_due (call_due (core_of writes l)) now ≡ false
    call_at l is on = subst (λ (x : Option ℕ). is_due x now ≡ false) (on_due setup.asks writes leg l (book_of (both_legs setup writes trace)).waiting is on) called

    over : (x : Option CalledLeg) (job : JobValue) → leg ≡ x → job_sent x ≡ Some job → IsCalled setup writes x old.called → o ≡ None
    over None job is e k = cc
    over (Some l) job is e k = no_outcome setup writes l now old.called (call_at l is (sent_on l.entered l.job job e).0) k

    free : old.book.sending ≡ None → is_free leg ≡ true
    free none = sent_off leg (job_is setup writes trace old r ∙ none)

    empty : setup.asks ≡ false → old.book.sending ≡ None → old.book.waiting ≡ []
    empty asks none =
        ap (λ (b : Book). b.waiting) r.book
        ∙ none_waits (book_of (both_legs setup writes trace)).waiting now
        (subst (λ (b : Bool). is_due (job_due b (book_of (both_legs setup writes trace)).waiting) now ≡ false) asks
        (subst (λ (x : Option ℕ). is_due x now ≡ false) (free_due setup.asks writes leg (book_of (both_legs setup writes trace)).waiting (free none)) called))

    at_rest : (b : Bool) → setup.asks ≡ b → old.book.sending ≡ None → Served setup writes now (in_tick setup writes trace at) old.called None None old.book
    at_rest true asks e = serves_at_rest setup writes trace at old old.book asks r e heard
    at_rest false asks e =
        let b : Book = old.book in
        let no : b.waiting ≡ [] = empty asks e in
        same_served setup writes now (in_tick setup writes trace at) (in_tick setup writes trace at) old.called None (report_if (taken b).sending o d) None (ended_if (taken b).sending o d (taken b)) b refl
        (sym (ap (λ (ws : List JobValue). report_if (first_of ws) o d) no)) (sym (ap (λ (ws : List JobValue). ended_if (first_of ws) o d (taken b)) no ∙ none_taken b no e))
        (serves_off setup writes trace at old old.called None b asks r e heard
        (subst (λ (ws : List JobValue). Begins setup writes leg (first_of ws) now None old.called old.called) (sym no) (refl, refl)))

    by : (s : Option JobValue) → old.book.sending ≡ s → Served setup writes now (in_tick setup writes trace at) old.called None None old.book
    by (Some job) e =
        let none : o ≡ None = over leg job refl (job_is setup writes trace old r ∙ e) r.called in
        same_served setup writes now (in_tick setup writes trace at) (in_tick setup writes trace at) old.called None (report_if (Some job) o d) None (ended_if (Some job) o d old.book) old.book refl
        (sym (ap (λ (x : Option Outcome). report_if (Some job) x d) none)) (sym (ap (λ (x : Option Outcome). ended_if (Some job) x d old.book) none))
        (serves_on setup writes trace at old job old.called None old.book r e heard (λ l is on same k. call_rests setup writes l now old.called fits (call_at l is on) k))
    by None e = at_rest setup.asks refl e

pub rests : (setup : Setup) (writes : Writing) (trace : List Event) (at : ℕ) (old : GatewayValue) → IsReachedBy setup writes trace old → max at (clock trace) < 2 ^ 64
    → is_due (due_at setup writes trace) (max at (clock trace)) ≡ false → IsReachedBy setup writes (Tick at (given_shown nothing_given) ∷ trace) (record old { clock = max at old.clock })
rests setup writes trace at old r fits e =
    let now : ℕ = max at (clock trace) in
    let leg : Option CallingLeg = calling_leg setup trace in
    let two = neither (calling_due setup leg) (called_due setup.asks writes (both_legs setup writes trace).leg (book_of (both_legs setup writes trace)).waiting) now e in
    ticks setup writes trace at (given_shown nothing_given) old (record old { clock = max at old.clock }) r refl refl refl
    (leg_rests setup leg now old.calling fits two.0 r.calling) (sym (leg_tells setup leg now fits two.0))
    (served setup writes trace at old r fits two.0 two.1)

pub keeps_none : (setup : Setup) (writes : Writing) (trace : List Event) (now : ℕ) → now < 2 ^ 64 → is_due (due_at setup writes trace) now ≡ false → None ≡ kept_at (calling_leg setup trace) now
keeps_none setup writes trace now fits e =
    let leg : Option CallingLeg = calling_leg setup trace in
    sym (leg_keeps setup leg now fits (neither (calling_due setup leg) (called_due setup.asks writes (both_legs setup writes trace).leg (book_of (both_legs setup writes trace)).waiting) now e).0)

pub refuses_none : (setup : Setup) (writes : Writing) (trace : List Event) (now : ℕ) → now < 2 ^ 64 → is_due (due_at setup writes trace) now ≡ false → IsRefusedAt (calling_leg setup trace) now None
refuses_none setup writes trace now fits e =
    let leg : Option CallingLeg = calling_leg setup trace in
    leg_refuses setup leg now fits (neither (calling_due setup leg) (called_due setup.asks writes (both_legs setup writes trace).leg (book_of (both_legs setup writes trace)).waiting) now e).0

pub gives_none_up : (setup : Setup) (writes : Writing) (trace : List Event) (now : ℕ) → now < 2 ^ 64 → is_due (due_at setup writes trace) now ≡ false → None ≡ given_up_at (calling_leg setup trace) now
gives_none_up setup writes trace now fits e =
    let leg : Option CallingLeg = calling_leg setup trace in
    sym (leg_gives_up setup leg now fits (neither (calling_due setup leg) (called_due setup.asks writes (both_legs setup writes trace).leg (book_of (both_legs setup writes trace)).waiting) now e).0)

-- ---- what is kept tells when that is

pub due_over : (setup : Setup) (writes : Writing) (l : CalledLeg) (endpoint : CallerEndpoint) (outcome : Outcome) → IsCalled setup writes (Some l) endpoint → Some outcome ≡ outcome_of_rep endpoint.caller.procedure → Some 0 ≡ call_due (core_of writes l)
due_over setup writes l endpoint outcome r e =
    ap (λ (o : Option Outcome). if is_some o then Some 0 else call_due_at.due_at (core_of writes l)) (e ∙ outcome_is_of_rep setup writes l endpoint r)

pub due_on : (setup : Setup) (writes : Writing) (l : CalledLeg) (endpoint : CallerEndpoint) → IsCalled setup writes (Some l) endpoint → None ≡ outcome_of_rep endpoint.caller.procedure → call_due_at.due_at (core_of writes l) ≡ call_due (core_of writes l)
due_on setup writes l endpoint r e =
    ap (λ (o : Option Outcome). if is_some o then Some 0 else call_due_at.due_at (core_of writes l)) (e ∙ outcome_is_of_rep setup writes l endpoint r)

pub due_sent : (setup : Setup) (writes : Writing) (trace : List Event) (old : GatewayValue) (job : JobValue) (due : Option ℕ) → IsReachedBy setup writes trace old → old.book.sending ≡ Some job
    → ((l : CalledLeg) → IsCalled setup writes (Some l) old.called → due ≡ call_due (core_of writes l)) → due ≡ called_due setup.asks writes (both_legs setup writes trace).leg (book_of (both_legs setup writes trace)).waiting
due_sent setup writes trace old job due r sends f = by (both_legs setup writes trace).leg (job_is setup writes trace old r ∙ sends) r.called
  where
    by : (leg : Option CalledLeg) → job_sent leg ≡ Some job → IsCalled setup writes leg old.called → due ≡ called_due setup.asks writes leg (book_of (both_legs setup writes trace)).waiting
    by None e k = cc
    by (Some l) e k = f l k ∙ sym (on_due setup.asks writes (Some l) l (book_of (both_legs setup writes trace)).waiting refl (sent_on l.entered l.job job e).0)

pub due_free : (setup : Setup) (writes : Writing) (trace : List Event) (old : GatewayValue) (due : Option ℕ) → IsReachedBy setup writes trace old → old.book.sending ≡ None
    → due ≡ job_due setup.asks old.book.waiting → due ≡ called_due setup.asks writes (both_legs setup writes trace).leg (book_of (both_legs setup writes trace)).waiting
due_free setup writes trace old due r none is =
    is ∙ ap (λ (b : Book). job_due setup.asks b.waiting) r.book
    ∙ sym (free_due setup.asks writes (both_legs setup writes trace).leg (book_of (both_legs setup writes trace)).waiting (sent_off (both_legs setup writes trace).leg (job_is setup writes trace old r ∙ none)))

pub none_due : (waiting : List JobValue) → length waiting ≡ 0 → None ≡ job_due false waiting
none_due [] e = refl
none_due (job ∷ jobs) e = absurd (omega (arith, e))

pub some_due : (waiting : List JobValue) → (length waiting ≡ 0 → ⊥) → Some 0 ≡ job_due false waiting
some_due [] n = absurd (n refl)
some_due (job ∷ jobs) n = refl

-- where calls are asked for, none that waits is due
pub asked_due : (waiting : List JobValue) → None ≡ job_due true waiting
asked_due [] = refl
asked_due (job ∷ jobs) = refl

-- ---- whether that has come

pub not_come : (setup : Setup) (writes : Writing) (trace : List Event) (at now : ℕ) (due : Option ℕ) → now ≡ max at (clock trace) → now < 2 ^ 64 → due ≡ due_at setup writes trace → is_due due now ≡ false
    → (max at (clock trace) < 2 ^ 64) × (is_due (due_at setup writes trace) (max at (clock trace)) ≡ false)
not_come setup writes trace at now due same fits is e = (
  subst (λ (m : ℕ). m < 2 ^ 64) same fits,
  subst (λ (m : ℕ). is_due (due_at setup writes trace) m ≡ false) same (subst (λ (d : Option ℕ). is_due d now ≡ false) is e),
)

pub has_come : (setup : Setup) (writes : Writing) (trace : List Event) (at now : ℕ) (due : Option ℕ) → now ≡ max at (clock trace) → due ≡ due_at setup writes trace → is_due due now ≡ true
    → is_due (due_at setup writes trace) (max at (clock trace)) ≡ false → ⊥
has_come setup writes trace at now due same is e rests_now =
    let yes : is_due (due_at setup writes trace) (max at (clock trace)) ≡ true =
    subst (λ (m : ℕ). is_due (due_at setup writes trace) m ≡ true) same (subst (λ (d : Option ℕ). is_due d now ≡ true) is e) in
    let k : true ≡ false = sym yes ∙ rests_now in
    cc
