-- A job for which a DIS leaves no choice is reported with that refusal.
use Rattle.std.proofs.Common.{◌≡◌, ℕ, max, Bool, true, false, List, [], ◌∷◌, ◌++◌, slice_get, ◌⊎◌, inl, inr, Option, Some, None, refl, sym, ◌∙◌, ap, subst, if◌then◌else◌}
use Rattle.fax_frames.specs.declared.choice.Refusal.{Refusal}
use Rattle.fax_ifp.specs.Pieces as pieces
use Rattle.fax_pagestore.specs.Pages.{PageValue}
use Rattle.fax_jobs.specs.declared.outcome.Outcome.{Outcome}
use Rattle.fax_jobs.specs.declared.report.Report.{Report}
use Rattle.fax_jobs.specs.Jobs.{JobValue, IsJob}
use Rattle.fax_jobs.specs.Books.{Book, report_of}
use Rattle.fax_call.specs.declared.state.State.{State}
use Rattle.fax_call.specs.declared.state.State.TheVariants.{Idle, AwaitDis, Closing}
use Rattle.fax_call.specs.Writings.{Writing}
use Rattle.fax_call.specs.Calls.{CallerCore, CallEvent, Comes, Ticks, after_events}
use Rattle.fax_call.specs.Delivery.{is_over}
use Rattle.fax_call.specs.Table as table
use Rattle.fax_call.specs.Emission.{Mark}
use Rattle.fax_call.proofs.Refusals.{ends_by_refusal}
use Rattle.fax_gateway.specs.Setups.{Setup}
use Rattle.fax_gateway.specs.Events.{Event, Tick, Given, clock}
use Rattle.fax_gateway.specs.CalledLegs.{CalledLeg, begun_core, calls, outcome_of, report_by, told_report}
use Rattle.fax_gateway.specs.BothLegs.{BothLegs, book_of, in_tick}
use Rattle.fax_gateway.specs.Told.{leg_marks, marks_before}
use Rattle.fax_gateway.specs.Forwards.{WasConfirmed}
use Rattle.fax_gateway.specs.Refused.{LeavesNoChoice, ReportsTheRefusal}
use Rattle.fax_gateway.proofs.Held.{IfHolds, held}
use Rattle.fax_gateway.proofs.Confirmed.{tick_holds}
use Rattle.fax_gateway.proofs.InCalls.{InCall, IfInCall, before_call, in_call}
use Rattle.fax_gateway.proofs.Unplaced.{as_begun, awaits_placed, from_begun}

abbrev ended_so : State → Option Outcome → Option Outcome
ended_so state o = if◌then◌else◌ {A = Option Outcome} (is_over state) o None

-- the outcome of a call that a refusal ends
end_is : (state : State) (o : Option Outcome) (wanted outcome : Outcome) → (state ≡ Closing wanted) ⊎ ((state ≡ Idle) × (o ≡ Some wanted)) → ended_so state o ≡ Some outcome → outcome ≡ wanted
end_is state o wanted outcome (inl closing) e = let q : None ≡ Some outcome = subst (λ (s : State). ended_so s o ≡ Some outcome) closing e in cc
end_is state o wanted outcome (inr idle) e =
    let p : o ≡ Some outcome = subst (λ (s : State). ended_so s o ≡ Some outcome) idle.0 e in
    let q : Some outcome ≡ Some wanted = sym p ∙ idle.1 in cc

call_refused : (writes : Writing) (l : CalledLeg) (now : ℕ) (refusal : Refusal) (outcome : Outcome) → IsJob l.job → LeavesNoChoice writes l refusal → outcome_of (calls writes l now).core ≡ Some outcome → outcome ≡ table.outcome_of refusal
call_refused writes l now refusal outcome is r e =
    let after : List CallEvent → CallerCore = λ es. after_events writes l.job (begun_core l) (Ticks now ∷ es) in
    let placed : l.placed ≡ true = awaits_placed writes l r.events r.awaits in
    let at : List CallEvent → CallerCore → CallerCore = λ es a. after_events writes l.job a es in
    let begun = ends_by_refusal writes l.job l.before l.begun (Ticks now ∷ r.later) r.events r.now r.octets r.dis r.page refusal is
    (from_begun (λ (a : CallerCore). (at r.events a).state ≡ AwaitDis) l placed r.awaits)
    (from_begun (λ (a : CallerCore). (at r.events a).waiting ≡ []) l placed r.waits_not) r.frame
    (from_begun (λ (a : CallerCore). slice_get l.job.pages (at r.events a).counts.page ≡ Some r.page) l placed r.due) r.none in
    let over : List CallEvent = Ticks now ∷ (r.later ++ Comes (pieces.Frame r.octets) r.now ∷ r.events) in
    let ends = as_begun (λ (a : CallerCore). ((at over a).state ≡ Closing (table.outcome_of refusal)) ⊎ (((at over a).state ≡ Idle) × ((at over a).outcome ≡ Some (table.outcome_of refusal)))) l placed begun in
    let here : ((after l.events).state ≡ Closing (table.outcome_of refusal)) ⊎ (((after l.events).state ≡ Idle) × ((after l.events).outcome ≡ Some (table.outcome_of refusal))) =
    subst (λ (es : List CallEvent). ((after es).state ≡ Closing (table.outcome_of refusal)) ⊎ (((after es).state ≡ Idle) × ((after es).outcome ≡ Some (table.outcome_of refusal)))) (sym r.split) ends in
    end_is (after l.events).state (after l.events).outcome (table.outcome_of refusal) outcome here e

report_refused : (writes : Writing) (now : ℕ) (l : CalledLeg) (book : Book) (P : ℕ → PageValue → Type 0) (marks : List Mark) (refusal : Refusal) (report : Report) → IfHolds P book.sending → InCall writes l book.sending marks →
    LeavesNoChoice writes l refusal → told_report writes (Some l) now ≡ Some report → report.outcome ≡ table.outcome_of refusal
report_refused writes now l book P marks refusal report h i r e = by l.entered i.sends e
  where
    ended : (o : Option Outcome) → outcome_of (calls writes l now).core ≡ o → IsJob l.job → report_by l (calls writes l now).core.counts.delivered o ≡ Some report → report.outcome ≡ table.outcome_of refusal
    ended None f is k = cc
    ended (Some outcome) f is k =
        let same : report_of l.job outcome (calls writes l now).core.counts.delivered ≡ report = cc in
        sym (ap (λ (x : Report). x.outcome) same) ∙ call_refused writes l now refusal outcome is r f

    by : (b : Bool) → book.sending ≡ (if◌then◌else◌ {A = Option JobValue} b None (Some l.job)) →
        report_by l (calls writes l now).core.counts.delivered (if◌then◌else◌ {A = Option Outcome} b None (outcome_of (calls writes l now).core)) ≡ Some report → report.outcome ≡ table.outcome_of refusal
    by true s k = cc
    by false s k = ended (outcome_of (calls writes l now).core) refl (subst (IfHolds P) s h).is_job k

pub reports_the_refusal : ReportsTheRefusal
reports_the_refusal setup writes earlier at given leg refusal report t is r e =
    let now : ℕ = max at (clock earlier) in
    let z : BothLegs = in_tick setup writes earlier at in
    let trace : List Event = Tick at given ∷ earlier in
    let old : List Mark = leg_marks setup writes earlier in
    let marks : List Mark = marks_before setup writes earlier at old in
    let i : InCall writes leg (book_of z).sending marks = subst (λ (o : Option CalledLeg). IfInCall writes o (book_of z).sending marks) is (before_call setup writes earlier at old (in_call setup writes earlier t.1)) in
    let told : told_report writes (Some leg) now ≡ Some report = ap (λ (o : Option CalledLeg). told_report writes o now) (sym is) ∙ (sym (ap (λ (g : Given). g.report) t.0) ∙ e) in
    report_refused writes now leg (book_of z) (WasConfirmed setup trace) marks refusal report
    (held (WasConfirmed setup trace) z.steps (tick_holds setup writes earlier at given t)).sending i r told
