-- The jobs that were closed are those that were reported, the one that is being sent, and those that wait.
use Rattle.std.proofs.Common.{◌≡◌, ℕ, max, Bool, true, false, not, ◌&&◌, List, [], ◌∷◌, ◌++◌, Option, Some, None, refl, sym, ◌∙◌, ap, subst, if◌then◌else◌}
use Rattle.std.proofs.lemmas.List.{append-nil}
use Rattle.fax_jobs.specs.declared.outcome.Outcome.{Outcome}
use Rattle.fax_jobs.specs.declared.report.Report.{Report}
use Rattle.fax_jobs.specs.Jobs.{JobValue}
use Rattle.fax_jobs.specs.Books.{report_of, last_of, kept_reports}
use Rattle.fax_jobs.specs.Pasts.{Step, Past, new_past, ended_if, after_steps, as_list, AreReported, HasReports}
use Rattle.fax_jobs.proofs.Reporting.{reports_each_job}
use Rattle.fax_answer.specs.Replies.{ConfirmedPage}
use Rattle.fax_call.specs.Writings.{Writing}
use Rattle.fax_call.specs.Emission.{Mark}
use Rattle.fax_gateway.specs.Setups.{Setup}
use Rattle.fax_gateway.specs.Events.{Event, Ring, FromCalling, FromCalled, Tick, Placed, Given, clock}
use Rattle.fax_gateway.specs.CallingLegs.{CallingLeg, calling_leg, idle_after, answers, confirmed_by}
use Rattle.fax_gateway.specs.CalledLegs.{CalledLeg, calls, outcome_of, outcome_told, delivered_told, report_by, told_report}
use Rattle.fax_gateway.specs.BothLegs.{BothLegs, begins_next, past_of, confirms_if, ends_if, heard_in_tick, sends, sends_if, enters, both_legs, in_tick}
use Rattle.fax_gateway.specs.Traces.{IsTrace}
use Rattle.fax_gateway.specs.Told.{leg_marks, marks_before}
use Rattle.fax_gateway.specs.Reports.{report_list, reports_given, job_sent, JobsHaveStates}
use Rattle.fax_gateway.proofs.InCalls.{IfInCall, before_call, in_call}
use Rattle.fax_gateway.proofs.Restoring.{restored_reports}

-- the reports of a book's steps
abbrev reported_by : List Step → List Report
reported_by steps = (after_steps new_past steps).reported

confirms_report : (number : ℕ) (o : Option ConfirmedPage) (steps : List Step) → reported_by (confirms_if number o steps) ≡ reported_by steps
confirms_report number None steps = refl
confirms_report number (Some c) steps = refl

ends_report : (b : Bool) (steps : List Step) → reported_by (ends_if b steps) ≡ reported_by steps
ends_report true steps = refl
ends_report false steps = refl

heard_report : (o : Option CallingLeg) (now : ℕ) (steps : List Step) → reported_by (heard_in_tick o now steps) ≡ reported_by steps
heard_report None now steps = refl
heard_report (Some l) now steps =
    ends_report (answers l now).ended (confirms_if l.number (confirmed_by (answers l now).given) steps) ∙ confirms_report l.number (confirmed_by (answers l now).given) steps

sends_report : (setup : Setup) (writes : Writing) (now : ℕ) (s : BothLegs) → reported_by (sends_if setup writes now s).steps ≡ reported_by s.steps
sends_report setup writes now s = by (begins_next setup s.leg)
  where
    by : (b : Bool) → reported_by (if◌then◌else◌ {A = BothLegs} b (sends true setup writes now s) s).steps ≡ reported_by s.steps
    by true = refl
    by false = refl

-- the end of a call is entered as it is told
ended_report : (o : Option JobValue) (job : JobValue) (past : Past) (outcome : Outcome) (delivered : ℕ) → o ≡ Some job → (ended_if o past outcome delivered).reported ≡ past.reported ++ report_of job outcome delivered ∷ []
ended_report None job past outcome delivered e = cc
ended_report (Some j) job past outcome delivered e =
    let same : j ≡ job = cc in ap (λ (x : JobValue). past.reported ++ report_of x outcome delivered ∷ []) same

enters_report : (l : CalledLeg) (delivered : ℕ) (o : Option Outcome) (steps : List Step) → (after_steps new_past steps).book.sending ≡ Some l.job → reported_by (enters delivered o steps) ≡ reported_by steps ++ report_list (report_by l delivered o)
enters_report l delivered None steps e = sym (append-nil (reported_by steps))
enters_report l delivered (Some outcome) steps e = let past : Past = after_steps new_past steps in ended_report past.book.sending l.job past outcome delivered e

served_report : (writes : Writing) (leg : Option CalledLeg) (now : ℕ) (steps : List Step) (marks : List Mark) → IfInCall writes leg (after_steps new_past steps).book.sending marks →
    reported_by (enters (delivered_told writes leg now) (outcome_told writes leg now) steps) ≡ reported_by steps ++ report_list (told_report writes leg now)
served_report writes None now steps marks i = sym (append-nil (reported_by steps))
served_report writes (Some l) now steps marks i = by l.entered i.sends
  where
    delivered : ℕ
    delivered = delivered_told writes (Some l) now

    by : (b : Bool) → (after_steps new_past steps).book.sending ≡ (if◌then◌else◌ {A = Option JobValue} b None (Some l.job)) →
        let o : Option Outcome = if◌then◌else◌ {A = Option Outcome} b None (outcome_of (calls writes l now).core) in
        reported_by (enters delivered o steps) ≡ reported_by steps ++ report_list (report_by l delivered o)
    by true e = sym (append-nil (reported_by steps))
    by false e = enters_report l delivered (outcome_of (calls writes l now).core) steps e

reported_are : (setup : Setup) (writes : Writing) (trace : List Event) → IsTrace setup writes trace → reported_by (both_legs setup writes trace).steps ≡ reports_given trace
reported_are setup writes [] t = restored_reports setup.restored []
reported_are setup writes (Ring at n ∷ earlier) t = reported_are setup writes earlier t.1
reported_are setup writes (FromCalling octets at decided read ∷ earlier) t =
    ends_report (not (idle_after (calling_leg setup earlier)) && idle_after (calling_leg setup (FromCalling octets at decided read ∷ earlier))) (both_legs setup writes earlier).steps ∙ reported_are setup writes earlier t.1
reported_are setup writes (FromCalled octets at decided ∷ earlier) t = reported_are setup writes earlier t.1
reported_are setup writes (Placed at connected ∷ earlier) t = reported_are setup writes earlier t.1
reported_are setup writes (Tick at given ∷ earlier) t =
    let now : ℕ = max at (clock earlier) in
    let s : BothLegs = both_legs setup writes earlier in
    let z : BothLegs = in_tick setup writes earlier at in
    served_report writes z.leg now z.steps (marks_before setup writes earlier at (leg_marks setup writes earlier)) (before_call setup writes earlier at (leg_marks setup writes earlier) (in_call setup writes earlier t.1))
    ∙ ap (λ (rs : List Report). rs ++ report_list (told_report writes z.leg now))
    (sends_report setup writes now (record s { steps = heard_in_tick (calling_leg setup earlier) now s.steps }) ∙ heard_report (calling_leg setup earlier) now s.steps ∙ reported_are setup writes earlier t.1)
    ∙ ap (λ (r : Option Report). reports_given earlier ++ report_list r) (sym (ap (λ (g : Given). g.report) t.0))

sending_is : (writes : Writing) (leg : Option CalledLeg) (sending : Option JobValue) (marks : List Mark) → IfInCall writes leg sending marks → sending ≡ job_sent leg
sending_is writes None sending marks i = i
sending_is writes (Some l) sending marks i = i.sends

pub have_states : JobsHaveStates
have_states setup writes trace t =
    let s : BothLegs = both_legs setup writes trace in
    let past : Past = past_of s in
    let r : HasReports past = reports_each_job s.steps in
    let are : past.reported ≡ reports_given trace = reported_are setup writes trace t in
    let e : past.book.sending ≡ job_sent s.leg = sending_is writes s.leg past.book.sending (leg_marks setup writes trace) (in_call setup writes trace t) in
    record {
      ended = past.ended;
      are_reported = subst (AreReported past.ended) are r.each;
      sending = e;
      jobs_are = ap (λ (o : Option JobValue). past.ended ++ (as_list o ++ past.book.waiting)) e;
      last_reports = r.last ∙ ap (last_of kept_reports) are;
    }
