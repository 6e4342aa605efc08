-- A tick leads a gateway on: what the book hears of the calling leg, the job that is sent, and how the called leg is served.
use Rattle.std.proofs.Common.{◌≡◌, ℕ, max, Bool, true, false, not, ◌&&◌, List, ◌∷◌, Option, Some, None, refl, sym, ◌∙◌, ap, subst, if◌then◌else◌}
use Rattle.fax_jobs.specs.declared.outcome.Outcome.{Outcome}
use Rattle.fax_jobs.specs.declared.report.Report.{Report}
use Rattle.fax_jobs.specs.Jobs.{JobValue}
use Rattle.fax_jobs.specs.Books.{Book, taken, ended}
use Rattle.fax_jobs.specs.Pasts as pasts
use Rattle.fax_jobs.specs.Pasts.{Step, Sends, Past, new_past, sent_if, after_steps}
use Rattle.fax_answer.specs.Replies.{ConfirmedPage}
use Rattle.fax_call.specs.declared.procedure.Procedure.{Procedure}
use Rattle.fax_call.specs.declared.state.State.{State}
use Rattle.fax_call.specs.Writings.{Writing}
use Rattle.fax_call.specs.Calls.{TickResult}
use Rattle.fax_call.specs.Delivery.{is_over}
use Rattle.fax_call.specs.Table.{Counts}
use Rattle.fax_gateway.specs.Setups.{HasSettings, Setup}
use Rattle.fax_gateway.specs.declared.settings.Settings.{Settings}
use Rattle.fax_gateway.specs.declared.caller_endpoint.CallerEndpoint.{CallerEndpoint}
use Rattle.fax_gateway.specs.Events.{Event, Tick, Given, clock}
use Rattle.fax_gateway.specs.CallingLegs.{CallingLeg, answers, confirmed_by, calling_after, calling_leg, told_calling}
use Rattle.fax_gateway.specs.CalledLegs.{CalledLeg, is_free, core_left, begun_leg, calls, outcome_of, with_tick, told_by, told_called, report_by, told_report}
use Rattle.fax_gateway.specs.BothLegs.{BothLegs, begins_next, book_of, confirms_if, ends_if, heard_in_tick, leg_of, sends, enters, serves, both_legs, in_tick}
use Rattle.fax_gateway.specs.Reports.{job_sent, HaveStates}
use Rattle.fax_gateway.specs.Reached.{HasNumber, confirmed_if, closed_if, confirmed_on, ended_on, ticked_on, IsCalling, IsCalled, TicksOn, Begins, outcome_of_rep, report_if, ended_with, ended_if, GatewayValue, IsReachedBy}
use Rattle.fax_gateway.proofs.InCalls.{heard_sends}
use Rattle.fax_gateway.proofs.States.{have_states}

-- THE BOOK hears of the calling leg
confirms_book : (number : ℕ) (o : Option ConfirmedPage) (steps : List Step) → (after_steps new_past (confirms_if number o steps)).book ≡ confirmed_if number o (after_steps new_past steps).book
confirms_book number None steps = refl
confirms_book number (Some c) steps = refl

ends_book : (b : Bool) (steps : List Step) → (after_steps new_past (ends_if b steps)).book ≡ closed_if b (after_steps new_past steps).book
ends_book true steps = refl
ends_book false steps = refl

pub heard_book : (leg : Option CallingLeg) (now number : ℕ) (steps : List Step) → HasNumber leg number →
    (after_steps new_past (heard_in_tick leg now steps)).book ≡ closed_if (ended_on leg now) (confirmed_if number (confirmed_on leg now) (after_steps new_past steps).book)
heard_book None now number steps h = refl
heard_book (Some l) now number steps h =
    let ended : Bool = (answers l now).ended in
    let c : Option ConfirmedPage = confirmed_by (answers l now).given in
    let book : Book = (after_steps new_past steps).book in
    ends_book ended (confirms_if l.number c steps) ∙ ap (closed_if ended) (confirms_book l.number c steps) ∙ ap (λ (n : ℕ). closed_if ended (confirmed_if n c book)) h

-- THE CALLED LEG is served: what this leaves and tells
pub record Served (setup : Setup) (writes : Writing) (now : ℕ) (z : BothLegs) (endpoint : CallerEndpoint) (given : Option (List ℕ)) (told : Option Report) (left : Book) : Type 0 where
  pub called : IsCalled setup writes (serves writes now z).leg endpoint
  pub datagram : given ≡ told_called setup writes z.leg now
  pub report : told ≡ told_report writes z.leg now
  pub book : left ≡ book_of (serves writes now z)

outcome_is : (setup : Setup) (writes : Writing) (l : CalledLeg) (endpoint : CallerEndpoint) (now : ℕ) → IsCalled setup writes (Some (with_tick (calls writes l now) now l)) endpoint → outcome_of_rep endpoint.caller.procedure ≡ outcome_of (calls writes l now).core
outcome_is setup writes l endpoint now r =
    let p : Procedure = endpoint.caller.procedure in
    ap (λ (s : State). if◌then◌else◌ {A = Option Outcome} (is_over s) p.outcome None) r.core.follows.state
    ∙ ap (λ (o : Option Outcome). if◌then◌else◌ {A = Option Outcome} (is_over (calls writes l now).core.state) o None) r.core.follows.outcome

delivered_is : (setup : Setup) (writes : Writing) (l : CalledLeg) (endpoint : CallerEndpoint) (now : ℕ) → IsCalled setup writes (Some (with_tick (calls writes l now) now l)) endpoint → endpoint.caller.procedure.counts.delivered ≡ (calls writes l now).core.counts.delivered
delivered_is setup writes l endpoint now r = ap (λ (c : Counts). c.delivered) r.core.follows.counts

entered_book : (o : Option JobValue) (job : JobValue) (past : Past) (outcome : Outcome) (delivered : ℕ) → o ≡ Some job → (pasts.ended_if o past outcome delivered).book ≡ ended past.book outcome delivered
entered_book None job past outcome delivered e = cc
entered_book (Some j) job past outcome delivered e = refl

enters_book : (job : JobValue) (delivered : ℕ) (o : Option Outcome) (steps : List Step) → (after_steps new_past steps).book.sending ≡ Some job →
    (after_steps new_past (enters delivered o steps)).book ≡ ended_with o delivered (after_steps new_past steps).book
enters_book job delivered None steps e = refl
enters_book job delivered (Some outcome) steps e = let past : Past = after_steps new_past steps in entered_book past.book.sending job past outcome delivered e

report_is : (l : CalledLeg) (delivered : ℕ) (o : Option Outcome) → report_if (Some l.job) o delivered ≡ report_by l delivered o
report_is l delivered None = refl
report_is l delivered (Some outcome) = refl

-- a job is being sent
served_on : (setup : Setup) (writes : Writing) (now : ℕ) (steps : List Step) (l : CalledLeg) (endpoint : CallerEndpoint) (given : Option (List ℕ)) → l.entered ≡ false → (after_steps new_past steps).book.sending ≡ Some l.job
    → IsCalled setup writes (Some (with_tick (calls writes l now) now l)) endpoint → given ≡ told_by setup l.given (calls writes l now).given
    → Served setup writes now (record { steps = steps; leg = Some l }) endpoint given (report_if (Some l.job) (outcome_of_rep endpoint.caller.procedure) endpoint.caller.procedure.counts.delivered) (ended_with (outcome_of_rep endpoint.caller.procedure) endpoint.caller.procedure.counts.delivered (after_steps new_past steps).book)
served_on setup writes now steps l endpoint given on sending r told =
    let t : TickResult = calls writes l now in
    let o : Option Outcome = outcome_of t.core in
    let d : ℕ = t.core.counts.delivered in
    let book : Book = (after_steps new_past steps).book in
    let kept : Option Outcome = outcome_of_rep endpoint.caller.procedure in
    let outcome : kept ≡ o = outcome_is setup writes l endpoint now r in
    let delivered : endpoint.caller.procedure.counts.delivered ≡ d = delivered_is setup writes l endpoint now r in
    let entered : (if◌then◌else◌ {A = Option Outcome} l.entered None o) ≡ o = ap (λ (b : Bool). if◌then◌else◌ {A = Option Outcome} b None o) on in
    record {
      called = subst (λ (b : Bool). IsCalled setup writes (Some (if◌then◌else◌ {A = CalledLeg} b l (with_tick t now l))) endpoint) (sym on) r;
      datagram = told ∙ sym (ap (λ (b : Bool). if◌then◌else◌ {A = Option (List ℕ)} b None (told_by setup l.given t.given)) on);
      report =
          ap (λ (x : Option Outcome). report_if (Some l.job) x endpoint.caller.procedure.counts.delivered) outcome ∙ ap (report_if (Some l.job) o) delivered ∙ report_is l d o
          ∙ sym (ap (report_by l d) entered);
      book =
          ap (λ (x : Option Outcome). ended_with x endpoint.caller.procedure.counts.delivered book) outcome ∙ ap (λ (n : ℕ). ended_with o n book) delivered
          ∙ sym (enters_book l.job d o steps sending) ∙ sym (ap (λ (x : Option Outcome). (after_steps new_past (enters d x steps)).book) entered);
    }

-- no job is being sent
served_off : (setup : Setup) (writes : Writing) (now : ℕ) (steps : List Step) (leg : Option CalledLeg) (endpoint : CallerEndpoint) → is_free leg ≡ true → IsCalled setup writes leg endpoint
    → Served setup writes now (record { steps = steps; leg = leg }) endpoint None None (after_steps new_past steps).book
served_off setup writes now steps None endpoint off r = record { called = r; datagram = refl; report = refl; book = refl }
served_off setup writes now steps (Some l) endpoint off r =
    let t : TickResult = calls writes l now in
    let o : Option Outcome = outcome_of t.core in
    let entered : (if◌then◌else◌ {A = Option Outcome} l.entered None o) ≡ None = ap (λ (b : Bool). if◌then◌else◌ {A = Option Outcome} b None o) off in
    record {
      called = subst (λ (b : Bool). IsCalled setup writes (Some (if◌then◌else◌ {A = CalledLeg} b l (with_tick t now l))) endpoint) (sym off) r;
      datagram = sym (ap (λ (b : Bool). if◌then◌else◌ {A = Option (List ℕ)} b None (told_by setup l.given t.given)) off);
      report = sym (ap (report_by l t.core.counts.delivered) entered);
      book = sym (ap (λ (x : Option Outcome). (after_steps new_past (enters t.core.counts.delivered x steps)).book) entered);
    }

-- THE ORDER of a tick
pub sent_on : (b : Bool) (j job : JobValue) → (if◌then◌else◌ {A = Option JobValue} b None (Some j)) ≡ Some job → (b ≡ false) × (j ≡ job)
sent_on true j job e = cc
sent_on false j job e = (refl, cc)

pub sent_off : (leg : Option CalledLeg) → job_sent leg ≡ None → is_free leg ≡ true
sent_off None e = refl
sent_off (Some l) e = by l.entered e
  where
    by : (b : Bool) → (if◌then◌else◌ {A = Option JobValue} b None (Some l.job)) ≡ None → b ≡ true
    by true e = refl
    by false e = cc

pub same_served : (setup : Setup) (writes : Writing) (now : ℕ) (y z : BothLegs) (endpoint : CallerEndpoint) (given : Option (List ℕ)) (t told : Option Report) (l left : Book) → z ≡ y → told ≡ t → left ≡ l → Served setup writes now y endpoint given t l → Served setup writes now z endpoint given told left
same_served setup writes now y z endpoint given t told l left a b c h =
    subst (λ (x : BothLegs). Served setup writes now x endpoint given told left) (sym a) (subst (λ (r : Option Report). Served setup writes now y endpoint given r left) (sym b) (subst (λ (k : Book). Served setup writes now y endpoint given t k) (sym c) h))

abbrev steps_heard : Setup → Writing → List Event → ℕ → List Step
steps_heard setup writes trace at = heard_in_tick (calling_leg setup trace) (max at (clock trace)) (both_legs setup writes trace).steps

-- what the book is when it heard of the calling leg
abbrev pub IsHeard : Setup → List Event → ℕ → GatewayValue → Book → Type 0
IsHeard setup trace now old heard = heard ≡ closed_if (ended_on (calling_leg setup trace) now) (confirmed_if old.calling.number (confirmed_on (calling_leg setup trace) now) old.book)

heard_is : (setup : Setup) (writes : Writing) (trace : List Event) (at : ℕ) (old : GatewayValue) (heard : Book) → IsReachedBy setup writes trace old → IsHeard setup trace (max at (clock trace)) old heard → heard ≡ (after_steps new_past (steps_heard setup writes trace at)).book
heard_is setup writes trace at old heard r h =
    let now : ℕ = max at (clock trace) in
    let leg : Option CallingLeg = calling_leg setup trace in
    h ∙ ap (λ (b : Book). closed_if (ended_on leg now) (confirmed_if old.calling.number (confirmed_on leg now) b)) r.book ∙ sym (heard_book leg now old.calling.number (both_legs setup writes trace).steps r.calling.number)

sending_is : (setup : Setup) (writes : Writing) (trace : List Event) (at : ℕ) (old : GatewayValue) → IsReachedBy setup writes trace old → (after_steps new_past (steps_heard setup writes trace at)).book.sending ≡ old.book.sending
sending_is setup writes trace at old r = heard_sends (calling_leg setup trace) (max at (clock trace)) (both_legs setup writes trace).steps ∙ sym (ap (λ (b : Book). b.sending) r.book)

pub job_is : (setup : Setup) (writes : Writing) (trace : List Event) (old : GatewayValue) → IsReachedBy setup writes trace old → job_sent (both_legs setup writes trace).leg ≡ old.book.sending
job_is setup writes trace old r = let h : HaveStates setup writes trace = have_states setup writes trace r.is_trace in sym (ap (λ (b : Book). b.sending) r.book ∙ h.sending)

begins_none : (setup : Setup) (leg : Option CalledLeg) → is_free leg ≡ false → begins_next setup leg ≡ false
begins_none setup leg on = ap (λ (b : Bool). not setup.asks && b) on ∙ by setup.asks
  where
    by : (b : Bool) → (not b && false) ≡ false
    by true = refl
    by false = refl

-- where calls are asked for, no tick begins one
pub in_tick_at_rest : (setup : Setup) (writes : Writing) (trace : List Event) (at : ℕ) → setup.asks ≡ true → in_tick setup writes trace at ≡ record { steps = steps_heard setup writes trace at; leg = (both_legs setup writes trace).leg }
in_tick_at_rest setup writes trace at asks =
    let z : BothLegs = record { steps = steps_heard setup writes trace at; leg = (both_legs setup writes trace).leg } in
    ap (λ (b : Bool). if◌then◌else◌ {A = BothLegs} (not b && is_free z.leg) (sends true setup writes (max at (clock trace)) z) z) asks

pub serves_at_rest : (setup : Setup) (writes : Writing) (trace : List Event) (at : ℕ) (old : GatewayValue) (heard : Book) → setup.asks ≡ true → IsReachedBy setup writes trace old → old.book.sending ≡ None
    → IsHeard setup trace (max at (clock trace)) old heard → Served setup writes (max at (clock trace)) (in_tick setup writes trace at) old.called None None heard
serves_at_rest setup writes trace at old heard asks r none h =
    let now : ℕ = max at (clock trace) in
    let leg : Option CalledLeg = (both_legs setup writes trace).leg in
    let steps : List Step = steps_heard setup writes trace at in
    same_served setup writes now (record { steps = steps; leg = leg }) (in_tick setup writes trace at) old.called None None None (after_steps new_past steps).book heard
    (in_tick_at_rest setup writes trace at asks) refl (heard_is setup writes trace at old heard r h)
    (served_off setup writes now steps leg old.called (sent_off leg (job_is setup writes trace old r ∙ none)) r.called)

pub in_tick_on : (setup : Setup) (writes : Writing) (trace : List Event) (at : ℕ) (leg : Option CalledLeg) → (both_legs setup writes trace).leg ≡ leg → is_free leg ≡ false → in_tick setup writes trace at ≡ record { steps = steps_heard setup writes trace at; leg = leg }
in_tick_on setup writes trace at leg is on =
    let z : BothLegs = record { steps = steps_heard setup writes trace at; leg = (both_legs setup writes trace).leg } in
    ap (λ (b : Bool). if◌then◌else◌ {A = BothLegs} b (sends true setup writes (max at (clock trace)) z) z) (ap (λ (o : Option CalledLeg). begins_next setup o) is ∙ begins_none setup leg on) ∙ ap (λ (o : Option CalledLeg). record { steps = steps_heard setup writes trace at; leg = o }) is

-- a job is being sent
pub serves_on : (setup : Setup) (writes : Writing) (trace : List Event) (at : ℕ) (old : GatewayValue) (job : JobValue) (endpoint : CallerEndpoint) (given : Option (List ℕ)) (heard : Book) → IsReachedBy setup writes trace old → old.book.sending ≡ Some job
    → IsHeard setup trace (max at (clock trace)) old heard → ((l : CalledLeg) → (both_legs setup writes trace).leg ≡ Some l → l.entered ≡ false → l.job ≡ job → IsCalled setup writes (Some l) old.called → TicksOn setup writes l (max at (clock trace)) given endpoint)
    → Served setup writes (max at (clock trace)) (in_tick setup writes trace at) endpoint given (report_if (Some job) (outcome_of_rep endpoint.caller.procedure) endpoint.caller.procedure.counts.delivered)
    (ended_if (Some job) (outcome_of_rep endpoint.caller.procedure) endpoint.caller.procedure.counts.delivered heard)
serves_on setup writes trace at old job endpoint given heard r sending h f = by (both_legs setup writes trace).leg refl (job_is setup writes trace old r ∙ sending) r.called
  where
    o : Option Outcome
    o = outcome_of_rep endpoint.caller.procedure

    d : ℕ
    d = endpoint.caller.procedure.counts.delivered

    by : (leg : Option CalledLeg) → (both_legs setup writes trace).leg ≡ leg → job_sent leg ≡ Some job → IsCalled setup writes leg old.called
        → Served setup writes (max at (clock trace)) (in_tick setup writes trace at) endpoint given (report_if (Some job) o d) (ended_if (Some job) o d heard)
    by None is e c = cc
    by (Some l) is e c =
        let now : ℕ = max at (clock trace) in
        let steps : List Step = steps_heard setup writes trace at in
        let on = sent_on l.entered l.job job e in
        let t : TicksOn setup writes l now given endpoint = f l is on.0 on.1 c in
        let sent : (after_steps new_past steps).book.sending ≡ Some l.job = sending_is setup writes trace at old r ∙ sending ∙ sym (ap (λ (j : JobValue). Some j) on.1) in
        same_served setup writes now (record { steps = steps; leg = Some l }) (in_tick setup writes trace at) endpoint given (report_if (Some l.job) o d) (report_if (Some job) o d) (ended_with o d (after_steps new_past steps).book) (ended_with o d heard)
        (in_tick_on setup writes trace at (Some l) is on.0) (ap (λ (j : JobValue). report_if (Some j) o d) (sym on.1)) (ap (λ (b : Book). ended_with o d b) (heard_is setup writes trace at old heard r h))
        (served_on setup writes now steps l endpoint given on.0 sent t.called t.told)

-- no job is being sent: the one that was closed first is, where one waits
sends_free : (setup : Setup) (writes : Writing) (trace : List Event) (at : ℕ) → setup.asks ≡ false → is_free (both_legs setup writes trace).leg ≡ true → in_tick setup writes trace at ≡ sends true setup writes (max at (clock trace)) (record { steps = steps_heard setup writes trace at; leg = (both_legs setup writes trace).leg })
sends_free setup writes trace at asks free =
    let z : BothLegs = record { steps = steps_heard setup writes trace at; leg = (both_legs setup writes trace).leg } in
    ap (λ (b : Bool). if◌then◌else◌ {A = BothLegs} b (sends true setup writes (max at (clock trace)) z) z)
    (ap (λ (b : Bool). not b && is_free z.leg) asks ∙ free)

pub serves_off : (setup : Setup) (writes : Writing) (trace : List Event) (at : ℕ) (old : GatewayValue) (endpoint : CallerEndpoint) (given : Option (List ℕ)) (heard : Book) → setup.asks ≡ false → IsReachedBy setup writes trace old → old.book.sending ≡ None
    → IsHeard setup trace (max at (clock trace)) old heard → Begins setup writes (both_legs setup writes trace).leg (taken heard).sending (max at (clock trace)) given old.called endpoint
    → Served setup writes (max at (clock trace)) (in_tick setup writes trace at) endpoint given (report_if (taken heard).sending (outcome_of_rep endpoint.caller.procedure) endpoint.caller.procedure.counts.delivered)
    (ended_if (taken heard).sending (outcome_of_rep endpoint.caller.procedure) endpoint.caller.procedure.counts.delivered (taken heard))
serves_off setup writes trace at old endpoint given heard asks r none h begins = by (taken heard).sending refl begins
  where
    now : ℕ
    now = max at (clock trace)

    leg : Option CalledLeg
    leg = (both_legs setup writes trace).leg

    steps : List Step
    steps = Sends ∷ steps_heard setup writes trace at

    o : Option Outcome
    o = outcome_of_rep endpoint.caller.procedure

    d : ℕ
    d = endpoint.caller.procedure.counts.delivered

    free : is_free leg ≡ true
    free = sent_off leg (job_is setup writes trace old r ∙ none)

    book : (after_steps new_past steps).book ≡ taken heard
    book =
        let before : Book = (after_steps new_past (steps_heard setup writes trace at)).book in
        ap (λ (s : Option JobValue). sent_if s before) (sending_is setup writes trace at old r ∙ none) ∙ ap taken (sym (heard_is setup writes trace at old heard r h))

    in_it : (s : Option JobValue) → (taken heard).sending ≡ s → in_tick setup writes trace at ≡ record { steps = steps; leg = leg_of true s (core_left setup writes leg) now leg }
    in_it s e =
        sends_free setup writes trace at asks free ∙ ap (λ (x : Option JobValue). record { steps = steps; leg = leg_of true x (core_left setup writes leg) now leg }) (ap (λ (b : Book). b.sending) book ∙ e)

    by : (s : Option JobValue) → (taken heard).sending ≡ s → Begins setup writes leg s now given old.called endpoint → Served setup writes now (in_tick setup writes trace at) endpoint given (report_if s o d) (ended_if s o d (taken heard))
    by None e b =
        subst (λ (x : CallerEndpoint). Served setup writes now (in_tick setup writes trace at) x given None (taken heard)) (sym b.1)
        (subst (λ (x : Option (List ℕ)). Served setup writes now (in_tick setup writes trace at) old.called x None (taken heard)) (sym b.0)
        (same_served setup writes now (record { steps = steps; leg = leg }) (in_tick setup writes trace at) old.called None None None (after_steps new_past steps).book (taken heard) (in_it None e) refl (sym book)
        (served_off setup writes now steps leg old.called free r.called)))
    by (Some job) e b =
        let l : CalledLeg = begun_leg job (core_left setup writes leg) now in
        same_served setup writes now (record { steps = steps; leg = Some l }) (in_tick setup writes trace at) endpoint given (report_if (Some job) o d) (report_if (Some job) o d) (ended_with o d (after_steps new_past steps).book) (ended_with o d (taken heard))
        (in_it (Some job) e) refl (ap (λ (x : Book). ended_with o d x) (sym book)) (served_on setup writes now steps l endpoint given refl (ap (λ (x : Book). x.sending) book ∙ e) b.called b.told)

ticked_same : (setup : Setup) (leg : Option CallingLeg) (now at : ℕ) (given : Given) → ticked_on leg now ≡ calling_after setup leg now (Tick at given)
ticked_same setup None now at given = refl
ticked_same setup (Some l) now at given = refl

-- so a tick leads on
pub ticks : (setup : Setup) (writes : Writing) (trace : List Event) (at : ℕ) (given : Given) (old new : GatewayValue) → IsReachedBy setup writes trace old → new.clock ≡ max at old.clock → new.rings ≡ old.rings → new.settings ≡ old.settings
    → IsCalling setup (ticked_on (calling_leg setup trace) (max at (clock trace))) new.calling → given.on_calling ≡ told_calling setup (calling_leg setup trace) (max at (clock trace))
    → Served setup writes (max at (clock trace)) (in_tick setup writes trace at) new.called given.on_called given.report new.book
    → IsReachedBy setup writes (Tick at given ∷ trace) new
ticks setup writes trace at given old new r later rung set calling told s =
    let now : ℕ = max at (clock trace) in
    record {
      is_trace = (
        ap (λ (x : Option (List ℕ)). record { on_calling = x; on_called = given.on_called; report = given.report }) told
            ∙ ap (λ (x : Option (List ℕ)). record { on_calling = told_calling setup (calling_leg setup trace) now; on_called = x; report = given.report }) s.datagram
            ∙ ap (λ (x : Option Report). record { on_calling = told_calling setup (calling_leg setup trace) now; on_called = told_called setup writes (in_tick setup writes trace at).leg now; report = x }) s.report,
        r.is_trace,
      );
      at = later ∙ ap (λ (m : ℕ). max at m) r.at;
      set = subst (λ (x : Settings). HasSettings setup x) (sym set) r.set;
      rung = rung ∙ r.rung;
      calling = subst (λ (o : Option CallingLeg). IsCalling setup o new.calling) (ticked_same setup (calling_leg setup trace) now at given) calling;
      called = s.called;
      book = s.book;
    }
