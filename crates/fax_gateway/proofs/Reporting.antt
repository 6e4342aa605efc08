-- Each report is of the job that was being sent, and tells what was delivered of it.
use Rattle.std.proofs.Common.{◌≡◌, ℕ, ◌<◌, ◌≤◌, max, Bool, true, false, List, [], ◌∷◌, ◌++◌, inl, length, Option, Some, None, option_map, refl, sym, ◌∙◌, ap, subst, arith, if◌then◌else◌}
use Rattle.fax_frames.specs.declared.frame.Frame.{Frame}
use Rattle.fax_frames.specs.declared.frame.Frame.TheVariants as frames
use Rattle.fax_frames.specs.Frames.{frame_of}
use Rattle.fax_ifp.specs.Elements as elements
use Rattle.fax_ifp.specs.Packets.{packet_of}
use Rattle.fax_ifp.specs.Pieces as pieces
use Rattle.fax_pagestore.specs.Pages.{PageValue}
use Rattle.fax_jobs.specs.declared.outcome.Outcome.{Outcome}
use Rattle.fax_jobs.specs.declared.outcome.Outcome.TheVariants.{NotPlaced}
use Rattle.fax_jobs.specs.declared.report.Report.{Report}
use Rattle.fax_jobs.specs.Jobs.{JobValue, IsJob}
use Rattle.fax_jobs.specs.Books.{Book, report_of}
use Rattle.fax_call.specs.declared.state.State.{State}
use Rattle.fax_call.specs.declared.state.State.TheVariants.{Idle, AwaitDis, AwaitCfr, AwaitMcf, Closing}
use Rattle.fax_call.specs.Writings.{Writing, IsWriting}
use Rattle.fax_call.specs.Replies.{Packet, written}
use Rattle.fax_call.specs.Calls.{CallerCore, not_placed, TickResult, ticked, CallEvent, Comes, Ticks, after_events}
use Rattle.fax_call.specs.Emission.{Mark, Gave, Acknowledged, Refused, Begins, gave_all, elements_given, acknowledged_by, marks_heard, marks_given, marks_after}
use Rattle.fax_call.specs.Delivery.{is_over, marks_until_over, IsTold}
use Rattle.fax_call.proofs.Told.{tells_what_was_answered}
use Rattle.fax_gateway.specs.Events.{Event, Tick, Given, clock}
use Rattle.fax_gateway.specs.CalledLegs.{CalledLeg, begun_core, calls, outcome_of, with_tick, leg_ticked, report_by, told_report}
use Rattle.fax_gateway.specs.BothLegs.{BothLegs, book_of, both_legs, in_tick}
use Rattle.fax_gateway.specs.Told.{leg_marks, marks_before}
use Rattle.fax_gateway.specs.Forwards.{WasConfirmed}
use Rattle.fax_gateway.specs.ReportsTold.{AreHeard, IsReported, ReportsTheJob}
use Rattle.fax_gateway.proofs.Held.{IfHolds, held}
use Rattle.fax_gateway.proofs.Confirmed.{tick_holds}
use Rattle.fax_gateway.proofs.InCalls.{InCall, IfInCall, before_call, in_call}
use Rattle.fax_gateway.proofs.Unplaced.{as_begun, begun_unplaced, from_begun, stays_over, ticks_over}

-- what a call heard and gave after its end
abbrev NoBegins : List Mark → Type 0
NoBegins [] = Unit {0}
NoBegins (Gave e ∷ marks) = NoBegins marks
NoBegins (Acknowledged ∷ marks) = NoBegins marks
NoBegins (Refused ∷ marks) = NoBegins marks
NoBegins (Begins ∷ marks) = ⊥

record After (until all : List Mark) : Type 0 where
  later : List Mark
  begins_none : NoBegins later
  all_is : all ≡ later ++ until

nothing : (until : List Mark) → After until until
nothing until = record { later = []; begins_none = tt; all_is = refl }

after_frame : (until : List Mark) (o : Option Frame) (all : List Mark) → After until all → After until (acknowledged_by o all)
after_frame until None all b = b
after_frame until (Some frames.Mcf) all b = record { later = Acknowledged ∷ b.later; begins_none = b.begins_none; all_is = ap (λ (ms : List Mark). Acknowledged ∷ ms) b.all_is }
after_frame until (Some frames.Rtp) all b = record { later = Acknowledged ∷ b.later; begins_none = b.begins_none; all_is = ap (λ (ms : List Mark). Acknowledged ∷ ms) b.all_is }
after_frame until (Some frames.Rtn) all b = record { later = Refused ∷ b.later; begins_none = b.begins_none; all_is = ap (λ (ms : List Mark). Refused ∷ ms) b.all_is }
after_frame until (Some frame) all b = b

after_piece : (until : List Mark) (p : pieces.Piece) (all : List Mark) → After until all → After until (marks_heard p all)
after_piece until (pieces.Frame octets) all b = after_frame until (frame_of octets) all b
after_piece until (pieces.Start kind) all b = b
after_piece until (pieces.Octets octets) all b = b
after_piece until (pieces.End whole) all b = b
after_piece until pieces.Gap all b = b

after_all : (until : List Mark) (es : List elements.Element) (all : List Mark) → After until all → After until (gave_all es all)
after_all until [] all b = b
after_all until (e ∷ es) all b =
    after_all until es (Gave e ∷ all) (record { later = Gave e ∷ b.later; begins_none = b.begins_none; all_is = ap (λ (ms : List Mark). Gave e ∷ ms) b.all_is })

after_given : (until : List Mark) (o : Option Packet) (all : List Mark) → After until all → After until (marks_given o all)
after_given until None all b = b
after_given until (Some packet) all b = after_all until (elements.elements_in (packet_of (written packet))) all b

after_event : (writes : Writing) (job : JobValue) (old until : List Mark) (a : CallerCore) (e : CallEvent) (before : List CallEvent) → After until (marks_after writes job old a before) → After until (marks_after writes job old a (e ∷ before))
after_event writes job old until a (Comes piece now) before b = after_piece until piece (marks_after writes job old a before) b
after_event writes job old until a (Ticks now) before b = after_given until (ticked writes job (after_events writes job a before) now).given (marks_after writes job old a before) b

after_end : (writes : Writing) (job : JobValue) (old : List Mark) (a : CallerCore) (events : List CallEvent) → After (marks_until_over writes job old a events) (marks_after writes job old a events)
after_end writes job old a [] = nothing (Begins ∷ old)
after_end writes job old a (e ∷ before) = by (is_over (after_events writes job a before).state) (after_end writes job old a before)
  where
    by : (t : Bool) → After (marks_until_over writes job old a before) (marks_after writes job old a before) → After (if◌then◌else◌ {A = List Mark} t (marks_until_over writes job old a before) (marks_after writes job old a (e ∷ before))) (marks_after writes job old a (e ∷ before))
    by true rest = after_event writes job old (marks_until_over writes job old a before) a e before rest
    by false rest = nothing (marks_after writes job old a (e ∷ before))

longer : (later until : List Mark) → length (elements_given until) ≤ length (elements_given (later ++ until))
longer [] until = omega arith
longer (Gave e ∷ later) until = let l : length (elements_given until) ≤ length (elements_given (later ++ until)) = longer later until in omega arith
longer (Acknowledged ∷ later) until = longer later until
longer (Refused ∷ later) until = longer later until
longer (Begins ∷ later) until = longer later until

are_heard : (later until : List Mark) → NoBegins later → elements_given (later ++ until) ≡ elements_given until → AreHeard later
are_heard [] until n e = tt
are_heard (Gave x ∷ later) until n e =
    let l : length (elements_given until) ≤ length (elements_given (later ++ until)) = longer later until in
    let k : length (elements_given (Gave x ∷ (later ++ until))) ≡ length (elements_given until) = ap (λ (es : List elements.Element). length es) e in
    absurd (omega arith)
are_heard (Acknowledged ∷ later) until n e = are_heard later until n e
are_heard (Refused ∷ later) until n e = are_heard later until n e
are_heard (Begins ∷ later) until n e = absurd n

-- a call that is over
over_idle : (state : State) → is_over state ≡ true → state ≡ Idle
over_idle Idle h = refl
over_idle AwaitDis h = cc
over_idle (AwaitCfr dis dcs) h = cc
over_idle (AwaitMcf dis dcs) h = cc
over_idle (Closing x) h = cc

ended_so : (b : Bool) (o : Option Outcome) (outcome : Outcome) → (if◌then◌else◌ {A = Option Outcome} b o None) ≡ Some outcome → (b ≡ true) × (o ≡ Some outcome)
ended_so true o outcome e = (refl, e)
ended_so false o outcome e = cc

same_outcome : (o : Option Outcome) (x y : Outcome) → o ≡ Some x → o ≡ Some y → x ≡ y
same_outcome o x y e f = let q : Some x ≡ Some y = sym e ∙ f in cc

-- what is told of a call that is over, whether it was placed or not
abbrev ToldIn : Writing → CalledLeg → List Mark → List CallEvent → CallerCore → Type 0
ToldIn writes l old events a =
    let over : CallerCore = after_events writes l.job a events in
    let marks : List Mark = marks_until_over writes l.job old a events in
    (outcome : Outcome) × (over.outcome ≡ Some outcome) × IsTold l.job outcome over.counts.delivered events marks × (elements_given (marks_after writes l.job old a events) ≡ elements_given marks)

-- one that was not placed gave nothing, and nothing was heard in it while it was on
none_until : (writes : Writing) (a : CallerCore) (job : JobValue) (old : List Mark) (events : List CallEvent) → marks_until_over writes job old (not_placed a job) events ≡ Begins ∷ old
none_until writes a job old [] = refl
none_until writes a job old (e ∷ before) =
    ap (λ (c : CallerCore). if◌then◌else◌ {A = List Mark} (is_over c.state) (marks_until_over writes job old (not_placed a job) before) (marks_after writes job old (not_placed a job) (e ∷ before))) (stays_over writes a job before)
    ∙ none_until writes a job old before

heard_gives_none : (p : pieces.Piece) (marks : List Mark) → elements_given (marks_heard p marks) ≡ elements_given marks
heard_gives_none (pieces.Frame octets) marks = by (frame_of octets)
  where
    by : (o : Option Frame) → elements_given (acknowledged_by o marks) ≡ elements_given marks
    by None = refl
    by (Some frames.Mcf) = refl
    by (Some frames.Rtp) = refl
    by (Some frames.Rtn) = refl
    by (Some frame) = refl
heard_gives_none (pieces.Start kind) marks = refl
heard_gives_none (pieces.Octets octets) marks = refl
heard_gives_none (pieces.End whole) marks = refl
heard_gives_none pieces.Gap marks = refl

none_after : (writes : Writing) (a : CallerCore) (job : JobValue) (old : List Mark) (events : List CallEvent) → elements_given (marks_after writes job old (not_placed a job) events) ≡ elements_given (Begins ∷ old)
none_after writes a job old [] = refl
none_after writes a job old (Comes piece now ∷ before) = heard_gives_none piece (marks_after writes job old (not_placed a job) before) ∙ none_after writes a job old before
none_after writes a job old (Ticks now ∷ before) =
    ap (λ (c : CallerCore). elements_given (marks_given (ticked writes job c now).given (marks_after writes job old (not_placed a job) before))) (stays_over writes a job before)
    ∙ ap (λ (t : TickResult). elements_given (marks_given t.given (marks_after writes job old (not_placed a job) before))) (ticks_over writes a job now)
    ∙ none_after writes a job old before

some_pages : (job : JobValue) → IsJob job → 0 ≡ length job.pages → ⊥
some_pages job is e = let some : 0 < length job.pages = is.some in omega (arith, some, e)

unplaced_told : (writes : Writing) (l : CalledLeg) (old : List Mark) (events : List CallEvent) → IsJob l.job → ToldIn writes l old events (not_placed l.before l.job)
unplaced_told writes l old events is =
    let a : CallerCore = not_placed l.before l.job in
    let begins : IsTold l.job NotPlaced 0 events (Begins ∷ old) =
    record {
      last = None;
      emits = tt;
      after = refl;
      counts = inl refl;
      pages = inl refl;
      asks = inl tt;
      most = omega arith;
      all_if = λ e. cc;
      if_all = λ e. absurd (some_pages l.job is e);
    } in
    let until = sym (none_until writes l.before l.job old events) in (
      NotPlaced,
      ap (λ (c : CallerCore). c.outcome) (stays_over writes l.before l.job events),
      subst (λ (marks : List Mark). IsTold l.job NotPlaced (after_events writes l.job a events).counts.delivered events marks) until
          (subst (λ (c : CallerCore). IsTold l.job NotPlaced c.counts.delivered events (Begins ∷ old)) (sym (stays_over writes l.before l.job events)) begins),
      none_after writes l.before l.job old events ∙ ap elements_given until,
    )

told_in : (writes : Writing) (l : CalledLeg) (old : List Mark) (events : List CallEvent) → IsWriting writes → IsJob l.job → (after_events writes l.job (begun_core l) events).state ≡ Idle → ToldIn writes l old events (begun_core l)
told_in writes l old events w is over = by l.placed refl
  where
    by : (b : Bool) → l.placed ≡ b → ToldIn writes l old events (begun_core l)
    by true placed =
        as_begun (ToldIn writes l old events) l placed
        (tells_what_was_answered writes l.job old l.before l.begun events w is (from_begun (λ (a : CallerCore). (after_events writes l.job a events).state ≡ Idle) l placed over))
    by false unplaced = subst (ToldIn writes l old events) (sym (begun_unplaced l unplaced)) (unplaced_told writes l old events is)

-- the call of the job ends in this tick
ends_here : (writes : Writing) (now : ℕ) (l : CalledLeg) (book : Book) (after : Option JobValue) (marks : List Mark) (outcome : Outcome) → IsWriting writes → IsJob l.job → book.sending ≡ Some l.job →
    InCall writes (with_tick (calls writes l now) now l) after marks → outcome_of (calls writes l now).core ≡ Some outcome →
    IsReported book (Some (with_tick (calls writes l now) now l)) marks (report_of l.job outcome (calls writes l now).core.counts.delivered)
ends_here writes now l book after marks outcome w is s i e =
    let core : CallerCore = (calls writes l now).core in
    let events : List CallEvent = Ticks now ∷ l.events in
    let p = ended_so (is_over core.state) core.outcome outcome e in
    let r = told_in writes l i.old events w is (over_idle core.state p.0) in
    let until : List Mark = marks_until_over writes l.job i.old (begun_core l) events in
    let b : After until (marks_after writes l.job i.old (begun_core l) events) = after_end writes l.job i.old (begun_core l) events in
    record {
      l = with_tick (calls writes l now) now l;
      is_leg = refl;
      is_sending = s;
      call = refl;
      format = refl;
      pages = refl;
      until = until;
      later = b.later;
      are_heard = are_heard b.later until b.begins_none (ap elements_given (sym b.all_is) ∙ r.3);
      marks_are = i.marks_are ∙ b.all_is;
      told = subst (λ (x : Outcome). IsTold l.job x core.counts.delivered events until) (same_outcome core.outcome r.0 outcome r.1 p.1) r.2;
    }

by_leg : (writes : Writing) (now : ℕ) (leg : Option CalledLeg) (book : Book) (P : ℕ → PageValue → Type 0) (old marks : List Mark) (after : Option JobValue) (report : Report) → IsWriting writes →
    IfHolds P book.sending → IfInCall writes leg book.sending old → IfInCall writes (option_map (leg_ticked writes now) leg) after marks → told_report writes leg now ≡ Some report →
    IsReported book (option_map (leg_ticked writes now) leg) marks report
by_leg writes now None book P old marks after report w h i j e = cc
by_leg writes now (Some l) book P old marks after report w h i j e = by l.entered i.sends j e
  where
    core : CallerCore
    core = (calls writes l now).core

    ended : (o : Option Outcome) → outcome_of (calls writes l now).core ≡ o → book.sending ≡ Some l.job → InCall writes (with_tick (calls writes l now) now l) after marks →
        report_by l (calls writes l now).core.counts.delivered o ≡ Some report → IsReported book (Some (with_tick (calls writes l now) now l)) marks report
    ended None f s k e = cc
    ended (Some outcome) f s k e =
        let same : report_of l.job outcome (calls writes l now).core.counts.delivered ≡ report = cc in
        subst (IsReported book (Some (with_tick (calls writes l now) now l)) marks) same (ends_here writes now l book after marks outcome w (subst (IfHolds P) s h).is_job s k f)

    by : (b : Bool) → book.sending ≡ (if◌then◌else◌ {A = Option JobValue} b None (Some l.job)) →
        InCall writes (if◌then◌else◌ {A = CalledLeg} b l (with_tick (calls writes l now) now l)) after marks →
        report_by l (calls writes l now).core.counts.delivered (if◌then◌else◌ {A = Option Outcome} b None (outcome_of (calls writes l now).core)) ≡ Some report →
        IsReported book (Some (if◌then◌else◌ {A = CalledLeg} b l (with_tick (calls writes l now) now l))) marks report
    by true s k e = cc
    by false s k e = ended (outcome_of (calls writes l now).core) refl s k e

pub reports_the_job : ReportsTheJob
reports_the_job setup writes earlier at given report w t e =
    let now : ℕ = max at (clock earlier) in
    let z : BothLegs = in_tick setup writes earlier at in
    let trace : List Event = Tick at given ∷ earlier in
    let old : List Mark = leg_marks setup writes earlier in
    by_leg writes now z.leg (book_of z) (WasConfirmed setup trace) (marks_before setup writes earlier at old) (leg_marks setup writes trace) (book_of (both_legs setup writes trace)).sending report w
    (held (WasConfirmed setup trace) z.steps (tick_holds setup writes earlier at given t)).sending
    (before_call setup writes earlier at old (in_call setup writes earlier t.1)) (in_call setup writes trace t) (sym (ap (λ (g : Given). g.report) t.0) ∙ e)
