-- What is told of a call that is over.
use Rattle.std.proofs.Common.{◌≡◌, ℕ, Bool, true, false, List, [], ◌∷◌, length, Some, None, inl, inr, refl, sym, ◌∙◌, ap, subst, if◌then◌else◌}
use Rattle.fax_frames.specs.Frames.{frame_of}
use Rattle.fax_timers.specs.Moments.{is_due}
use Rattle.fax_timers.specs.Paces.{pace_allows}
use Rattle.fax_ifp.specs.Pieces as pieces
use Rattle.fax_jobs.specs.declared.outcome.Outcome.{Outcome}
use Rattle.fax_jobs.specs.Jobs.{JobValue, IsJob}
use Rattle.fax_call.specs.declared.state.State.{State}
use Rattle.fax_call.specs.declared.state.State.TheVariants.{Idle, AwaitDis, AwaitCfr, AwaitMcf, Closing}
use Rattle.fax_call.specs.Writings.{Writing}
use Rattle.fax_call.specs.Replies.{Due, waits, turn_after}
use Rattle.fax_call.specs.Table.{Stays, on_frame, on_timers}
use Rattle.fax_call.specs.Calls.{CallerCore, started, moved, came, timed, given_first, paced, ticked, TickResult, CallEvent, Comes, Ticks, after_events}
use Rattle.fax_call.specs.Emission.{Mark, Begins, elements_given, marks_heard, marks_given, marks_after}
use Rattle.fax_call.specs.Delivery.{AtTheLastMoment, is_over, marks_until_over, TellsWhatWasAnswered}
use Rattle.fax_call.proofs.Waiting.{Texts}
use Rattle.fax_call.proofs.Emitted.{Good, elements_ack, comes_good, timed_good, paced_good, start_good}
use Rattle.fax_call.proofs.Tally.{Final, IsAcked, TallyOf, Tally, comes_tally, ticked_tally, start_tally}
use Rattle.fax_call.proofs.Answered.{StateOf, Counted, Timed, is_on, counted_too, comes_counted, ticked_counted, start_counted, comes_timed, ticked_timed}
use Rattle.fax_call.proofs.Unanswered.{IsAsking, comes_open, ticked_open}
use Rattle.fax_call.proofs.Paged.{pages_told}

-- what is known in a call: `marks` are all of it, and `until` those until it was over
record Sound (texts : Texts) (job : JobValue) (a : CallerCore) (events : List CallEvent) (marks until : List Mark) : Type 0 where
  good : Good texts job a marks
  timed_so : Timed a
  tally : Tally job a until
  counted : Counted (AtTheLastMoment events) a until
  asks : IsAsking (AtTheLastMoment events) until
  same : is_over a.state ≡ false → until ≡ marks
  silent : elements_given marks ≡ elements_given until

-- a call that is over stays as it is
pub over_is_idle : (state : State) → is_over state ≡ true → state ≡ Idle
over_is_idle Idle h = refl
over_is_idle AwaitDis h = cc
over_is_idle (AwaitCfr dis dcs) h = cc
over_is_idle (AwaitMcf dis dcs) h = cc
over_is_idle (Closing x) h = cc

nothing_waits : (L : Type 0) (a : CallerCore) (marks : List Mark) → a.state ≡ Idle → Counted L a marks → a.waiting ≡ []
nothing_waits L a marks e s = (subst (λ (state : State). StateOf L state a.waiting a.counts.delivered marks a.outcome) e s).3

comes_idle : (a : CallerCore) (piece : pieces.Piece) (now : ℕ) → a.state ≡ Idle → a.waiting ≡ [] → came a piece now ≡ a
comes_idle a (pieces.Frame octets) now e w =
    ap (λ (due : List Due). moved a (if waits due then Stays else on_frame now a.format (turn_after a.formats a.counts.page) a.pages a.state a.counts (frame_of octets))) w
    ∙ ap (λ (state : State). moved a (on_frame now a.format (turn_after a.formats a.counts.page) a.pages state a.counts (frame_of octets))) e
comes_idle a (pieces.Start k) now e w = refl
comes_idle a (pieces.Octets os) now e w = refl
comes_idle a (pieces.End whole) now e w = refl
comes_idle a pieces.Gap now e w = refl

nothing_given : CallerCore → TickResult
nothing_given a = record { core = a; given = None }

ticks_idle : (writes : Writing) (job : JobValue) (a : CallerCore) (now : ℕ) → a.state ≡ Idle → a.waiting ≡ [] → ticked writes job a now ≡ record { core = a; given = None }
ticks_idle writes job a now e w =
    ap (λ (due : List Due). paced writes job (moved a (if waits due then Stays else on_timers (is_due a.t1 now) (is_due a.t4 now) a.state a.counts)) now) w
    ∙ ap (λ (state : State). paced writes job (moved a (on_timers (is_due a.t1 now) (is_due a.t4 now) state a.counts)) now) e
    ∙ ap (λ (due : List Due). if◌then◌else◌ {A = TickResult} (pace_allows a.pace.last now) (given_first writes job a now due) (record { core = a; given = None })) w
    ∙ by (pace_allows a.pace.last now)
  where
    by : (t : Bool) → if◌then◌else◌ {A = TickResult} t (record { core = a; given = None }) (record { core = a; given = None }) ≡ record { core = a; given = None }
    by true = refl
    by false = refl

elements_heard : (piece : pieces.Piece) (marks : List Mark) → elements_given (marks_heard piece marks) ≡ elements_given marks
elements_heard (pieces.Frame octets) marks = elements_ack (frame_of octets) marks
elements_heard (pieces.Start k) marks = refl
elements_heard (pieces.Octets os) marks = refl
elements_heard (pieces.End whole) marks = refl
elements_heard pieces.Gap marks = refl

sound_comes : (texts : Texts) (job : JobValue) (a : CallerCore) (piece : pieces.Piece) (now : ℕ) (events : List CallEvent) (marks until : List Mark) → Sound texts job a events marks until →
    Sound texts job (came a piece now) (Comes piece now ∷ events) (marks_heard piece marks) (if is_over a.state then until else marks_heard piece marks)
sound_comes texts job a piece now events marks until s = by (is_over a.state) refl
  where
    L : Type 0
    L = AtTheLastMoment events

    by : (over : Bool) → is_over a.state ≡ over → Sound texts job (came a piece now) (Comes piece now ∷ events) (marks_heard piece marks) (if over then until else marks_heard piece marks)
    by true h =
        let e : a.state ≡ Idle = over_is_idle a.state h in
        let stays : a ≡ came a piece now = sym (comes_idle a piece now e (nothing_waits (AtTheLastMoment events) a until e s.counted)) in
        record {
          good = comes_good texts job a piece now marks s.good;
          timed_so = comes_timed a piece now s.timed_so;
          tally = subst (λ (c : CallerCore). Tally job c until) stays s.tally;
          counted = subst (λ (c : CallerCore). Counted (AtTheLastMoment events) c until) stays s.counted;
          asks = s.asks;
          same = λ o. let q : true ≡ false = sym h ∙ ap (λ (c : CallerCore). is_over c.state) stays ∙ o in cc;
          silent = elements_heard piece marks ∙ s.silent;
        }
    by false h =
        let t : Tally job a marks = subst (λ (ms : List Mark). Tally job a ms) (s.same h) s.tally in
        let c : Counted (AtTheLastMoment events) a marks = subst (λ (ms : List Mark). Counted (AtTheLastMoment events) a ms) (s.same h) s.counted in
        let k : IsAsking (AtTheLastMoment events) marks = subst (λ (ms : List Mark). IsAsking (AtTheLastMoment events) ms) (s.same h) s.asks in
        record {
          good = comes_good texts job a piece now marks s.good;
          timed_so = comes_timed a piece now s.timed_so;
          tally = comes_tally texts job a piece now marks s.good t;
          counted = comes_counted (AtTheLastMoment events) a piece now marks (is_on (AtTheLastMoment events) a marks h c);
          asks = comes_open (AtTheLastMoment events) piece marks k;
          same = λ o. refl;
          silent = refl;
        }

asks_too : (L M : Type 0) (f : L → M) (marks : List Mark) → IsAsking L marks → IsAsking M marks
asks_too L M f marks (inl k) = inl k
asks_too L M f marks (inr l) = inr (f l)

sound_ticks : (texts : Texts) (job : JobValue) (a : CallerCore) (now : ℕ) (events : List CallEvent) (marks until : List Mark) → IsJob job → Sound texts job a events marks until →
    Sound texts job (ticked texts.writes job a now).core (Ticks now ∷ events) (marks_given (ticked texts.writes job a now).given marks)
    (if is_over a.state then until else marks_given (ticked texts.writes job a now).given marks)
sound_ticks texts job a now events marks until is s = by (is_over a.state) refl
  where
    good : Good texts job (ticked texts.writes job a now).core (marks_given (ticked texts.writes job a now).given marks)
    good = paced_good texts job (timed a now) now marks is (timed_good texts job a now marks s.good)

    by : (over : Bool) → is_over a.state ≡ over →
        Sound texts job (ticked texts.writes job a now).core (Ticks now ∷ events) (marks_given (ticked texts.writes job a now).given marks)
        (if over then until else marks_given (ticked texts.writes job a now).given marks)
    by true h =
        let L : Type 0 = AtTheLastMoment events in
        let M : Type 0 = AtTheLastMoment (Ticks now ∷ events) in
        let e : a.state ≡ Idle = over_is_idle a.state h in
        let none : ticked texts.writes job a now ≡ record { core = a; given = None } = ticks_idle texts.writes job a now e (nothing_waits L a until e s.counted) in
        let stays : a ≡ (ticked texts.writes job a now).core = sym (ap (λ (t : TickResult). t.core) none) in
        record {
          good = good;
          timed_so = ticked_timed texts job a now s.timed_so;
          tally = subst (λ (c : CallerCore). Tally job c until) stays s.tally;
          counted = subst (λ (c : CallerCore). Counted M c until) stays (counted_too L M (λ l. inr l) a until s.counted);
          asks = asks_too L M (λ l. inr l) until s.asks;
          same = λ o. let q : true ≡ false = sym h ∙ ap (λ (c : CallerCore). is_over c.state) stays ∙ o in cc;
          silent = ap (λ (t : TickResult). elements_given (marks_given t.given marks)) none ∙ s.silent;
        }
    by false h =
        let L : Type 0 = AtTheLastMoment events in
        let M : Type 0 = AtTheLastMoment (Ticks now ∷ events) in
        let t : Tally job a marks = subst (λ (ms : List Mark). Tally job a ms) (s.same h) s.tally in
        let c : Counted L a marks = subst (λ (ms : List Mark). Counted L a ms) (s.same h) s.counted in
        let k : IsAsking L marks = subst (λ (ms : List Mark). IsAsking L ms) (s.same h) s.asks in
        let on = is_on M a marks h (counted_too L M (λ l. inr l) a marks c) in
        record {
          good = good;
          timed_so = ticked_timed texts job a now s.timed_so;
          tally = ticked_tally texts job a now marks s.good t;
          counted = ticked_counted M texts job a now marks (λ x. inl x) s.good s.timed_so on;
          asks = ticked_open M texts job a now marks (λ x. inl x) s.good s.timed_so on (asks_too L M (λ l. inr l) marks k);
          same = λ o. refl;
          silent = refl;
        }

sound_start : (texts : Texts) (job : JobValue) (old : List Mark) (core : CallerCore) (start : ℕ) → IsJob job → Sound texts job (started core job start) [] (Begins ∷ old) (Begins ∷ old)
sound_start texts job old core start is =
    record {
      good = start_good texts job old core start is;
      timed_so = tt;
      tally = start_tally job old core start is;
      counted = start_counted (AtTheLastMoment []) job old core start;
      asks = inl tt;
      same = λ o. refl;
      silent = refl;
    }

sound : (texts : Texts) (job : JobValue) (old : List Mark) (a : CallerCore) (events : List CallEvent) → IsJob job → Sound texts job a [] (Begins ∷ old) (Begins ∷ old) →
    Sound texts job (after_events texts.writes job a events) events (marks_after texts.writes job old a events) (marks_until_over texts.writes job old a events)
sound texts job old a [] is s = s
sound texts job old a (Comes piece now ∷ before) is s =
    sound_comes texts job (after_events texts.writes job a before) piece now before (marks_after texts.writes job old a before) (marks_until_over texts.writes job old a before) (sound texts job old a before is s)
sound texts job old a (Ticks now ∷ before) is s =
    sound_ticks texts job (after_events texts.writes job a before) now before (marks_after texts.writes job old a before) (marks_until_over texts.writes job old a before) is (sound texts job old a before is s)

pub tells_what_was_answered : TellsWhatWasAnswered
tells_what_was_answered writes job old core start events w is e =
    let texts : Texts = record { writes = writes; are = w } in
    let begun : CallerCore = started core job start in
    let over : CallerCore = after_events writes job begun events in
    let marks : List Mark = marks_until_over writes job old begun events in
    let n : ℕ = over.counts.delivered in
    let s : Sound texts job over events (marks_after writes job old begun events) marks = sound texts job old begun events is (sound_start texts job old core start is) in
    let c : StateOf (AtTheLastMoment events) Idle over.waiting n marks over.outcome = subst (λ (p : State). StateOf (AtTheLastMoment events) p over.waiting n marks over.outcome) e s.counted in
    let t : TallyOf job Idle over.pages over.counts over.outcome over.waiting marks = subst (λ (p : State). TallyOf job p over.pages over.counts over.outcome over.waiting marks) e s.tally in
    let k : IsAcked job n marks = t.1.1 in
    let outcome : Outcome = c.0 in
    let q : Some t.0.0 ≡ Some outcome = sym t.0.1 ∙ c.1 in
    let one : t.0.0 ≡ outcome = cc in
    let f : Final outcome (length job.pages) over.counts =
    subst (λ (x : Outcome). Final x (length job.pages) over.counts) one (subst (λ (pages : ℕ). Final t.0.0 pages over.counts) s.good.kept.same_pages t.0.2) in (
      outcome,
      c.1,
      record {
        last = k.last;
        emits = k.emits;
        after = k.after;
        counts = c.2;
        pages = pages_told job marks k.last outcome n events k.emits k.after c.2;
        asks = s.asks;
        most = f.most;
        all_if = f.all_if;
        if_all = f.if_all;
      },
      s.silent,
    )
