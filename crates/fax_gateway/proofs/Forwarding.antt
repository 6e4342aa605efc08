-- Each image that a tick ends on the called leg is a page that an earlier tick confirmed, in the order of the answers.
use Rattle.std.proofs.Common.{◌≡◌, ℕ, max, Bool, true, false, List, [], ◌∷◌, length, Option, Some, None, refl, sym, ◌∙◌, ap, subst, arith, if◌then◌else◌}
use Rattle.fax_bits.specs.Bits as bits
use Rattle.fax_timers.specs.Paces.{pace_allows}
use Rattle.fax_ifp.specs.declared.codes.Indicator.TheVariants.{Cng}
use Rattle.fax_ifp.specs.Codes.{indicator_code}
use Rattle.fax_ifp.specs.Elements as elements
use Rattle.fax_ifp.specs.Packets as packets
use Rattle.fax_ifp.specs.Packets.{packet_of}
use Rattle.fax_jobs.specs.Jobs.{JobValue, IsJob}
use Rattle.fax_jobs.specs.Books.{Book}
use Rattle.fax_call.specs.Writings.{Writing, IsWriting}
use Rattle.fax_call.specs.Replies.{Packet, Signals, written, calling_tone}
use Rattle.fax_call.specs.Calls.{CallerCore, started, TickResult, given_first, Ticks}
use Rattle.fax_call.specs.Emission.{Emission, Mark, Gave, emitted_at, elements_given, gave_all, marks_given, marks_after, IsPageOf, IsAnswered, replied, EmitsBy, Emits}
use Rattle.fax_gateway.specs.Setups.{Setup}
use Rattle.fax_gateway.specs.Events.{Event, Given, clock}
use Rattle.fax_gateway.specs.Legs.{sent}
use Rattle.fax_gateway.specs.CallingLegs.{calling_leg}
use Rattle.fax_gateway.specs.CalledLegs.{CalledLeg, begun_core, core_of, is_free, core_left, begun_leg, calls, told_by, told_called}
use Rattle.fax_gateway.specs.BothLegs.{BothLegs, begins_next, book_of, heard_in_tick, leg_of, sends, sends_if, both_legs, in_tick}
use Rattle.fax_gateway.specs.Told.{elements_told, leg_marks, begun_if, marks_before, IfEmits, EachEmission}
use Rattle.fax_gateway.specs.Forwards.{WasConfirmed, IsForwarded, ForwardsWhatItConfirmed}
use Rattle.fax_gateway.proofs.Fitting.{FitTick, ticked_fits, marks_back, told_back}
use Rattle.fax_gateway.proofs.Held.{Holds, IfHolds, page_at, held}
use Rattle.fax_gateway.proofs.Confirmed.{steps_hold}
use Rattle.fax_gateway.proofs.InCalls.{InCall, IfInCall, begins_free, heard_sends, in_call}
use Rattle.fax_gateway.proofs.Unplaced.{emits_in, gives_none}

-- what is known of each image among these elements
record IsSent (job : JobValue) (marks : List Mark) (emission : Emission) : Type 0 where
  n : ℕ
  is_page : IsPageOf job n emission
  last : Option ℕ
  emitted : Emits job marks last
  answered : IsAnswered last (replied marks) n

record SentBy (job : JobValue) (marks : List Mark) (es : List elements.Element) : Type 0 where
  each : EachEmission (IsSent job) marks es
  last : Option ℕ
  emitted : Emits job marks last

by_emission : (job : JobValue) (o : Option Emission) (marks : List Mark) (last : Option ℕ) → EmitsBy job o (replied marks) last (Emits job marks) →
    IfEmits (IsSent job) marks o × ((m : Option ℕ) × Emits job marks m)
by_emission job None marks last h = (tt, (last, h))
by_emission job (Some x) marks None h = absurd h
by_emission job (Some x) marks (Some n) h = (record { n = n; is_page = h.0; last = h.1; emitted = h.2; answered = h.3 }, (h.1, h.2))

sent_all : (job : JobValue) (es : List elements.Element) (marks : List Mark) (last : Option ℕ) → Emits job (gave_all es marks) last → SentBy job marks es
sent_all job [] marks last h = record { each = tt; last = last; emitted = h }
sent_all job (e ∷ es) marks last h =
    let r : SentBy job (Gave e ∷ marks) es = sent_all job es (Gave e ∷ marks) last h in
    let x = by_emission job (emitted_at (elements_given marks) e) marks r.last r.emitted in
    record { each = (x.0, r.each); last = x.1.0; emitted = x.1.1 }

if_emits : (P Q : List Mark → Emission → Type 0) (marks : List Mark) (o : Option Emission) → ((ms : List Mark) (x : Emission) → P ms x → Q ms x) → IfEmits P marks o → IfEmits Q marks o
if_emits P Q marks None f p = tt
if_emits P Q marks (Some x) f p = f marks x p

pub each_emission : (P Q : List Mark → Emission → Type 0) (marks : List Mark) (es : List elements.Element) → ((ms : List Mark) (x : Emission) → P ms x → Q ms x) → EachEmission P marks es → EachEmission Q marks es
each_emission P Q marks [] f p = tt
each_emission P Q marks (e ∷ es) f p = (if_emits P Q marks (emitted_at (elements_given marks) e) f p.0, each_emission P Q (Gave e ∷ marks) es f p.1)

-- what a tick gives in the call of a job
in_order : (setup : Setup) (writes : Writing) (l : CalledLeg) (now : ℕ) (sending : Option JobValue) (marks : List Mark) → IsWriting writes → IsJob l.job → InCall writes l sending marks →
    EachEmission (IsSent l.job) marks (elements_told (told_by setup l.given (calls writes l now).given))
in_order setup writes l now sending marks w is i = by l.placed refl
  where
    by : (b : Bool) → l.placed ≡ b → EachEmission (IsSent l.job) marks (elements_told (told_by setup l.given (calls writes l now).given))
    by true placed =
        let t : TickResult = calls writes l now in
        let f : FitTick t = ticked_fits writes l.job (core_of writes l) now i.fits in
        let same : gave_all (elements_told (told_by setup l.given t.given)) marks ≡ marks_given t.given (marks_after writes l.job i.old (begun_core l) l.events) =
        marks_back setup l.given t.given marks i.short f.given ∙ ap (marks_given t.given) i.marks_are in
        let e = emits_in writes l i.old (Ticks now ∷ l.events) placed w is in
        (sent_all l.job (elements_told (told_by setup l.given t.given)) marks e.0 (subst (λ (ms : List Mark). Emits l.job ms e.0) (sym same) e.1)).each
    by false unplaced = subst (λ (o : Option Packet). EachEmission (IsSent l.job) marks (elements_told (told_by setup l.given o))) (sym (gives_none writes l now unplaced)) tt

-- the job was being sent before the tick
goes_on : (setup : Setup) (writes : Writing) (earlier : List Event) (now : ℕ) (l : CalledLeg) (book : Book) (marks : List Mark) → IsWriting writes → book.sending ≡ Some l.job →
    Holds (WasConfirmed setup earlier) l.job → InCall writes l book.sending marks →
    EachEmission (IsForwarded setup earlier book) marks (elements_told (told_by setup l.given (calls writes l now).given))
goes_on setup writes earlier now l book marks w is h i =
    each_emission (IsSent l.job) (IsForwarded setup earlier book) marks (elements_told (told_by setup l.given (calls writes l now).given))
    (λ ms x p. record {
      job = l.job;
      is_sending = is;
      n = p.n;
      is_page = p.is_page;
      last = p.last;
      emitted = p.emitted;
      answered = p.answered;
      confirmed = page_at (WasConfirmed setup earlier l.job.call) l.job.pages p.n p.is_page.page h.pages p.is_page.is_page;
    })
    (in_order setup writes l now book.sending marks w h.is_job i)

still : (setup : Setup) (writes : Writing) (earlier : List Event) (now : ℕ) (leg : Option CalledLeg) (book : Book) (marks : List Mark) → IsWriting writes →
    IfHolds (WasConfirmed setup earlier) book.sending → IfInCall writes leg book.sending marks →
    EachEmission (IsForwarded setup earlier book) marks (elements_told (told_called setup writes leg now))
still setup writes earlier now None book marks w h i = tt
still setup writes earlier now (Some l) book marks w h i = by l.entered i.sends
  where
    by : (b : Bool) → book.sending ≡ (if◌then◌else◌ {A = Option JobValue} b None (Some l.job)) →
        EachEmission (IsForwarded setup earlier book) marks (elements_told (if◌then◌else◌ {A = Option (List ℕ)} b None (told_by setup l.given (calls writes l now).given)))
    by true e = tt
    by false e = goes_on setup writes earlier now l book marks w e (subst (IfHolds (WasConfirmed setup earlier)) e h) i

-- a call that begins gives the tone of a calling terminal at most
tone_back : (setup : Setup) → elements_told (Some (sent setup [] (written (Signals (indicator_code Cng))))) ≡ elements.Signal (indicator_code Cng) ∷ []
unfolding packet_of bits.bit packets.fields_after
tone_back setup = told_back setup [] (written (Signals (indicator_code Cng))) tt (omega arith)

begins_none : (setup : Setup) (P : List Mark → Emission → Type 0) (writes : Writing) (job : JobValue) (before : CallerCore) (now : ℕ) (marks : List Mark) →
    EachEmission P marks (elements_told (told_called setup writes (Some (begun_leg job before now)) now))
begins_none setup P writes job before now marks = by (pace_allows before.pace.last now)
  where
    core : CallerCore
    core = started before job now

    by : (t : Bool) → EachEmission P marks (elements_told (told_by setup [] (if◌then◌else◌ {A = TickResult} t (given_first writes job core now calling_tone) (record { core = core; given = None })).given))
    by true = subst (EachEmission P marks) (sym (tone_back setup)) (tt, tt)
    by false = tt

pub free_none : (setup : Setup) (P : List Mark → Emission → Type 0) (writes : Writing) (leg : Option CalledLeg) (o : Option JobValue) (now : ℕ) (marks : List Mark) → is_free leg ≡ true →
    EachEmission P marks (elements_told (told_called setup writes (leg_of true o (core_left setup writes leg) now leg) now))
free_none setup P writes leg (Some job) now marks f = begins_none setup P writes job (core_left setup writes leg) now marks
free_none setup P writes None None now marks f = tt
free_none setup P writes (Some l) None now marks f =
    subst (λ (b : Bool). EachEmission P marks (elements_told (if◌then◌else◌ {A = Option (List ℕ)} b None (told_by setup l.given (calls writes l now).given)))) (sym f) tt

-- a tick
at_tick : (setup : Setup) (writes : Writing) (earlier : List Event) (now : ℕ) (s : BothLegs) (old : List Mark) → IsWriting writes →
    IfHolds (WasConfirmed setup earlier) (book_of s).sending → IfInCall writes s.leg (book_of s).sending old →
    EachEmission (IsForwarded setup earlier (book_of (sends_if setup writes now s))) (begun_if (begins_next setup s.leg) (book_of (sends_if setup writes now s)).sending old) (elements_told (told_called setup writes (sends_if setup writes now s).leg now))
at_tick setup writes earlier now s old w h i = by (begins_next setup s.leg) refl
  where
    by : (b : Bool) → begins_next setup s.leg ≡ b →
        let z : BothLegs = if◌then◌else◌ {A = BothLegs} b (sends true setup writes now s) s in
        EachEmission (IsForwarded setup earlier (book_of z)) (begun_if b (book_of z).sending old) (elements_told (told_called setup writes z.leg now))
    by true e = free_none setup (IsForwarded setup earlier (book_of (sends true setup writes now s))) writes s.leg (book_of (sends true setup writes now s)).sending now (begun_if true (book_of (sends true setup writes now s)).sending old)
        (begins_free setup.asks (is_free s.leg) e)
    by false e = still setup writes earlier now s.leg (book_of s) old w h i

pub forwards : ForwardsWhatItConfirmed
forwards setup writes earlier at given w t =
    let now : ℕ = max at (clock earlier) in
    let s : BothLegs = both_legs setup writes earlier in
    let z : BothLegs = record s { steps = heard_in_tick (calling_leg setup earlier) now s.steps } in
    let old : List Mark = leg_marks setup writes earlier in
    let same : (book_of z).sending ≡ (book_of s).sending = heard_sends (calling_leg setup earlier) now s.steps in
    subst (λ (told : Option (List ℕ)). EachEmission (IsForwarded setup earlier (book_of (in_tick setup writes earlier at))) (marks_before setup writes earlier at old) (elements_told told)) (sym (ap (λ (g : Given). g.on_called) t.0))
    (at_tick setup writes earlier now z old w
    (subst (IfHolds (WasConfirmed setup earlier)) (sym same) (held (WasConfirmed setup earlier) s.steps (steps_hold setup writes earlier t.1)).sending)
    (subst (λ (o : Option JobValue). IfInCall writes s.leg o old) (sym same) (in_call setup writes earlier t.1)))
