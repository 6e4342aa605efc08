-- What was heard on the called leg of a stage, as a trace goes on.
use Rattle.std.proofs.Common.{◌≡◌, ℕ, Bool, true, false, ◌&&◌, not, is_some, IsSome, List, [], ◌∷◌, Option, Some, None, option_copied, option_map, Bor, Result, Ok, Err, refl, sym, ◌∙◌, ap, subst, if◌then◌else◌}
use Rattle.fax_udptl.specs.declared.fault.UdptlFault.{UdptlFault}
use Rattle.fax_udptl.specs.Datagrams.{DatagramValue, datagram_of}
use Rattle.fax_jobs.specs.declared.outcome.Outcome.{Outcome}
use Rattle.fax_jobs.specs.Jobs.{JobValue}
use Rattle.fax_call.specs.declared.state.State.{State}
use Rattle.fax_call.specs.declared.state.State.TheVariants.{AwaitDis, Idle}
use Rattle.fax_call.specs.Calls.{CallerCore, TickResult, after_giving, given_first, moved, paced, started, state_when_given, taken, ticked, timed}
use Rattle.fax_call.specs.Delivery.{is_over}
use Rattle.fax_call.specs.Replies.{Due, Packet, calling_tone, waits}
use Rattle.fax_call.specs.Table.{Move, Stays, on_timers}
use Rattle.fax_call.specs.Writings.{Writing}
use Rattle.fax_call.proofs.Told.{over_is_idle}
use Rattle.fax_jobs.specs.Books.{Book, next_job}
use Rattle.fax_jobs.specs.Pasts.{sent_if}
use Rattle.fax_gateway.specs.Events.{Event, Ring, FromCalling, FromCalled, Tick, Placed, clock}
use Rattle.fax_gateway.specs.CallingLegs.{calling_leg}
use Rattle.fax_gateway.specs.Reached.{GatewayValue, IsReachedBy}
use Rattle.fax_gateway.specs.Setups.{Setup}
use Rattle.fax_gateway.proofs.InCalls.{asked_sends}
use Rattle.fax_gateway.specs.BothLegs.{BothLegs, both_legs, begins_next, heard_in_tick, job_asked, leg_of, sends, sends_if}
use Rattle.fax_gateway.specs.CalledLegs.{CalledLeg, calls, core_left, core_of, hears, is_free, leg_ticked, leg_with, packets_given, placed_leg, told_by, told_called, with_tick}
use Rattle.fax_gateway.specs.Reports.{JobsHaveStates, job_sent}
use Rattle.fax_gateway.specs.Watched.{called_state}
use Rattle.fax_descriptions.specs.declared.lane.Lane.TheVariants.{FromCalled}
use Rattle.fax_descriptions.specs.Tellings.{Description}
use Rattle.fax_explain.specs.declared.listener.Listener.{Listener}
use Rattle.fax_explain.specs.declared.mark.Mark.{Mark}
use Rattle.fax_explain.specs.Given.{KeepsToCalled, arrived_after, given_datagrams}
use Rattle.fax_explain.specs.Heard.{AreAll, EachHearing, HearsOn, IsHearing, KeepsEar, TellsComing, TellsDatagram}
use Rattle.fax_explain.specs.Listening.{in_call}
use Rattle.fax_explain.specs.Ladders.{InCall, TellsFromCalled, TellsOutside, newly_sent, since_begun}
use Rattle.fax_explain.proofs.MarkLemmas.{AreEachCalled}
use Rattle.fax_explain.proofs.StagedLemmas.{outside_failed, outside_new}
use Rattle.fax_explain.specs.Staged.{BeginsIf, BeginsWith, FailsWith, GivesIf, GivesJob, GivesWith, HearsJob, HearsOutside}

-- a call that is over stays so in a tick
timed_by : (a : CallerCore) (t t1_due t4_due : Bool) → a.state ≡ Idle → moved a (if◌then◌else◌ {A = Move} t Stays (on_timers t1_due t4_due a.state a.counts)) ≡ a
timed_by a true t1_due t4_due p = refl
timed_by a false t1_due t4_due p = ap (λ (s : State). moved a (on_timers t1_due t4_due s a.counts)) p

over_timed : (a : CallerCore) (now : ℕ) → a.state ≡ Idle → timed a now ≡ a
over_timed a now p = timed_by a (waits a.waiting) _ _ p

over_after : (a : CallerCore) (now : ℕ) (packet : Packet) (rest : List Due) → a.state ≡ Idle → is_over (after_giving a now packet rest).state ≡ true
over_after a now packet [] p = ap (λ (s : State). is_over (state_when_given s)) p
over_after a now packet (d ∷ due) p = ap is_over p

over_given : (writes : Writing) (job : JobValue) (a : CallerCore) (now : ℕ) (due : List Due) → a.state ≡ Idle → is_over (given_first writes job a now due).core.state ≡ true
over_given writes job a now [] p = ap is_over p
over_given writes job a now (d ∷ due) p = over_after a now (taken writes job d due).packet (taken writes job d due).rest p

paced_by : (writes : Writing) (job : JobValue) (a : CallerCore) (now : ℕ) (t : Bool) → is_over a.state ≡ true → a.state ≡ Idle
    → is_over (if◌then◌else◌ {A = TickResult} t (given_first writes job a now a.waiting) (record { core = a; given = None })).core.state ≡ true
paced_by writes job a now true h p = over_given writes job a now a.waiting p
paced_by writes job a now false h p = h

over_ticked : (writes : Writing) (job : JobValue) (a : CallerCore) (now : ℕ) → is_over a.state ≡ true → is_over (ticked writes job a now).core.state ≡ true
over_ticked writes job a now h =
    let p : a.state ≡ Idle = over_is_idle a.state h in
    subst (λ (b : CallerCore). is_over (paced writes job b now).core.state ≡ true) (sym (over_timed a now p)) (paced_by writes job a now _ h p)

-- no call is on
pub tells_over : (writes : Writing) (leg : Option CalledLeg) (marks : List Mark) (came : List DatagramValue) (octets : List ℕ) (told : List Description) → called_state writes leg ≡ Idle
    → TellsOutside FromCalled came octets told → TellsFromCalled writes leg marks came octets told
tells_over writes None marks came octets told is out = out
tells_over writes (Some l) marks came octets told is out =
    subst (λ (b : Bool). InCall b (TellsOutside FromCalled came octets told) (TellsDatagram (in_call FromCalled) marks l.arrived (datagram_of octets) [] told × AreAll marks l.arrived (datagram_of octets)))
    (sym (ap is_over is)) out

-- a call whose end was entered is over
abbrev OverIf : Writing → Option CalledLeg → Type 0
OverIf writes None = Unit {0}
OverIf writes (Some l) = l.entered ≡ true → is_over (core_of writes l).state ≡ true

over_heard : (writes : Writing) (octets : List ℕ) (now : ℕ) (leg : Option CalledLeg) → OverIf writes leg → OverIf writes (option_map (hears writes octets now) leg)
over_heard writes octets now None h = tt
over_heard writes octets now (Some l) h = by (is_over (core_of writes l).state) refl
  where
    busy : is_over (core_of writes l).state ≡ false → (r : Result DatagramValue UdptlFault) → OverIf writes (Some (leg_with r now l))
    busy e (Ok d) = λ entered. absurd (cc (sym (h entered) ∙ e))
    busy e (Err fault) = h

    by : (b : Bool) → is_over (core_of writes l).state ≡ b → OverIf writes (Some (if◌then◌else◌ {A = CalledLeg} b l (leg_with (datagram_of octets) now l)))
    by true e = h
    by false e = busy e (datagram_of octets)

over_entered : (b : Bool) (outcome : Option Outcome) → is_some (if◌then◌else◌ {A = Option Outcome} b outcome None) ≡ true → b ≡ true
over_entered true outcome h = refl
over_entered false outcome h = absurd (cc)

over_in_tick : (writes : Writing) (now : ℕ) (leg : Option CalledLeg) → OverIf writes leg → OverIf writes (option_map (leg_ticked writes now) leg)
over_in_tick writes now None h = tt
over_in_tick writes now (Some l) h = by l.entered refl
  where
    by : (e : Bool) → l.entered ≡ e → OverIf writes (Some (if◌then◌else◌ {A = CalledLeg} e l (with_tick (calls writes l now) now l)))
    by true p = h
    by false p = λ entered. over_entered (is_over (calls writes l now).core.state) (calls writes l now).core.outcome entered

over_sent : (writes : Writing) (connected : Bool) (job : Option JobValue) (before : CallerCore) (now : ℕ) (leg : Option CalledLeg) → OverIf writes leg → OverIf writes (leg_of connected job before now leg)
over_sent writes connected None before now leg h = h
over_sent writes connected (Some job) before now leg h = λ entered. absurd (cc (entered))

over_begun : (setup : Setup) (writes : Writing) (now : ℕ) (s : BothLegs) → OverIf writes s.leg → OverIf writes (sends_if setup writes now s).leg
over_begun setup writes now s h = by (begins_next setup s.leg)
  where
    by : (t : Bool) → OverIf writes (if◌then◌else◌ {A = BothLegs} t (sends true setup writes now s) s).leg
    by true = over_sent writes true _ (core_left setup writes s.leg) now s.leg h
    by false = h

entered_over : (setup : Setup) (writes : Writing) (trace : List Event) → OverIf writes (both_legs setup writes trace).leg
entered_over setup writes [] = tt
entered_over setup writes (Ring at number ∷ earlier) = entered_over setup writes earlier
entered_over setup writes (FromCalling octets at decided read ∷ earlier) = entered_over setup writes earlier
entered_over setup writes (FromCalled octets at decided ∷ earlier) = over_heard writes octets (clock (FromCalled octets at decided ∷ earlier)) (both_legs setup writes earlier).leg (entered_over setup writes earlier)
entered_over setup writes (Tick at given ∷ earlier) =
    let now : ℕ = clock (Tick at given ∷ earlier) in
    over_in_tick writes now _ (over_begun setup writes now (record (both_legs setup writes earlier) { steps = heard_in_tick (calling_leg setup earlier) now (both_legs setup writes earlier).steps }) (entered_over setup writes earlier))
entered_over setup writes (Placed at connected ∷ earlier) =
    over_sent writes connected _ (core_left setup writes (both_legs setup writes earlier).leg) (clock (Placed at connected ∷ earlier)) (both_legs setup writes earlier).leg (entered_over setup writes earlier)

pub hears_over : (writes : Writing) (leg : Option CalledLeg) (octets : List ℕ) (now : ℕ) (listener : Listener) → called_state writes leg ≡ Idle
    → HearsJob writes (option_map (hears writes octets now) leg) listener
hears_over writes None octets now listener is = tt
hears_over writes (Some l) octets now listener is =
    let over : is_over (core_of writes l).state ≡ true = ap is_over is in
    subst (λ (b : Bool). HearsJob writes (Some (if◌then◌else◌ {A = CalledLeg} b l (leg_with (datagram_of octets) now l))) listener) (sym over) (λ entered on. absurd (cc (sym over ∙ on)))

-- a datagram of the called machine's in a call
pub hears_called_more : (writes : Writing) (leg : Option CalledLeg) (octets : List ℕ) (now : ℕ) (old new : Listener) → HearsJob writes leg old
    → HearsOn old (datagram_of octets) new → KeepsEar old new → HearsJob writes (option_map (hears writes octets now) leg) new
hears_called_more writes None octets now old new h on stays = tt
hears_called_more writes (Some l) octets now old new h on stays = by (is_over (core_of writes l).state) refl
  where
    with_one : is_over (core_of writes l).state ≡ false → (r : Result DatagramValue UdptlFault) → HearsOn old r new → HearsJob writes (Some (leg_with r now l)) new
    with_one e (Ok d) goes = λ entered busy. (stays (in_call FromCalled) (h entered e).0 l.arrived (h entered e).1, goes l.arrived (h entered e).1)
    with_one e (Err fault) goes = λ entered busy. (stays (in_call FromCalled) (h entered e).0 l.arrived (h entered e).1, goes l.arrived (h entered e).1)

    by : (b : Bool) → is_over (core_of writes l).state ≡ b → HearsJob writes (Some (if◌then◌else◌ {A = CalledLeg} b l (leg_with (datagram_of octets) now l))) new
    by true e = λ entered busy. absurd (cc (sym e ∙ busy))
    by false e = with_one e (datagram_of octets) on

-- a state that is not Idle is not over
not_over : (state : State) (b : Bool) → is_over state ≡ b → (state ≡ Idle → ⊥) → b ≡ false
not_over state true is busy = absurd (busy (over_is_idle state is))
not_over state false is busy = refl

tells_job : (writes : Writing) (l : CalledLeg) (marks kept : List Mark) (came : List DatagramValue) (octets : List ℕ) (old : Listener) (before told : List Description) → HearsJob writes (Some l) old → before ≡ []
    → kept ≡ marks → TellsComing old kept (datagram_of octets) before told → AreEachCalled writes (Some l) marks octets → OverIf writes (Some l) → ((core_of writes l).state ≡ Idle → ⊥)
    → TellsFromCalled writes (Some l) marks came octets told
tells_job writes l marks kept came octets old before told h none same comes each over busy =
    let q : is_over (core_of writes l).state ≡ false = not_over (core_of writes l).state (is_over (core_of writes l).state) refl busy in
    let p : l.entered ≡ false = opened l.entered refl q in
    subst (λ (b : Bool). InCall b (TellsOutside FromCalled came octets told) (TellsDatagram (in_call FromCalled) marks l.arrived (datagram_of octets) [] told × AreAll marks l.arrived (datagram_of octets))) (sym q) (
      subst (λ (ms : List Mark). TellsDatagram (in_call FromCalled) ms l.arrived (datagram_of octets) [] told) same
          (subst (λ (first : List Description). TellsDatagram (in_call FromCalled) kept l.arrived (datagram_of octets) first told) none (comes (in_call FromCalled) (h p q).0 l.arrived (h p q).1)),
      each q,
    )
  where
    opened : (e : Bool) → l.entered ≡ e → is_over (core_of writes l).state ≡ false → e ≡ false
    opened true p q = absurd (cc (sym (over p) ∙ q))
    opened false p q = refl

pub tells_called : (setup : Setup) (writes : Writing) (trace : List Event) (marks kept : List Mark) (came : List DatagramValue) (octets : List ℕ) (old : Listener) (before told : List Description)
    → HearsJob writes (both_legs setup writes trace).leg old → before ≡ [] → kept ≡ marks → TellsComing old kept (datagram_of octets) before told
    → AreEachCalled writes (both_legs setup writes trace).leg marks octets → (called_state writes (both_legs setup writes trace).leg ≡ Idle → ⊥)
    → TellsFromCalled writes (both_legs setup writes trace).leg marks came octets told
tells_called setup writes trace marks kept came octets old before told h none same comes each busy =
    by (both_legs setup writes trace).leg h each busy (entered_over setup writes trace)
  where
    by : (leg : Option CalledLeg) → HearsJob writes leg old → AreEachCalled writes leg marks octets → (called_state writes leg ≡ Idle → ⊥) → OverIf writes leg → TellsFromCalled writes leg marks came octets told
    by None h each busy over = absurd (busy refl)
    by (Some l) h each busy over = tells_job writes l marks kept came octets old before told h none same comes each over busy

-- a call is placed, or not: then it is over
pub hears_begun : (writes : Writing) (job was : Option JobValue) (before : CallerCore) (now : ℕ) (leg : Option CalledLeg) (old new : Listener) → was ≡ job → HearsJob writes leg old
    → BeginsWith was old new → HearsJob writes (leg_of true job before now leg) new
hears_begun writes None was before now leg old new is h b =
    let same : new ≡ old = subst (λ (o : Option JobValue). BeginsWith o old new) is b in
    subst (λ (l : Listener). HearsJob writes leg l) (sym same) h
hears_begun writes (Some job) was before now leg old new is h b = λ entered busy. subst (λ (o : Option JobValue). BeginsWith o old new) is b

pub hears_failed : (writes : Writing) (job was : Option JobValue) (before : CallerCore) (now : ℕ) (leg : Option CalledLeg) (old new : Listener) → was ≡ job → HearsJob writes leg old
    → FailsWith was old new → HearsJob writes (leg_of false job before now leg) new
hears_failed writes None was before now leg old new is h b =
    let same : new ≡ old = subst (λ (o : Option JobValue). FailsWith o old new) is b in
    subst (λ (l : Listener). HearsJob writes leg l) (sym same) h
hears_failed writes (Some job) was before now leg old new is h b = λ entered busy. absurd (cc (busy))

-- the job that was asked for is sent once its call is placed, or could not be
pub job_taken : (asks : Bool) (book : Book) → IsSome (job_asked asks book) → (sent_if book.sending book).sending ≡ job_asked asks book
job_taken false book h = absurd (cc)
job_taken true book h =
    let none : book.sending ≡ None = asked_sends true book h in
    ap (λ (o : Option JobValue). (sent_if o book).sending) none ∙ sym (ap (λ (o : Option JobValue). if◌then◌else◌ {A = Option JobValue} (is_some o) None (next_job book)) none)

-- each hears on while no call is on
outside_begun : (came : List DatagramValue) (job : Option JobValue) (old new : Listener) → HearsOutside FromCalled came old → BeginsWith job old new → HearsOutside FromCalled (since_begun job came) new
outside_begun came None old new h same = subst (λ (l : Listener). HearsOutside FromCalled came l) (sym same) h
outside_begun came (Some job) old new h b = outside_new FromCalled new b.0 b.1

pub outside_connected : (job asked : Option JobValue) (it : JobValue) (old new : Listener) → job ≡ asked → asked ≡ Some it → BeginsWith job old new → HearsOutside FromCalled [] new
outside_connected job asked it old new is some b =
    let begins : BeginsWith (Some it) old new = subst (λ (j : Option JobValue). BeginsWith j old new) (is ∙ some) b in
    outside_new FromCalled new begins.0 begins.1

pub outside_unplaced : (job asked : Option JobValue) (it : JobValue) (old new : Listener) → job ≡ asked → asked ≡ Some it → FailsWith job old new → HearsOutside FromCalled [] new
outside_unplaced job asked it old new is some b =
    let fails : FailsWith (Some it) old new = subst (λ (j : Option JobValue). FailsWith j old new) (is ∙ some) b in
    outside_failed FromCalled new fails.0 fails.1

pub outside_if : (was : Bool) (sending before after : Option JobValue) (came : List DatagramValue) (old new : Listener) → was ≡ is_some before → sending ≡ after → HearsOutside FromCalled came old
    → BeginsIf was sending old new → HearsOutside FromCalled (since_begun (newly_sent before after) came) new
outside_if was sending None after came old new w s h b =
    outside_begun came after old new h (subst (λ (o : Option JobValue). BeginsWith o old new) s (subst (λ (x : Bool). BeginsIf x sending old new) w b))
outside_if was sending (Some job) after came old new w s h b =
    let same : new ≡ old = subst (λ (x : Bool). BeginsIf x sending old new) w b in
    subst (λ (l : Listener). HearsOutside FromCalled came l) (sym same) h

-- a tick
ticked_job : (writes : Writing) (now : ℕ) (l : CalledLeg) (listener : Listener) → HearsJob writes (Some l) listener → HearsJob writes (Some (leg_ticked writes now l)) listener
ticked_job writes now l listener h = by l.entered refl
  where
    busy_before : (b : Bool) → is_over (core_of writes l).state ≡ b → is_over (calls writes l now).core.state ≡ false → is_over (core_of writes l).state ≡ false
    busy_before true e busy = absurd (cc (sym (over_ticked writes l.job (core_of writes l) now e) ∙ busy))
    busy_before false e busy = e

    by : (e : Bool) → l.entered ≡ e → HearsJob writes (Some (if◌then◌else◌ {A = CalledLeg} e l (with_tick (calls writes l now) now l))) listener
    by true e = h
    by false e = λ entered busy. h e (busy_before (is_over (core_of writes l).state) refl busy)

job_of : (l : CalledLeg) → l.entered ≡ false → job_sent (Some l) ≡ Some l.job
job_of l e = ap (λ (b : Bool). if◌then◌else◌ {A = Option JobValue} b None (Some l.job)) e

begun_new : (writes : Writing) (now : ℕ) (job : JobValue) (before : CallerCore) (after : Option JobValue) (old new : Listener)
    → after ≡ job_sent (Some (leg_ticked writes now (placed_leg true job before now))) → BeginsIf false after old new → HearsJob writes (Some (leg_ticked writes now (placed_leg true job before now))) new
begun_new writes now job before after old new a b = λ entered busy.
    subst (λ (o : Option JobValue). BeginsIf false o old new) (a ∙ job_of (leg_ticked writes now (placed_leg true job before now)) entered) b

-- one whose end was entered stays
entered_stays : (writes : Writing) (now : ℕ) (l : CalledLeg) (listener : Listener) → l.entered ≡ true → HearsJob writes (Some (leg_ticked writes now l)) listener
entered_stays writes now l listener e =
    subst (λ (b : Bool). HearsJob writes (Some (if◌then◌else◌ {A = CalledLeg} b l (with_tick (calls writes l now) now l))) listener) (sym e) (λ entered busy. absurd (cc (sym e ∙ entered)))

abbrev began : Bool → Option JobValue → CallerCore → ℕ → Option CalledLeg → Option CalledLeg
began true job before now leg = leg_of true job before now leg
began false job before now leg = leg

goes : (writes : Writing) (now : ℕ) (t : Bool) (job : Option JobValue) (before : CallerCore) (leg : Option CalledLeg) (was : Bool) (after : Option JobValue) (old new : Listener) → (t ≡ true → is_free leg ≡ true)
    → HearsJob writes leg old → was ≡ is_some (job_sent leg) → after ≡ job_sent (option_map (leg_ticked writes now) (began t job before now leg)) → BeginsIf was after old new
    → HearsJob writes (option_map (leg_ticked writes now) (began t job before now leg)) new
goes writes now false job before None was after old new free h w a b = tt
goes writes now true None before None was after old new free h w a b = tt
goes writes now true (Some job) before None was after old new free h w a b = begun_new writes now job before after old new a (subst (λ (s : Bool). BeginsIf s after old new) w b)
goes writes now t job before (Some l) was after old new free h w a b = by l.entered refl t job free a
  where
    waited : (e : Bool) → l.entered ≡ e → was ≡ is_some (if◌then◌else◌ {A = Option JobValue} e None (Some l.job))
    waited e p = w ∙ ap (λ (x : Bool). is_some (if◌then◌else◌ {A = Option JobValue} x None (Some l.job))) p

    by : (e : Bool) → l.entered ≡ e → (t : Bool) (job : Option JobValue) → (t ≡ true → l.entered ≡ true) → after ≡ job_sent (option_map (leg_ticked writes now) (began t job before now (Some l)))
        → HearsJob writes (option_map (leg_ticked writes now) (began t job before now (Some l))) new
    by true p false job f a = entered_stays writes now l new p
    by true p true None f a = entered_stays writes now l new p
    by true p true (Some job) f a = begun_new writes now job before after old new a (subst (λ (s : Bool). BeginsIf s after old new) (waited true p) b)
    by false p true job f a = absurd (cc (sym p ∙ f refl))
    by false p false job f a =
        let same : new ≡ old = subst (λ (s : Bool). BeginsIf s after old new) (waited false p) b in
        subst (λ (x : Listener). HearsJob writes (Some (leg_ticked writes now l)) x) (sym same) (ticked_job writes now l old h)

-- ---- what is given on the called leg

pub gives_job_heard : (setup : Setup) (writes : Writing) (leg : Option CalledLeg) (octets : List ℕ) (now : ℕ) (ours : Listener) → GivesJob setup leg ours
    → GivesJob setup (option_map (hears writes octets now) leg) ours
gives_job_heard setup writes None octets now ours h = h
gives_job_heard setup writes (Some l) octets now ours h = by (is_over (core_of writes l).state) (datagram_of octets)
  where
    by : (b : Bool) (r : Result DatagramValue UdptlFault) → GivesJob setup (Some (if◌then◌else◌ {A = CalledLeg} b l (leg_with r now l))) ours
    by true r = h
    by false (Ok d) = h
    by false (Err fault) = h

pub gives_begun : (setup : Setup) (connected : Bool) (job was : Option JobValue) (before : CallerCore) (now : ℕ) (leg : Option CalledLeg) (old new : Listener) → was ≡ job → GivesJob setup leg old
    → GivesWith was old new → GivesJob setup (leg_of connected job before now leg) new
gives_begun setup connected None was before now leg old new is h b =
    let same : new ≡ old = subst (λ (o : Option JobValue). GivesWith o old new) is b in
    subst (λ (l : Listener). GivesJob setup leg l) (sym same) h
gives_begun setup connected (Some job) was before now leg old new is h b = subst (λ (o : Option JobValue). GivesWith o old new) is b

-- a call that begins in a tick is not over in it
begun_state : (writes : Writing) (job : JobValue) (before : CallerCore) (now : ℕ) → (ticked writes job (started before job now) now).core.state ≡ AwaitDis
begun_state writes job before now = by _
  where
    by : (b : Bool) → (if◌then◌else◌ {A = TickResult} b (given_first writes job (started before job now) now calling_tone) (record { core = started before job now; given = None })).core.state ≡ AwaitDis
    by true = refl
    by false = refl

begun_open : (writes : Writing) (job : JobValue) (before : CallerCore) (now : ℕ) → (leg_ticked writes now (placed_leg true job before now)).entered ≡ false
begun_open writes job before now =
    ap (λ (s : State). is_some (if◌then◌else◌ {A = Option Outcome} (is_over s) (ticked writes job (started before job now) now).core.outcome None)) (begun_state writes job before now)

begun_giving : (setup : Setup) (writes : Writing) (now : ℕ) (job : JobValue) (before : CallerCore) (after : Option JobValue) (old new : Listener)
    → after ≡ job_sent (Some (leg_ticked writes now (placed_leg true job before now))) → GivesIf false after old new → GivesJob setup (Some (placed_leg true job before now)) new
begun_giving setup writes now job before after old new a b =
    subst (λ (o : Option JobValue). GivesIf false o old new) (a ∙ job_of (leg_ticked writes now (placed_leg true job before now)) (begun_open writes job before now)) b

-- where none is sent, none was begun
gives_still : (setup : Setup) (leg : Option CalledLeg) (was : Bool) (after : Option JobValue) (old new : Listener) → GivesJob setup leg old → was ≡ false → after ≡ None → GivesIf was after old new → GivesJob setup leg new
gives_still setup leg was after old new h w a b =
    let same : new ≡ old = subst (λ (o : Option JobValue). GivesIf false o old new) a (subst (λ (s : Bool). GivesIf s after old new) w b) in
    subst (λ (l : Listener). GivesJob setup leg l) (sym same) h

-- the end of a call stays entered
entered_job : (writes : Writing) (now : ℕ) (l : CalledLeg) → l.entered ≡ true → job_sent (Some (leg_ticked writes now l)) ≡ None
entered_job writes now l e =
    ap (λ (b : Bool). job_sent (Some (if◌then◌else◌ {A = CalledLeg} b l (with_tick (calls writes l now) now l)))) e ∙ ap (λ (b : Bool). if◌then◌else◌ {A = Option JobValue} b None (Some l.job)) e

goes_giving : (setup : Setup) (writes : Writing) (now : ℕ) (t : Bool) (job : Option JobValue) (before : CallerCore) (leg : Option CalledLeg) (was : Bool) (after : Option JobValue) (old new : Listener)
    → (t ≡ true → is_free leg ≡ true) → GivesJob setup leg old → was ≡ is_some (job_sent leg) → after ≡ job_sent (option_map (leg_ticked writes now) (began t job before now leg)) → GivesIf was after old new
    → GivesJob setup (began t job before now leg) new
goes_giving setup writes now false job before None was after old new free h w a b = gives_still setup None was after old new h w a b
goes_giving setup writes now true None before None was after old new free h w a b = gives_still setup None was after old new h w a b
goes_giving setup writes now true (Some job) before None was after old new free h w a b = begun_giving setup writes now job before after old new a (subst (λ (s : Bool). GivesIf s after old new) w b)
goes_giving setup writes now t job before (Some l) was after old new free h w a b = by l.entered refl t job free a
  where
    waited : (e : Bool) → l.entered ≡ e → was ≡ is_some (if◌then◌else◌ {A = Option JobValue} e None (Some l.job))
    waited e p = w ∙ ap (λ (x : Bool). is_some (if◌then◌else◌ {A = Option JobValue} x None (Some l.job))) p

    by : (e : Bool) → l.entered ≡ e → (t : Bool) (job : Option JobValue) → (t ≡ true → l.entered ≡ true) → after ≡ job_sent (option_map (leg_ticked writes now) (began t job before now (Some l)))
        → GivesJob setup (began t job before now (Some l)) new
    by true p false job f a = gives_still setup (Some l) was after old new h (waited true p) (a ∙ entered_job writes now l p) b
    by true p true None f a = gives_still setup (Some l) was after old new h (waited true p) (a ∙ entered_job writes now l p) b
    by true p true (Some job) f a = begun_giving setup writes now job before after old new a (subst (λ (s : Bool). GivesIf s after old new) (waited true p) b)
    by false p true job f a = absurd (cc (sym p ∙ f refl))
    by false p false job f a =
        let same : new ≡ old = subst (λ (s : Bool). GivesIf s after old new) (waited false p) b in
        subst (λ (x : Listener). GivesJob setup (Some l) x) (sym same) h

both_hold : (a b : Bool) → (a && b) ≡ true → b ≡ true
both_hold true b h = h
both_hold false b h = absurd (cc)

pub hears_served : (setup : Setup) (writes : Writing) (now : ℕ) (s : BothLegs) (was : Bool) (after : Option JobValue) (old new : Listener) → HearsJob writes s.leg old → was ≡ is_some (job_sent s.leg)
    → after ≡ job_sent (option_map (leg_ticked writes now) (sends_if setup writes now s).leg) → BeginsIf was after old new → HearsJob writes (option_map (leg_ticked writes now) (sends_if setup writes now s).leg) new
hears_served setup writes now s was after old new h w a b = by (begins_next setup s.leg) refl a
  where
    by : (t : Bool) → begins_next setup s.leg ≡ t → after ≡ job_sent (option_map (leg_ticked writes now) (if◌then◌else◌ {A = BothLegs} t (sends true setup writes now s) s).leg)
        → HearsJob writes (option_map (leg_ticked writes now) (if◌then◌else◌ {A = BothLegs} t (sends true setup writes now s) s).leg) new
    by true e x = goes writes now true _ _ s.leg was after old new (λ y. both_hold (not setup.asks) (is_free s.leg) e) h w x b
    by false e x = goes writes now false None (core_left setup writes s.leg) s.leg was after old new (λ y. absurd (cc y)) h w x b

-- the same of what is given: to a call that begins in the tick too
pub gives_served : (setup : Setup) (writes : Writing) (now : ℕ) (s : BothLegs) (was : Bool) (after : Option JobValue) (old new : Listener) → GivesJob setup s.leg old → was ≡ is_some (job_sent s.leg)
    → after ≡ job_sent (option_map (leg_ticked writes now) (sends_if setup writes now s).leg) → GivesIf was after old new → GivesJob setup (sends_if setup writes now s).leg new
gives_served setup writes now s was after old new h w a b = by (begins_next setup s.leg) refl a
  where
    by : (t : Bool) → begins_next setup s.leg ≡ t → after ≡ job_sent (option_map (leg_ticked writes now) (if◌then◌else◌ {A = BothLegs} t (sends true setup writes now s) s).leg)
        → GivesJob setup (if◌then◌else◌ {A = BothLegs} t (sends true setup writes now s) s).leg new
    by true e x = goes_giving setup writes now true _ _ s.leg was after old new (λ y. both_hold (not setup.asks) (is_free s.leg) e) h w x b
    by false e x = goes_giving setup writes now false None (core_left setup writes s.leg) s.leg was after old new (λ y. absurd (cc y)) h w x b

pub gives_job_ticked : (setup : Setup) (writes : Writing) (now : ℕ) (leg : Option CalledLeg) (octets : Option (List ℕ)) (old new : Listener) → octets ≡ told_called setup writes leg now → GivesJob setup leg old
    → EachHearing old (λ arrived. IsHearing (arrived_after arrived octets) new) → KeepsToCalled old new → GivesJob setup (option_map (leg_ticked writes now) leg) new
gives_job_ticked setup writes now None octets old new is h on stays =
    (stays [] h.1 h.0, subst (λ (o : Option (List ℕ)). IsHearing (arrived_after [] o) new) is (on [] h.1))
gives_job_ticked setup writes now (Some l) octets old new is h on stays = by l.entered is
  where
    before : List DatagramValue
    before = given_datagrams setup l.given

    one : (given : Option Packet) → octets ≡ told_by setup l.given given → IsHearing (given_datagrams setup (packets_given given l.given)) new
    one None none = subst (λ (o : Option (List ℕ)). IsHearing (arrived_after before o) new) none (on before h.1)
    one (Some packet) some = subst (λ (o : Option (List ℕ)). IsHearing (arrived_after before o) new) some (on before h.1)

    by : (e : Bool) → octets ≡ (if◌then◌else◌ {A = Option (List ℕ)} e None (told_by setup l.given (calls writes l now).given))
        → GivesJob setup (Some (if◌then◌else◌ {A = CalledLeg} e l (with_tick (calls writes l now) now l))) new
    by true none = (stays before h.1 h.0, subst (λ (o : Option (List ℕ)). IsHearing (arrived_after before o) new) none (on before h.1))
    by false given = (stays before h.1 h.0, one (calls writes l now).given given)

-- the job that is sent
pub job_is : (setup : Setup) (writes : Writing) (trace : List Event) (gateway : GatewayValue) → JobsHaveStates → IsReachedBy setup writes trace gateway
    → job_sent (both_legs setup writes trace).leg ≡ gateway.book.sending
job_is setup writes trace gateway states r = sym (ap (λ (b : Book). b.sending) r.book ∙ (states setup writes trace r.is_trace).sending)

-- and whether one is
pub some_copied : {T : Type 0} (r : Option (Bor T)) → is_some (option_copied r) ≡ is_some r
some_copied None = refl
some_copied (Some b) = refl
