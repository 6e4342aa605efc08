-- In an exchange the gateway makes one call, and the datagrams that it hands over on its called leg are those of the packets that it
-- gives there.
use Rattle.std.proofs.Common.{◌≡◌, ℕ, ◌-◌, max, Bool, true, false, not, ◌&&◌, List, [], ◌∷◌, ◌++◌, length, drop, slice_get, ◌⊎◌, inl, inr, is_some, Option, Some, None, option_map, refl, sym, ◌∙◌, ap, subst, arith, append-nil, append_assoc, length-drop, if◌then◌else◌}
use Rattle.std.specs.List.{AllByRecursion}
use Rattle.std.proofs.lemmas.List.Concat.{flat_map-append}
use Rattle.std.proofs.lemmas.List.Elements.{recursion_from_All}
use Rattle.fax_jobs.specs.declared.outcome.Outcome.{Outcome}
use Rattle.fax_jobs.specs.declared.report.Report.{Report}
use Rattle.fax_jobs.specs.Books.{kept_reports, last_of}
use Rattle.fax_jobs.specs.Jobs.{JobValue}
use Rattle.fax_call.specs.Writings.{Writing}
use Rattle.fax_call.specs.Calls.{CallerCore}
use Rattle.fax_gateway.specs.declared.leg.Leg.{Leg}
use Rattle.fax_gateway.specs.declared.leg.Leg.TheVariants as legs
use Rattle.fax_gateway.specs.Setups.{Setup}
use Rattle.fax_gateway.specs.Events.{Event, Ring, FromCalling, FromCalled, Tick, Placed, Given, clock}
use Rattle.fax_gateway.specs.CallingLegs.{calling_leg}
use Rattle.fax_gateway.specs.CalledLegs.{CalledLeg, calls, core_left, delivered_told, hears, is_free, leg_ticked, outcome_of, report_by, told_by, told_called, told_report, with_tick}
use Rattle.fax_gateway.specs.Driving.{Entry, Accepts, RefusesRing, RefusesDatagram, RefusesTick, ReceivesNothing, FailsToReceive, Sends, AreReceives, GivesNoDatagram, Comes, IsSent, IsTick, IsTurn, events, events_in, sent, sent_in}
use Rattle.fax_gateway.specs.Reports.{JobsHaveStates, report_list, reports_given}
use Rattle.fax_gateway.specs.BothLegs.{BothLegs, begins_next, book_of, both_legs, heard_in_tick, in_tick, leg_of, sends, sends_if}
use Rattle.fax_gateway.specs.Traces.{IsTrace}
use Rattle.fax_gateway.specs.Wires.{HandedDatagram}
use Rattle.fax_terminal.specs.Ends.{handed}
use Rattle.fax_loop.specs.Exchanges.{AreRounds, Round, log_after, moment_after, trace_after}
use Rattle.fax_loop.specs.Faithful.{given_by}
use Rattle.fax_loop.specs.Links.{handed_called}
use Rattle.fax_terminal.specs.Terminals.{datagrams_of}
use Rattle.fax_gateway.proofs.DrivingLemmas.{sends_no_event}
use Rattle.fax_terminal.proofs.CallingLemmas.{datagrams_of-given}
use Rattle.fax_gateway.proofs.EachLeg.{hears_each}

-- ---- A CALL THAT IS OVER WAS REPORTED
abbrev HasReport : Option CalledLeg → List Report → Type 0
HasReport None reports = Unit {0}
HasReport (Some l) reports = l.entered ≡ true → reports ≡ [] → ⊥

some_after : (reports : List Report) (report : Report) → reports ++ report ∷ [] ≡ [] → ⊥
some_after [] report e = cc
some_after (r ∷ reports) report e = cc

some_before : (reports more : List Report) → (reports ≡ [] → ⊥) → reports ++ more ≡ [] → ⊥
some_before [] more f e = f refl
some_before (r ∷ reports) more f e = cc

-- as a tick leaves it: it was over, or ends there
served_report : (writes : Writing) (leg : Option CalledLeg) (now : ℕ) (reports : List Report) → HasReport leg reports → HasReport (option_map (leg_ticked writes now) leg) (reports ++ report_list (told_report writes leg now))
served_report writes None now reports h = tt
served_report writes (Some l) now reports h = by l.entered h
  where
    delivered : ℕ
    delivered = delivered_told writes (Some l) now

    core : CallerCore
    core = (calls writes l now).core

    ends : (o : Option Outcome) → is_some o ≡ true → reports ++ report_list (report_by l delivered o) ≡ [] → ⊥
    ends None e f = cc
    ends (Some outcome) e f = some_after reports _ f

    by : (b : Bool) → (b ≡ true → reports ≡ [] → ⊥)
        → HasReport (Some (if◌then◌else◌ {A = CalledLeg} b l (with_tick (calls writes l now) now l))) (reports ++ report_list (report_by l delivered (if◌then◌else◌ {A = Option Outcome} b None (outcome_of core))))
    by true f = λ e. some_before reports [] (f refl)
    by false f = ends (outcome_of core)

begun_report : (connected : Bool) (o : Option JobValue) (leg : Option CalledLeg) (before : CallerCore) (now : ℕ) (reports : List Report) → HasReport leg reports → HasReport (leg_of connected o before now leg) reports
begun_report connected None leg before now reports h = h
begun_report connected (Some job) leg before now reports h = λ e. absurd (let f : false ≡ true = e in cc)

placed_report : (connected : Bool) (setup : Setup) (writes : Writing) (now : ℕ) (s : BothLegs) (reports : List Report) → HasReport s.leg reports → HasReport (sends connected setup writes now s).leg reports
placed_report connected setup writes now s reports h = begun_report connected (book_of (sends connected setup writes now s)).sending s.leg (core_left setup writes s.leg) now reports h

sends_report : (setup : Setup) (writes : Writing) (now : ℕ) (s : BothLegs) (reports : List Report) → HasReport s.leg reports → HasReport (sends_if setup writes now s).leg reports
sends_report setup writes now s reports h = by (begins_next setup s.leg)
  where
    by : (b : Bool) → HasReport (if◌then◌else◌ {A = BothLegs} b (sends true setup writes now s) s).leg reports
    by true = placed_report true setup writes now s reports h
    by false = h

hears_report : (writes : Writing) (leg : Option CalledLeg) (octets : List ℕ) (now : ℕ) (reports : List Report) → HasReport leg reports → HasReport (option_map (hears writes octets now) leg) reports
hears_report writes None octets now reports h = tt
hears_report writes (Some l) octets now reports h = hears_each (λ (k : CalledLeg). HasReport (Some k) reports) octets (λ k n d e x. x) writes now l h

has_report : (setup : Setup) (writes : Writing) (trace : List Event) → IsTrace setup writes trace → HasReport (both_legs setup writes trace).leg (reports_given trace)
has_report setup writes [] t = tt
has_report setup writes (Ring at number ∷ earlier) t = has_report setup writes earlier t.1
has_report setup writes (FromCalling octets at decided read ∷ earlier) t = has_report setup writes earlier t.1
has_report setup writes (FromCalled octets at decided ∷ earlier) t =
    hears_report writes (both_legs setup writes earlier).leg octets (clock (FromCalled octets at decided ∷ earlier)) (reports_given earlier) (has_report setup writes earlier t.1)
has_report setup writes (Tick at given ∷ earlier) t =
    let now : ℕ = max at (clock earlier) in
    let old : BothLegs = both_legs setup writes earlier in
    let z : BothLegs = record old { steps = heard_in_tick (calling_leg setup earlier) now old.steps } in
    let middle : BothLegs = in_tick setup writes earlier at in
    subst (λ (r : Option Report). HasReport (option_map (leg_ticked writes now) middle.leg) (reports_given earlier ++ report_list r)) (sym (ap (λ (g : Given). g.report) t.0))
    (served_report writes middle.leg now (reports_given earlier) (sends_report setup writes now z (reports_given earlier) (has_report setup writes earlier t.1)))
has_report setup writes (Placed at connected ∷ earlier) t =
    placed_report connected setup writes (clock (Placed at connected ∷ earlier)) (both_legs setup writes earlier) (reports_given earlier) (has_report setup writes earlier t.1)

-- none was reported: the call, where one is on, is not over
abbrev IsOpen : Option CalledLeg → Type 0
IsOpen None = Unit {0}
IsOpen (Some l) = l.entered ≡ false

none_first : (reports : List Report) → slice_get reports 0 ≡ None → length reports ≡ 0
none_first [] e = refl
none_first (r ∷ reports) e = cc

none_last : (reports : List Report) → slice_get (last_of kept_reports reports) 0 ≡ None → reports ≡ []
none_last [] e = refl
none_last (r ∷ reports) e =
    let all : List Report = r ∷ reports in
    let l : length (drop (length all - 64) all) ≡ length all - (length all - 64) = length-drop (length all - 64) all in
    let n : length (drop (length all - 64) all) ≡ 0 = none_first (drop (length all - 64) all) e in
    absurd (omega arith)

pub none_reported : JobsHaveStates → (setup : Setup) (writes : Writing) (trace : List Event) → IsTrace setup writes trace → slice_get (book_of (both_legs setup writes trace)).reports 0 ≡ None → reports_given trace ≡ []
none_reported law setup writes trace t none = none_last (reports_given trace) (subst (λ (rs : List Report). slice_get rs 0 ≡ None) (law setup writes trace t).last_reports none)

is_open : JobsHaveStates → (setup : Setup) (writes : Writing) (trace : List Event) → IsTrace setup writes trace → slice_get (book_of (both_legs setup writes trace)).reports 0 ≡ None → IsOpen (both_legs setup writes trace).leg
is_open law setup writes trace t none = by (both_legs setup writes trace).leg (has_report setup writes trace t)
  where
    is_none : reports_given trace ≡ []
    is_none = none_reported law setup writes trace t none

    by : (o : Option CalledLeg) → HasReport o (reports_given trace) → IsOpen o
    by None h = tt
    by (Some l) h = on l.entered h
      where
        on : (b : Bool) → (b ≡ true → reports_given trace ≡ [] → ⊥) → b ≡ false
        on true f = absurd (f refl is_none)
        on false f = refl

-- ---- WHAT IS RECEIVED gives nothing
abbrev pub OnlyComes : List Event → Type 0
OnlyComes [] = Unit {0}
OnlyComes (Ring at number ∷ earlier) = ⊥
OnlyComes (FromCalling octets at decided read ∷ earlier) = OnlyComes earlier
OnlyComes (FromCalled octets at decided ∷ earlier) = OnlyComes earlier
OnlyComes (Tick at given ∷ earlier) = ⊥
OnlyComes (Placed at connected ∷ earlier) = ⊥

record IsAs (old new : Option CalledLeg) : Type 0 where
  given : given_by new ≡ given_by old
  stays : IsOpen old → IsOpen new

hears_as : (writes : Writing) (leg : Option CalledLeg) (octets : List ℕ) (now : ℕ) → IsAs leg (option_map (hears writes octets now) leg)
hears_as writes None octets now = record { given = refl; stays = λ h. h }
hears_as writes (Some l) octets now = hears_each (λ (k : CalledLeg). IsAs (Some l) (Some k)) octets (λ k n d e x. record { given = x.given; stays = x.stays }) writes now l (record { given = refl; stays = λ h. h })

comes_as : (setup : Setup) (writes : Writing) (came trace : List Event) → OnlyComes came → IsAs (both_legs setup writes trace).leg (both_legs setup writes (came ++ trace)).leg
comes_as setup writes [] trace c = record { given = refl; stays = λ h. h }
comes_as setup writes (Ring at number ∷ came) trace c = absurd c
comes_as setup writes (FromCalling octets at decided read ∷ came) trace c =
    let a = comes_as setup writes came trace c in record { given = a.given; stays = a.stays }
comes_as setup writes (FromCalled octets at decided ∷ came) trace c =
    let a = comes_as setup writes came trace c in
    let b = hears_as writes (both_legs setup writes (came ++ trace)).leg octets (clock (FromCalled octets at decided ∷ (came ++ trace))) in
    record { given = b.given ∙ a.given; stays = λ h. b.stays (a.stays h) }
comes_as setup writes (Tick at given ∷ came) trace c = absurd c
comes_as setup writes (Placed at connected ∷ came) trace c = absurd c

-- ---- A TICK gives a packet at most, in the call that is on
begun_given : (o : Option JobValue) (before : CallerCore) (now : ℕ) → given_by (leg_of true o before now None) ≡ []
begun_given None before now = refl
begun_given (Some job) before now = refl

sends_given : (setup : Setup) (writes : Writing) (now : ℕ) (s : BothLegs) (leg : Option CalledLeg) → s.leg ≡ leg → IsOpen leg → given_by (sends_if setup writes now s).leg ≡ given_by leg
sends_given setup writes now s None e h = by (begins_next setup s.leg)
  where
    by : (b : Bool) → given_by (if◌then◌else◌ {A = BothLegs} b (sends true setup writes now s) s).leg ≡ []
    by true = ap (λ (o : Option CalledLeg). given_by (leg_of true (book_of (sends true setup writes now s)).sending (core_left setup writes s.leg) now o)) e ∙ begun_given (book_of (sends true setup writes now s)).sending (core_left setup writes s.leg) now
    by false = ap given_by e
sends_given setup writes now s (Some l) e h = by (begins_next setup s.leg) (none_begins setup.asks)
  where
    none_begins : (asks : Bool) → (not asks && is_free s.leg) ≡ false
    none_begins true = refl
    none_begins false = ap is_free e ∙ h

    by : (b : Bool) → b ≡ false → given_by (if◌then◌else◌ {A = BothLegs} b (sends true setup writes now s) s).leg ≡ l.given
    by true f = cc
    by false f = ap given_by e

ticked_given : (setup : Setup) (writes : Writing) (leg : Option CalledLeg) (now : ℕ) → datagrams_of setup (given_by (option_map (leg_ticked writes now) leg)) ≡ handed (told_called setup writes leg now) ++ datagrams_of setup (given_by leg)
ticked_given setup writes None now = refl
ticked_given setup writes (Some l) now = by l.entered
  where
    by : (b : Bool) → datagrams_of setup (if◌then◌else◌ {A = CalledLeg} b l (with_tick (calls writes l now) now l)).given
        ≡ handed (if◌then◌else◌ {A = Option (List ℕ)} b None (told_by setup l.given (calls writes l now).given)) ++ datagrams_of setup l.given
    by true = refl
    by false = datagrams_of-given setup (calls writes l now).given l.given

tick_given : (setup : Setup) (writes : Writing) (earlier : List Event) (at : ℕ) (given : Given) → IsTrace setup writes (Tick at given ∷ earlier) → IsOpen (both_legs setup writes earlier).leg
    → datagrams_of setup (given_by (both_legs setup writes (Tick at given ∷ earlier)).leg) ≡ handed given.on_called ++ datagrams_of setup (given_by (both_legs setup writes earlier).leg)
tick_given setup writes earlier at given t open_so =
    let now : ℕ = max at (clock earlier) in
    let old : BothLegs = both_legs setup writes earlier in
    let z : BothLegs = record old { steps = heard_in_tick (calling_leg setup earlier) now old.steps } in
    let middle : BothLegs = in_tick setup writes earlier at in
    let same : given_by middle.leg ≡ given_by old.leg = sends_given setup writes now z old.leg refl open_so in
    ticked_given setup writes middle.leg now
    ∙ ap (λ (o : Option (List ℕ)). handed o ++ datagrams_of setup (given_by middle.leg)) (sym (ap (λ (g : Given). g.on_called) t.0))
    ∙ ap (λ (xs : List (List ℕ)). handed given.on_called ++ datagrams_of setup xs) same

-- ---- A TURN, as its log tells
abbrev pub IsQuiet : Entry → Type 0
IsQuiet entry = OnlyComes (events_in entry) × (sent_in entry ≡ [])

abbrev pub AreQuiet : List Entry → Type 0
AreQuiet [] = Unit {0}
AreQuiet (entry ∷ log) = IsQuiet entry × AreQuiet log

pub quiet_both : (log more : List Entry) → AreQuiet log → AreQuiet more → AreQuiet (log ++ more)
quiet_both [] more a b = b
quiet_both (entry ∷ log) more a b = (a.0, quiet_both log more a.1 b)

comes_quiet : (at : Leg) (now : ℕ) (entry : Entry) → Comes at now entry → IsQuiet entry
comes_quiet at now (Accepts (Ring moment number)) c = absurd c
comes_quiet at now (Accepts (FromCalling octets moment decided read)) c = (tt, refl)
comes_quiet at now (Accepts (FromCalled octets moment decided)) c = (tt, refl)
comes_quiet at now (Accepts (Tick moment given)) c = absurd c
comes_quiet at now (Accepts (Placed moment connected)) c = absurd c
comes_quiet at now (RefusesRing fault) c = (tt, refl)
comes_quiet at now (RefusesDatagram on octets) c = (tt, refl)
comes_quiet at now (RefusesTick moment) c = (tt, refl)
comes_quiet at now (ReceivesNothing on) c = (tt, refl)
comes_quiet at now (FailsToReceive on) c = (tt, refl)
comes_quiet at now (Sends on octets fails) c = absurd c

all_quiet : (at : Leg) (now : ℕ) (log : List Entry) → AllByRecursion (Comes at now) log → AreQuiet log
all_quiet at now [] a = tt
all_quiet at now (entry ∷ log) a = (comes_quiet at now entry a.0, all_quiet at now log a.1)

gives_quiet : (at : Leg) (entry : Entry) → GivesNoDatagram at entry → IsQuiet entry
gives_quiet at entry (inl e) = subst IsQuiet (sym e) (tt, refl)
gives_quiet at entry (inr e) = subst IsQuiet (sym e) (tt, refl)

pub receives_quiet : (at : Leg) (now : ℕ) (log : List Entry) → AreReceives at now log → AreQuiet log
receives_quiet at now log (inl a) = all_quiet at now log (recursion_from_All (Comes at now) log a.0)
receives_quiet at now log (inr r) = subst AreQuiet (sym r.2) (gives_quiet at r.1 r.5, all_quiet at now r.0 (recursion_from_All (Comes at now) r.0 r.3))

only_both : (xs ys : List Event) → OnlyComes xs → OnlyComes ys → OnlyComes (xs ++ ys)
only_both [] ys a b = b
only_both (Ring at number ∷ xs) ys a b = absurd a
only_both (FromCalling octets at decided read ∷ xs) ys a b = only_both xs ys a b
only_both (FromCalled octets at decided ∷ xs) ys a b = only_both xs ys a b
only_both (Tick at given ∷ xs) ys a b = absurd a
only_both (Placed at connected ∷ xs) ys a b = absurd a

quiet_events : (log : List Entry) → AreQuiet log → OnlyComes (events log)
quiet_events [] q = tt
quiet_events (entry ∷ log) q = only_both (events_in entry) (events log) q.0.0 (quiet_events log q.1)

pub quiet_sent : (log : List Entry) → AreQuiet log → sent log ≡ []
quiet_sent [] q = refl
quiet_sent (entry ∷ log) q = ap (λ (hs : List HandedDatagram). hs ++ sent log) q.0.1 ∙ quiet_sent log q.1

sent_called : (o : Option (List ℕ)) (log : List Entry) (earlier : List HandedDatagram) → IsSent legs.Called o log → handed_called (sent log ++ earlier) ≡ handed o ++ handed_called earlier
sent_called None log earlier e = subst (λ (l : List Entry). handed_called (sent l ++ earlier) ≡ handed_called earlier) (sym e) refl
sent_called (Some octets) log earlier e = subst (λ (l : List Entry). handed_called (sent l ++ earlier) ≡ octets ∷ handed_called earlier) (sym e.1) refl

sent_calling : (o : Option (List ℕ)) (log : List Entry) (earlier : List HandedDatagram) → IsSent legs.Calling o log → handed_called (sent log ++ earlier) ≡ handed_called earlier
sent_calling None log earlier e = subst (λ (l : List Entry). handed_called (sent l ++ earlier) ≡ handed_called earlier) (sym e) refl
sent_calling (Some octets) log earlier e = subst (λ (l : List Entry). handed_called (sent l ++ earlier) ≡ handed_called earlier) (sym e.1) refl

-- what the tick hands over, and which event it is
pub tick_hands : (given : Given) (calling called log : List Entry) (tick : Entry) (earlier : List HandedDatagram) → sent_in tick ≡ [] → IsSent legs.Calling given.on_calling calling → IsSent legs.Called given.on_called called
    → log ≡ called ++ (calling ++ tick ∷ []) → handed_called (sent log ++ earlier) ≡ handed given.on_called ++ handed_called earlier
tick_hands given calling called log tick earlier none first second is =
    ap (λ (l : List Entry). handed_called (sent l ++ earlier)) is
    ∙ ap (λ (hs : List HandedDatagram). handed_called (hs ++ earlier)) (flat_map-append sent_in called (calling ++ tick ∷ []))
    ∙ ap handed_called (append_assoc (sent called) (sent (calling ++ tick ∷ [])) earlier)
    ∙ sent_called given.on_called called (sent (calling ++ tick ∷ []) ++ earlier) second
    ∙ ap (λ (hs : List (List ℕ)). handed given.on_called ++ hs)
    (ap (λ (hs : List HandedDatagram). handed_called (hs ++ earlier)) (flat_map-append sent_in calling (tick ∷ []))
    ∙ ap handed_called (append_assoc (sent calling) (sent (tick ∷ [])) earlier)
    ∙ sent_calling given.on_calling calling (sent (tick ∷ []) ++ earlier) first
    ∙ ap (λ (hs : List HandedDatagram). handed_called ((hs ++ []) ++ earlier)) none)

pub tick_event : (now : ℕ) (given : Given) (calling called log : List Entry) → IsSent legs.Calling given.on_calling calling → IsSent legs.Called given.on_called called
    → log ≡ called ++ (calling ++ Accepts (Tick now given) ∷ []) → events log ≡ Tick now given ∷ []
tick_event now given calling called log first second is =
    let tick : List Entry = Accepts (Tick now given) ∷ [] in
    ap events is ∙ flat_map-append events_in called (calling ++ tick) ∙ ap (λ (es : List Event). es ++ events (calling ++ tick)) (sends_no_event legs.Called given.on_called called second)
    ∙ flat_map-append events_in calling tick ∙ ap (λ (es : List Event). es ++ events tick) (sends_no_event legs.Calling given.on_calling calling first)

tick_tells : (setup : Setup) (writes : Writing) (now : ℕ) (log : List Entry) (trace : List Event) (earlier : List HandedDatagram) → IsTick now log → IsTrace setup writes (events log ++ trace) → IsOpen (both_legs setup writes trace).leg
    → handed_called earlier ≡ datagrams_of setup (given_by (both_legs setup writes trace).leg) → handed_called (sent log ++ earlier) ≡ datagrams_of setup (given_by (both_legs setup writes (events log ++ trace)).leg)
tick_tells setup writes now log trace earlier (inr e) t h x =
    ap (λ (l : List Entry). handed_called (sent l ++ earlier)) e ∙ x ∙ ap (λ (l : List Entry). datagrams_of setup (given_by (both_legs setup writes (events l ++ trace)).leg)) (sym e)
tick_tells setup writes now log trace earlier (inl k) t h x =
    let is : events log ≡ Tick now k.0 ∷ [] = tick_event now k.0 k.1 k.2 log k.3 k.4 k.5 in
    tick_hands k.0 k.1 k.2 log (Accepts (Tick now k.0)) earlier refl k.3 k.4 k.5
    ∙ ap (λ (hs : List (List ℕ)). handed k.0.on_called ++ hs) x
    ∙ sym (tick_given setup writes trace now k.0 (subst (λ (es : List Event). IsTrace setup writes (es ++ trace)) is t) h)
    ∙ ap (λ (es : List Event). datagrams_of setup (given_by (both_legs setup writes (es ++ trace)).leg)) (sym is)

-- the trace before
pub trace_before : (setup : Setup) (writes : Writing) (later earlier : List Event) → IsTrace setup writes (later ++ earlier) → IsTrace setup writes earlier
trace_before setup writes [] earlier t = t
trace_before setup writes (e ∷ later) earlier t = trace_before setup writes later earlier t.1

turn_hands : (setup : Setup) (writes : Writing) (now : ℕ) (log : List Entry) (trace : List Event) (earlier : List HandedDatagram) → IsTurn now log → IsTrace setup writes (events log ++ trace) → IsOpen (both_legs setup writes trace).leg
    → handed_called earlier ≡ datagrams_of setup (given_by (both_legs setup writes trace).leg) → handed_called (sent log ++ earlier) ≡ datagrams_of setup (given_by (both_legs setup writes (events log ++ trace)).leg)
turn_hands setup writes now log trace earlier turn t h x =
    let came : List Entry = turn.called ++ turn.calling in
    let quiet : AreQuiet came = quiet_both turn.called turn.calling (receives_quiet legs.Called now turn.called turn.on_called) (receives_quiet legs.Calling now turn.calling turn.on_calling) in
    let a : IsAs (both_legs setup writes trace).leg (both_legs setup writes (events came ++ trace)).leg = comes_as setup writes (events came) trace (quiet_events came quiet) in
    let is : events log ++ trace ≡ events turn.tick ++ (events came ++ trace) =
    ap (λ (l : List Entry). events l ++ trace) turn.log_is ∙ ap (λ (es : List Event). es ++ trace) (flat_map-append events_in turn.tick came) ∙ append_assoc (events turn.tick) (events came) trace in
    let on : IsTrace setup writes (events turn.tick ++ (events came ++ trace)) = subst (IsTrace setup writes) is t in
    let all : sent log ≡ sent turn.tick =
    ap sent turn.log_is ∙ flat_map-append sent_in turn.tick came ∙ ap (λ (hs : List HandedDatagram). sent turn.tick ++ hs) (quiet_sent came quiet) ∙ append-nil (sent turn.tick) in
    ap (λ (hs : List HandedDatagram). handed_called (hs ++ earlier)) all ∙ tick_tells setup writes now turn.tick (events came ++ trace) earlier turn.ticks on (a.stays h) (x ∙ ap (datagrams_of setup) (sym a.given))
    ∙ ap (λ (es : List Event). datagrams_of setup (given_by (both_legs setup writes es).leg)) (sym is)

-- the events of a turn: what came, and then a tick, or none
pub record IsTicked (before trace : List Event) : Type 0 where
  pub now : ℕ
  pub given : Given
  pub is : trace ≡ Tick now given ∷ before

pub record IsTurned (before trace : List Event) : Type 0 where
  pub came : List Event
  pub only : OnlyComes came
  pub tick : (trace ≡ came ++ before) ⊎ IsTicked (came ++ before) trace

tick_events : (now : ℕ) (log : List Entry) → IsTick now log → (events log ≡ []) ⊎ ((given : Given) × (events log ≡ Tick now given ∷ []))
tick_events now log (inr e) = inl (ap events e)
tick_events now log (inl k) = inr (k.0, tick_event now k.0 k.1 k.2 log k.3 k.4 k.5)

pub is_turned : (now : ℕ) (log : List Entry) (before trace : List Event) → IsTurn now log → trace ≡ events log ++ before → IsTurned before trace
is_turned now log before trace turn e = record { came = events came; only = quiet_events came quiet; tick = by (tick_events now turn.tick turn.ticks) }
  where
    came : List Entry
    came = turn.called ++ turn.calling

    quiet : AreQuiet came
    quiet = quiet_both turn.called turn.calling (receives_quiet legs.Called now turn.called turn.on_called) (receives_quiet legs.Calling now turn.calling turn.on_calling)

    is : trace ≡ events turn.tick ++ (events came ++ before)
    is = e ∙ ap (λ (l : List Entry). events l ++ before) turn.log_is ∙ ap (λ (es : List Event). es ++ before) (flat_map-append events_in turn.tick came) ∙ append_assoc (events turn.tick) (events came) before

    by : (events turn.tick ≡ []) ⊎ ((given : Given) × (events turn.tick ≡ Tick now given ∷ [])) → (trace ≡ events came ++ before) ⊎ IsTicked (events came ++ before) trace
    by (inl none) = inl (is ∙ ap (λ (es : List Event). es ++ (events came ++ before)) none)
    by (inr k) = inr (record { now = now; given = k.0; is = is ∙ ap (λ (es : List Event). es ++ (events came ++ before)) k.1 })

-- ---- ALL ROUNDS
pub after_is : (round : Round) (earlier : List Round) → trace_after (round ∷ earlier) ≡ events round.gateway ++ trace_after earlier
after_is round earlier =
    ap (λ (es : List Event). es ++ Ring 0 0 ∷ []) (flat_map-append events_in round.gateway (log_after earlier)) ∙ append_assoc (events round.gateway) (events (log_after earlier)) (Ring 0 0 ∷ [])

pub hands_what_it_gave : JobsHaveStates → (setup : Setup) (writes : Writing) (rounds : List Round) → AreRounds setup writes rounds → IsTrace setup writes (trace_after rounds)
    → handed_called (sent (log_after rounds)) ≡ datagrams_of setup (given_by (both_legs setup writes (trace_after rounds)).leg)
hands_what_it_gave law setup writes [] a t = refl
hands_what_it_gave law setup writes (round ∷ earlier) a t =
    let on : IsTrace setup writes (events round.gateway ++ trace_after earlier) = subst (IsTrace setup writes) (after_is round earlier) t in
    let old : IsTrace setup writes (trace_after earlier) = trace_before setup writes (events round.gateway) (trace_after earlier) on in
    ap handed_called (flat_map-append sent_in round.gateway (log_after earlier))
    ∙ turn_hands setup writes (moment_after earlier) round.gateway (trace_after earlier) (sent (log_after earlier)) a.0.turn on (is_open law setup writes (trace_after earlier) old a.0.unreported)
    (hands_what_it_gave law setup writes earlier a.1 old)
    ∙ ap (λ (es : List Event). datagrams_of setup (given_by (both_legs setup writes es).leg)) (sym (after_is round earlier))
