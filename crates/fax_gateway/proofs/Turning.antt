-- What is told of ticks and turns.
use Rattle.std.proofs.Common.{◌≡◌, ℕ, max, Bool, true, false, not, List, [], ◌∷◌, ◌++◌, Option, Some, None, Result, Ok, Err, inl, inr, refl, sym, ◌∙◌, ap, subst, append_assoc}
use Rattle.std.specs.List.{All}
use Rattle.std.proofs.lemmas.Bool.{false≢true}
use Rattle.std.proofs.lemmas.List.Elements.{All-head, All-tail}
use Rattle.std.proofs.lemmas.Grind.{flat_map-append}
use Rattle.fax_jobs.specs.declared.report.Report.{Report}
use Rattle.fax_gateway.specs.declared.leg.Leg.{Leg}
use Rattle.fax_gateway.specs.declared.leg.Leg.TheVariants as legs
use Rattle.fax_gateway.specs.declared.given.Kept.{Kept}
use Rattle.fax_gateway.specs.declared.given.RefusedPage.{RefusedPage}
use Rattle.fax_gateway.specs.Setups.{Setup}
use Rattle.fax_gateway.specs.Events.{Event, Ring, FromCalling, FromCalled, Tick, Placed, Given, clock}
use Rattle.fax_gateway.specs.CallingLegs.{CallingLeg, calling_leg}
use Rattle.fax_gateway.specs.Reports.{report_list, reports_given}
use Rattle.fax_gateway.specs.Reached.{HasNumber, confirmed_on, ended_on}
use Rattle.fax_gateway.specs.Driving.{Entry, Accepts, AreReceives, GivesNoDatagram, Comes, FailsToReceive, IsSent, ReceivesNothing, RefusesDatagram, RefusesRing, RefusesTick, Sends, events, events_in}
use Rattle.fax_gateway.specs.Turns.{AreRefused, IsRefusedAt, Refuses, TellTicks, call_if, call_list, calls_given_up, given_up_at, kept_at, kept_if, kept_list, pages_confirmed, refused_if}
use Rattle.fax_gateway.proofs.DrivingLemmas.{sends_no_event}

-- ---- a tick, by the number that is kept of the call

numbered_page : (leg : Option CallingLeg) (now number : ℕ) → HasNumber leg number → kept_if number (confirmed_on leg now) ≡ kept_at leg now
numbered_page None now number is = refl
numbered_page (Some l) now number is = ap (λ (n : ℕ). kept_if n (confirmed_on (Some l) now)) (sym is)

numbered_call : (leg : Option CallingLeg) (now number : ℕ) → HasNumber leg number → call_if (ended_on leg now) number ≡ given_up_at leg now
numbered_call None now number is = refl
numbered_call (Some l) now number is = ap (λ (n : ℕ). call_if (ended_on (Some l) now) n) (sym is)

pub page_told : (leg : Option CallingLeg) (now moment number : ℕ) (kept : Option Kept) → now ≡ moment → HasNumber leg number → kept ≡ kept_if number (confirmed_on leg now) → kept ≡ kept_at leg moment
page_told leg now moment number kept same is told = told ∙ numbered_page leg now number is ∙ ap (kept_at leg) same

numbered_refusal : (leg : Option CallingLeg) (now number : ℕ) (told : Option RefusedPage) → HasNumber leg number → Refuses leg now number told → IsRefusedAt leg now told
numbered_refusal None now number told is (why, none, same) = same ∙ ap (refused_if number) none
numbered_refusal (Some l) now number told is r = subst (λ (n : ℕ). Refuses (Some l) now n told) (sym is) r

pub refusal_told : (leg : Option CallingLeg) (now moment number : ℕ) (told : Option RefusedPage) → now ≡ moment → HasNumber leg number → Refuses leg now number told → IsRefusedAt leg moment told
refusal_told leg now moment number told same is r = subst (λ (m : ℕ). IsRefusedAt leg m told) same (numbered_refusal leg now number told is r)

pub call_told : (leg : Option CallingLeg) (now moment number : ℕ) (call : Option ℕ) → now ≡ moment → HasNumber leg number → call ≡ call_if (ended_on leg now) number → call ≡ given_up_at leg moment
call_told leg now moment number call same is told = told ∙ numbered_call leg now number is ∙ ap (given_up_at leg) same

-- ---- datagrams are no ticks

-- two traces of which the same ticks are told
record SameTicks (setup : Setup) (older newer : List Event) : Type 0 where
  reports : reports_given newer ≡ reports_given older
  pages : pages_confirmed setup newer ≡ pages_confirmed setup older
  refusals : (told : List RefusedPage) → AreRefused setup older told → AreRefused setup newer told
  calls : calls_given_up setup newer ≡ calls_given_up setup older

same_ticks : (setup : Setup) (trace : List Event) → SameTicks setup trace trace
same_ticks setup trace = record { reports = refl; pages = refl; refusals = λ told h. h; calls = refl }

-- a tick is refused only where something is due
pub due_where_refused : {A E P : Type 0} (b : Bool) (r : Result A E) (e : E) (x : A) → r ≡ Err e → (b ≡ false → (r ≡ Ok x) × P) → b ≡ true
due_where_refused true r e x err h = refl
due_where_refused false r e x err h = let ok = (h refl).0 in cc

comes_no_tick : (setup : Setup) (at : Leg) (now : ℕ) (e : Entry) (older trace : List Event) → Comes at now e → SameTicks setup older trace → SameTicks setup older (events_in e ++ trace)
comes_no_tick setup at now (Accepts (Ring moment number)) older trace h s = absurd h
comes_no_tick setup at now (Accepts (FromCalling octets moment decided read)) older trace h s = record { reports = s.reports; pages = s.pages; refusals = s.refusals; calls = s.calls }
comes_no_tick setup at now (Accepts (FromCalled octets moment decided)) older trace h s = record { reports = s.reports; pages = s.pages; refusals = s.refusals; calls = s.calls }
comes_no_tick setup at now (Accepts (Placed moment connected)) older trace h s = absurd h
comes_no_tick setup at now (Accepts (Tick moment given)) older trace h s = absurd h
comes_no_tick setup at now (RefusesRing fault) older trace h s = absurd h
comes_no_tick setup at now (RefusesDatagram on octets) older trace h s = s
comes_no_tick setup at now (RefusesTick moment) older trace h s = absurd h
comes_no_tick setup at now (ReceivesNothing on) older trace h s = absurd h
comes_no_tick setup at now (FailsToReceive on) older trace h s = absurd h
comes_no_tick setup at now (Sends on octets fails) older trace h s = absurd h

all_come_no_tick : (setup : Setup) (at : Leg) (now : ℕ) (log : List Entry) (trace : List Event) → All (Comes at now) log → SameTicks setup trace (events log ++ trace)
all_come_no_tick setup at now [] trace all = same_ticks setup trace
all_come_no_tick setup at now (e ∷ log) trace all =
    subst (λ (t : List Event). SameTicks setup trace t) (sym (append_assoc (events_in e) (events log) trace))
    (comes_no_tick setup at now e trace (events log ++ trace) (All-head (Comes at now) e log all) (all_come_no_tick setup at now log trace (All-tail (Comes at now) e log all)))

none_no_event : (at : Leg) (e : Entry) → GivesNoDatagram at e → events_in e ≡ []
none_no_event at e (inl is) = ap events_in is
none_no_event at e (inr is) = ap events_in is

receives_no_tick : (setup : Setup) (at : Leg) (now : ℕ) (log : List Entry) (trace : List Event) → AreReceives at now log → SameTicks setup trace (events log ++ trace)
receives_no_tick setup at now log trace (inl (each, many)) = all_come_no_tick setup at now log trace each
receives_no_tick setup at now log trace (inr (came, last, is, each, low, none)) =
    subst (λ (l : List Event). SameTicks setup trace (l ++ trace)) (sym (ap events is ∙ ap (λ (l : List Event). l ++ events came) (none_no_event at last none)))
    (all_come_no_tick setup at now came trace each)

-- ---- a tick

one_event : (now : ℕ) (given : Given) (calling called : List Entry) → IsSent legs.Calling given.on_calling calling → IsSent legs.Called given.on_called called
    → events (called ++ (calling ++ Accepts (Tick now given) ∷ [])) ≡ Tick now given ∷ []
one_event now given calling called first second =
    let tick : List Entry = Accepts (Tick now given) ∷ [] in
    flat_map-append events_in called (calling ++ tick) ∙ ap (λ (l : List Event). l ++ events (calling ++ tick)) (sends_no_event legs.Called given.on_called called second)
    ∙ flat_map-append events_in calling tick ∙ ap (λ (l : List Event). l ++ events tick) (sends_no_event legs.Calling given.on_calling calling first)

pub tick_tells :
    (setup : Setup) (trace : List Event) (now : ℕ) (given : Given) (calling called : List Entry) (report : Option Report) (kept : Option Kept) (refused : Option RefusedPage) (gave_up : Option ℕ)
    → IsSent legs.Calling given.on_calling calling → IsSent legs.Called given.on_called called
    → report ≡ given.report → kept ≡ kept_at (calling_leg setup trace) (max now (clock trace)) → IsRefusedAt (calling_leg setup trace) (max now (clock trace)) refused → gave_up ≡ given_up_at (calling_leg setup trace) (max now (clock trace))
    → TellTicks setup trace (events (called ++ (calling ++ Accepts (Tick now given) ∷ [])) ++ trace) report kept refused gave_up
tick_tells setup trace now given calling called report kept refused gave_up first second r k f u =
    subst (λ (l : List Event). TellTicks setup trace (l ++ trace) report kept refused gave_up) (sym (one_event now given calling called first second))
    (subst (λ (x : Option Report). TellTicks setup trace (Tick now given ∷ trace) x kept refused gave_up) (sym r)
    (subst (λ (x : Option Kept). TellTicks setup trace (Tick now given ∷ trace) given.report x refused gave_up) (sym k)
    (subst (λ (x : Option ℕ). TellTicks setup trace (Tick now given ∷ trace) given.report (kept_at (calling_leg setup trace) (max now (clock trace))) refused x) (sym u)
    (record { reports = refl; pages = refl; refusals = λ told h. (told, refused, h, f, refl); calls = refl }))))

-- what stays the same has nothing after it
none_after : {A : Type 0} (xs : List A) → xs ≡ xs ++ []
none_after [] = refl
none_after (x ∷ xs) = ap (λ l. x ∷ l) (none_after xs)

pub refused_tells : (setup : Setup) (trace : List Event) → TellTicks setup trace trace None None None None
refused_tells setup trace = record { reports = none_after (reports_given trace); pages = none_after (pages_confirmed setup trace); refusals = λ told h. subst (AreRefused setup trace) (none_after told) h; calls = none_after (calls_given_up setup trace) }

-- ---- a turn: the receives of both legs, and the tick

pub turn_tells :
    (setup : Setup) (now : ℕ) (calling called tick : List Entry) (trace : List Event) (report : Option Report) (kept : Option Kept) (refused : Option RefusedPage) (gave_up : Option ℕ)
    → AreReceives legs.Calling now calling → AreReceives legs.Called now called
    → TellTicks setup (events (called ++ calling) ++ trace) (events tick ++ (events (called ++ calling) ++ trace)) report kept refused gave_up
    → TellTicks setup trace (events (tick ++ (called ++ calling)) ++ trace) report kept refused gave_up
turn_tells setup now calling called tick trace report kept refused gave_up on_calling on_called told =
    let a = receives_no_tick setup legs.Calling now calling trace on_calling in
    let b = receives_no_tick setup legs.Called now called (events calling ++ trace) on_called in
    let mid : List Event = events (called ++ calling) ++ trace in
    let mid_is : events called ++ (events calling ++ trace) ≡ mid = sym (append_assoc (events called) (events calling) trace) ∙ ap (λ (l : List Event). l ++ trace) (sym (flat_map-append events_in called calling)) in
    let s = subst (λ (t : List Event). SameTicks setup (events calling ++ trace) t) mid_is b in
    let all_is : events tick ++ mid ≡ events (tick ++ (called ++ calling)) ++ trace =
    sym (append_assoc (events tick) (events (called ++ calling)) trace) ∙ ap (λ (l : List Event). l ++ trace) (sym (flat_map-append events_in tick (called ++ calling))) in
    subst (λ (t : List Event). TellTicks setup trace t report kept refused gave_up) all_is record {
      reports = told.reports ∙ ap (λ (l : List Report). l ++ report_list report) (s.reports ∙ a.reports);
      pages = told.pages ∙ ap (λ (l : List Kept). l ++ kept_list kept) (s.pages ∙ a.pages);
      refusals = λ before h. told.refusals before (s.refusals before (a.refusals before h));
      calls = told.calls ∙ ap (λ (l : List ℕ). l ++ call_list gave_up) (s.calls ∙ a.calls);
    }

-- whether a turn goes on, by the test that it does not
pub stops : (goes_on : Bool) → not goes_on ≡ true → goes_on ≡ false
stops true is = absurd (false≢true is)
stops false is = refl

pub goes : (goes_on : Bool) → not goes_on ≡ false → goes_on ≡ true
goes true is = refl
goes false is = absurd (false≢true (sym is))
