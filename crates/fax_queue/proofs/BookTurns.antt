-- A turn that tells a page adds it to the book and to what is put.
use Rattle.std.proofs.Common.{◌≡◌, ◌∙◌, ℕ, zero, suc, ◌-◌, max, Bool, true, false, List, [], ◌∷◌, ◌++◌, length, slice_get, Option, Some, None, inl, inr, refl, sym, ap, subst, append_assoc}
use Rattle.std.specs.List.{All}
use Rattle.std.proofs.lemmas.List.{append-nil, append_cancel_left}
use Rattle.std.proofs.lemmas.List.Elements.{All-head, All-tail}
use Rattle.std.proofs.lemmas.Grind.{flat_map-append}
use Rattle.fax_runcodes.specs.Widths.{elements_of}
use Rattle.fax_runcodes.specs.declared.format.Coding.TheVariants as codings
use Rattle.fax_pagestore.specs.Pages.{IsPage, PageValue}
use Rattle.fax_pagestore.specs.PageLaws.{PagesAreWritten, WrittenPagesMean}
use Rattle.fax_jobs.specs.declared.report.Report.{Report}
use Rattle.fax_jobs.specs.Jobs.{JobValue}
use Rattle.fax_jobs.specs.Books.{Book}
use Rattle.fax_jobs.specs.Newest.{closed_last, last_page, newest_page, or_else}
use Rattle.fax_jobs.specs.Pasts.{Past, as_list, jobs_of}
use Rattle.fax_answer.specs.Replies.{ConfirmedPage}
use Rattle.fax_call.specs.Writings.{Writing}
use Rattle.fax_gateway.specs.declared.leg.Leg.{Leg}
use Rattle.fax_gateway.specs.declared.leg.Leg.TheVariants as legs
use Rattle.fax_gateway.specs.declared.given.Kept.{Kept}
use Rattle.fax_gateway.specs.Setups.{Setup}
use Rattle.fax_gateway.specs.Events.{Event, Given, Ring, FromCalling, FromCalled, Tick, Placed, clock}
use Rattle.fax_gateway.specs.CallingLegs.{CallingLeg, calling_leg}
use Rattle.fax_gateway.specs.Cuts.{confirmed_at}
use Rattle.fax_gateway.specs.Newest.{ConfirmsTheNewest}
use Rattle.fax_gateway.specs.Origins.{AreOfTheirCalls, IsOfItsCall, JobsAreOfTheirCalls}
use Rattle.fax_gateway.specs.BothLegs.{book_of, both_legs, past_of}
use Rattle.fax_gateway.specs.Traces.{IsTrace}
use Rattle.fax_gateway.specs.Reports.{report_list, reports_given}
use Rattle.fax_gateway.specs.Driving.{Entry, Accepts, AreReceives, GivesNoDatagram, Comes, FailsToReceive, IsSent, IsTick, ReceivesNothing, RefusesDatagram, RefusesRing, RefusesTick, Sends, events, events_in}
use Rattle.fax_gateway.specs.Turns.{kept_at, kept_if, kept_list, pages_confirmed}
use Rattle.fax_gateway.proofs.DrivingLemmas.{sends_no_event}
use Rattle.fax_line.specs.Actions.{LineValue}
use Rattle.fax_line.specs.Settling.{IsOfTurn, IsStoredAs}
use Rattle.fax_line.specs.declared.settling.PageToStore.{PageToStore}
use Rattle.fax_spool.specs.RecordOctets as spool
use Rattle.fax_spool.specs.declared.spool_record.SpoolRecord.TheVariants.{Page}
use Rattle.fax_queue.specs.Storing.{IsRecordOf}
use Rattle.fax_queue.specs.Restorations.{Means}
use Rattle.fax_gateway.specs.Restored.{CallPage}
use Rattle.fax_wires.specs.holding.Storing.{LegAction, Turn, handed_by, handed_last}
use Rattle.fax_queue.specs.Book.{BookEntry, Confirms, confirms, confirms_on, reports, told_in}
use Rattle.fax_queue.specs.Histories.{IsStoredPage}
use Rattle.fax_queue.specs.OnLeg.{AreOnLeg, IsHandedOver, IsTurnOnLeg, page_at, page_if}
use Rattle.fax_queue.specs.TurnsTold.{EndsIn, IsPutAs, TurnsTellBoth}
use Rattle.fax_queue.proofs.Lives.{stored_pages_are_read}
use Rattle.fax_queue.proofs.Packing.{bits_are_padded}

-- ---- datagrams tell nothing

record IsQuiet (setup : Setup) (older newer : List Event) : Type 0 where
  reports : reports_given newer ≡ reports_given older
  pages : pages_confirmed setup newer ≡ pages_confirmed setup older
  told : (before : List BookEntry) → told_in setup newer before ≡ told_in setup older before
  legs : (actions : List LegAction) (kept : List CallPage) → AreOnLeg setup actions older kept → AreOnLeg setup actions newer kept

quiet_again : (setup : Setup) (older between newer : List Event) → IsQuiet setup older between → IsQuiet setup between newer → IsQuiet setup older newer
quiet_again setup older between newer first second = record {
  reports = second.reports ∙ first.reports;
  pages = second.pages ∙ first.pages;
  told = λ before. second.told before ∙ first.told before;
  legs = λ actions kept are. second.legs actions kept (first.legs actions kept are);
}

comes_quiet : (setup : Setup) (at : Leg) (now : ℕ) (e : Entry) (older trace : List Event) → Comes at now e → IsQuiet setup older trace → IsQuiet setup older (events_in e ++ trace)
comes_quiet setup at now (Accepts (Ring moment number)) older trace h s = absurd h
comes_quiet setup at now (Accepts (FromCalling octets moment decided read)) older trace h s = record { reports = s.reports; pages = s.pages; told = s.told; legs = s.legs }
comes_quiet setup at now (Accepts (FromCalled octets moment decided)) older trace h s = record { reports = s.reports; pages = s.pages; told = s.told; legs = s.legs }
comes_quiet setup at now (Accepts (Tick moment given)) older trace h s = absurd h
comes_quiet setup at now (Accepts (Placed moment connected)) older trace h s = absurd h
comes_quiet setup at now (RefusesRing fault) older trace h s = absurd h
comes_quiet setup at now (RefusesDatagram on octets) older trace h s = s
comes_quiet setup at now (RefusesTick moment) older trace h s = absurd h
comes_quiet setup at now (ReceivesNothing on) older trace h s = absurd h
comes_quiet setup at now (FailsToReceive on) older trace h s = absurd h
comes_quiet setup at now (Sends on octets fails) older trace h s = absurd h

all_quiet : (setup : Setup) (at : Leg) (now : ℕ) (log : List Entry) (trace : List Event) → All (Comes at now) log → IsQuiet setup trace (events log ++ trace)
all_quiet setup at now [] trace all = record { reports = refl; pages = refl; told = λ before. refl; legs = λ actions kept are. are }
all_quiet setup at now (e ∷ log) trace all =
    subst (λ (t : List Event). IsQuiet setup trace t) (sym (append_assoc (events_in e) (events log) trace))
    (comes_quiet setup at now e trace (events log ++ trace) (All-head (Comes at now) e log all) (all_quiet setup at now log trace (All-tail (Comes at now) e log all)))

none_no_event : (at : Leg) (e : Entry) → GivesNoDatagram at e → events_in e ≡ []
none_no_event at e (inl is) = ap events_in is
none_no_event at e (inr is) = ap events_in is

receives_quiet : (setup : Setup) (at : Leg) (now : ℕ) (log : List Entry) (trace : List Event) → AreReceives at now log → IsQuiet setup trace (events log ++ trace)
receives_quiet setup at now log trace (inl (each, many)) = all_quiet setup at now log trace each
receives_quiet setup at now log trace (inr (came, last, is, each, low, none)) =
    subst (λ (l : List Event). IsQuiet setup trace (l ++ trace)) (sym (ap events is ∙ ap (λ (l : List Event). l ++ events came) (none_no_event at last none)))
    (all_quiet setup at now came trace each)

one_event : (now : ℕ) (given : Given) (calling called : List Entry) → IsSent legs.Calling given.on_calling calling → IsSent legs.Called given.on_called called
    → events (called ++ (calling ++ Accepts (Tick now given) ∷ [])) ≡ Tick now given ∷ []
one_event now given calling called first second =
    let tick : List Entry = Accepts (Tick now given) ∷ [] in
    flat_map-append events_in called (calling ++ tick) ∙ ap (λ (l : List Event). l ++ events (calling ++ tick)) (sends_no_event legs.Called given.on_called called second)
    ∙ flat_map-append events_in calling tick ∙ ap (λ (l : List Event). l ++ events tick) (sends_no_event legs.Calling given.on_calling calling first)

-- ---- what a turn handed over on the calling leg

-- a log after another one
abbrev handed_from : Option (List ℕ) → List Entry → Option (List ℕ)
handed_from before [] = before
handed_from before (Accepts event ∷ earlier) = handed_from before earlier
handed_from before (RefusesRing fault ∷ earlier) = handed_from before earlier
handed_from before (RefusesDatagram at octets ∷ earlier) = handed_from before earlier
handed_from before (RefusesTick now ∷ earlier) = handed_from before earlier
handed_from before (ReceivesNothing at ∷ earlier) = handed_from before earlier
handed_from before (FailsToReceive at ∷ earlier) = handed_from before earlier
handed_from before (Sends at octets fails ∷ earlier) = handed_last at octets fails (handed_from before earlier)

handed_is : (log : List Entry) → handed_by log ≡ handed_from None log
handed_is [] = refl
handed_is (Accepts event ∷ earlier) = handed_is earlier
handed_is (RefusesRing fault ∷ earlier) = handed_is earlier
handed_is (RefusesDatagram at octets ∷ earlier) = handed_is earlier
handed_is (RefusesTick now ∷ earlier) = handed_is earlier
handed_is (ReceivesNothing at ∷ earlier) = handed_is earlier
handed_is (FailsToReceive at ∷ earlier) = handed_is earlier
handed_is (Sends at octets fails ∷ earlier) = ap (handed_last at octets fails) (handed_is earlier)

handed_both : (before : Option (List ℕ)) (newer older : List Entry) → handed_from before (newer ++ older) ≡ handed_from (handed_from before older) newer
handed_both before [] older = refl
handed_both before (Accepts event ∷ newer) older = handed_both before newer older
handed_both before (RefusesRing fault ∷ newer) older = handed_both before newer older
handed_both before (RefusesDatagram at octets ∷ newer) older = handed_both before newer older
handed_both before (RefusesTick now ∷ newer) older = handed_both before newer older
handed_both before (ReceivesNothing at ∷ newer) older = handed_both before newer older
handed_both before (FailsToReceive at ∷ newer) older = handed_both before newer older
handed_both before (Sends at octets fails ∷ newer) older = ap (handed_last at octets fails) (handed_both before newer older)

handed_came : (at : Leg) (now : ℕ) (before : Option (List ℕ)) (e : Entry) (log : List Entry) → Comes at now e → handed_from before (e ∷ log) ≡ handed_from before log
handed_came at now before (Accepts event) log h = refl
handed_came at now before (RefusesRing fault) log h = refl
handed_came at now before (RefusesDatagram on octets) log h = refl
handed_came at now before (RefusesTick moment) log h = refl
handed_came at now before (ReceivesNothing on) log h = refl
handed_came at now before (FailsToReceive on) log h = refl
handed_came at now before (Sends on octets fails) log h = absurd h

all_came : (at : Leg) (now : ℕ) (before : Option (List ℕ)) (log : List Entry) → All (Comes at now) log → handed_from before log ≡ before
all_came at now before [] all = refl
all_came at now before (e ∷ log) all = handed_came at now before e log (All-head (Comes at now) e log all) ∙ all_came at now before log (All-tail (Comes at now) e log all)

none_handed : (at : Leg) (before : Option (List ℕ)) (e : Entry) (log : List Entry) → GivesNoDatagram at e → handed_from before (e ∷ log) ≡ handed_from before log
none_handed at before e log (inl is) = ap (λ (x : Entry). handed_from before (x ∷ log)) is
none_handed at before e log (inr is) = ap (λ (x : Entry). handed_from before (x ∷ log)) is

-- receives hand nothing over
receives_hand_none : (at : Leg) (now : ℕ) (before : Option (List ℕ)) (log : List Entry) → AreReceives at now log → handed_from before log ≡ before
receives_hand_none at now before log (inl (each, many)) = all_came at now before log each
receives_hand_none at now before log (inr (came, last, is, each, low, none)) =
    ap (λ (l : List Entry). handed_from before l) is ∙ none_handed at before last came none ∙ all_came at now before came each

sent_on_called : (given : Option (List ℕ)) (before : Option (List ℕ)) (log : List Entry) → IsSent legs.Called given log → handed_from before log ≡ before
sent_on_called None before log is = ap (λ (l : List Entry). handed_from before l) is
sent_on_called (Some octets) before log is = ap (λ (l : List Entry). handed_from before l) is.1

lost_or_not : (octets : List ℕ) (fails : Bool) (before : Option (List ℕ)) → IsHandedOver (Some octets) (handed_last legs.Calling octets fails before)
lost_or_not octets true before = inr refl
lost_or_not octets false before = inl refl

sent_on_calling : (given : Option (List ℕ)) (log : List Entry) → IsSent legs.Calling given log → IsHandedOver given (handed_from None log)
sent_on_calling None log is = inl (ap (λ (l : List Entry). handed_from None l) is)
sent_on_calling (Some octets) log is = subst (λ (l : List Entry). IsHandedOver (Some octets) (handed_from None l)) (sym is.1) (lost_or_not octets is.0 None)

tick_hands : (now : ℕ) (given : Given) (calling called : List Entry) → IsSent legs.Calling given.on_calling calling → IsSent legs.Called given.on_called called
    → IsHandedOver given.on_calling (handed_from None (called ++ (calling ++ Accepts (Tick now given) ∷ [])))
tick_hands now given calling called first second =
    let tick : List Entry = Accepts (Tick now given) ∷ [] in
    subst (λ (o : Option (List ℕ)). IsHandedOver given.on_calling o)
    (sym (handed_both None called (calling ++ tick) ∙ sent_on_called given.on_called (handed_from None (calling ++ tick)) called second ∙ handed_both None calling tick))
    (sent_on_calling given.on_calling calling first)

-- a turn: what came, of which nothing is told, and then a tick, or none; and what it handed over on the calling leg
data Turned (setup : Setup) (log : List Entry) (older newer : List Event) : Type 0 where
  Ticked : (between : List Event) → (now : ℕ) → (given : Given) → IsQuiet setup older between → newer ≡ Tick now given ∷ between → IsHandedOver given.on_calling (handed_by log) → Turned setup log older newer
  Refused : IsQuiet setup older newer → handed_by log ≡ None → Turned setup log older newer

turned : (setup : Setup) (writes : Writing) (older newer : List Event) (line : LineValue) (ends : EndsIn setup writes older newer line) → Turned setup ends.log older newer
turned setup writes older newer line ends =
    let calling : List Entry = ends.turn.calling in
    let called : List Entry = ends.turn.called in
    let between : List Event = events called ++ (events calling ++ older) in
    let quiet : IsQuiet setup older between =
    quiet_again setup older (events calling ++ older) between (receives_quiet setup legs.Calling ends.now calling older ends.turn.on_calling)
    (receives_quiet setup legs.Called ends.now called (events calling ++ older) ends.turn.on_called) in
    let all : newer ≡ events ends.turn.tick ++ between =
    ends.longer ∙ ap (λ (l : List Entry). events l ++ older) ends.turn.log_is
    ∙ ap (λ (l : List Event). l ++ older) (flat_map-append events_in ends.turn.tick (called ++ calling) ∙ ap (λ (l : List Event). events ends.turn.tick ++ l) (flat_map-append events_in called calling))
    ∙ append_assoc (events ends.turn.tick) (events called ++ events calling) older ∙ ap (λ (l : List Event). events ends.turn.tick ++ l) (append_assoc (events called) (events calling) older) in
    let handed : handed_by ends.log ≡ handed_from None ends.turn.tick =
    ap handed_by ends.turn.log_is ∙ handed_is (ends.turn.tick ++ (called ++ calling)) ∙ handed_both None ends.turn.tick (called ++ calling)
    ∙ ap (λ (o : Option (List ℕ)). handed_from o ends.turn.tick)
    (handed_both None called calling ∙ ap (λ (o : Option (List ℕ)). handed_from o called) (receives_hand_none legs.Calling ends.now None calling ends.turn.on_calling)
    ∙ receives_hand_none legs.Called ends.now None called ends.turn.on_called) in
    by between quiet all handed ends.turn.ticks
  where
    by : (between : List Event) → IsQuiet setup older between → newer ≡ events ends.turn.tick ++ between → handed_by ends.log ≡ handed_from None ends.turn.tick → IsTick ends.now ends.turn.tick
        → Turned setup ends.log older newer
    by between quiet all handed (inl (given, calling, called, first, second, is)) =
        Ticked between ends.now given quiet (all ∙ ap (λ (l : List Event). l ++ between) (ap events is ∙ one_event ends.now given calling called first second))
        (subst (λ (o : Option (List ℕ)). IsHandedOver given.on_calling o) (sym (handed ∙ ap (λ (l : List Entry). handed_from None l) is)) (tick_hands ends.now given calling called first second))
    by between quiet all handed (inr is) =
        Refused (subst (λ (t : List Event). IsQuiet setup older t) (sym (all ∙ ap (λ (l : List Entry). events l ++ between) is)) quiet)
        (handed ∙ ap (λ (l : List Entry). handed_from None l) is)

-- ---- what it told is that of the tick

same_report : (o p : Option Report) → report_list o ≡ report_list p → o ≡ p
same_report None None same = refl
same_report None (Some r) same = absurd (cc)
same_report (Some r) None same = absurd (cc)
same_report (Some r) (Some s) same = let e : r ≡ s = cc in ap (λ (x : Report). Some x) e

same_kept : (o p : Option Kept) → kept_list o ≡ kept_list p → o ≡ p
same_kept None None same = refl
same_kept None (Some r) same = absurd (cc)
same_kept (Some r) None same = absurd (cc)
same_kept (Some r) (Some s) same = let e : r ≡ s = cc in ap (λ (x : Kept). Some x) e

no_more : {A : Type 0} (xs ys : List A) → xs ≡ xs ++ ys → [] ≡ ys
no_more xs ys same = append_cancel_left xs [] ys (append-nil xs ∙ same)

-- of a leg that confirms nothing, nothing is told
quiet_leg : (leg : Option CallingLeg) (now : ℕ) (given : Option (List ℕ)) (before : List BookEntry) → kept_at leg now ≡ None → confirms_on leg now given before ≡ before
quiet_leg None now given before none = refl
quiet_leg (Some l) now given before none = by (confirmed_at (Some l) now) none
  where
    by : (o : Option ConfirmedPage) → kept_if l.number o ≡ None → confirms given l.number o before ≡ before
    by None none = refl
    by (Some c) none = absurd (cc)

-- and of one that confirms a page that is told as this
record Told (leg : Option CallingLeg) (now : ℕ) (given : Option (List ℕ)) (kept : Kept) : Type 0 where
  confirmed : ConfirmedPage
  at : confirmed_at leg now ≡ Some confirmed
  format : kept.format ≡ confirmed.page.format
  closes : kept.closes ≡ confirmed.closes
  told : (before : List BookEntry) → confirms_on leg now given before ≡ Confirms given (record { call = kept.call; page = confirmed.page }) kept.closes ∷ before
  page : page_at leg now ≡ Some (record { call = kept.call; page = confirmed.page })

same_some : (k other : Kept) → Some k ≡ Some other → k ≡ other
same_some k other same = cc

told_leg : (leg : Option CallingLeg) (now : ℕ) (given : Option (List ℕ)) (kept : Kept) → kept_at leg now ≡ Some kept → Told leg now given kept
told_leg None now given kept is = absurd (cc)
told_leg (Some l) now given kept is = by (confirmed_at (Some l) now) refl is
  where
    by : (o : Option ConfirmedPage) → confirmed_at (Some l) now ≡ o → kept_if l.number o ≡ Some kept → Told (Some l) now given kept
    by None at is = absurd (cc)
    by (Some c) at is =
        let mine : Kept = record { call = l.number; format = c.page.format; rows = length c.page.rows; closes = c.closes } in
        let same : mine ≡ kept = same_some mine kept is in
        record {
          confirmed = c;
          at = at;
          format = ap (λ (k : Kept). k.format) (sym same);
          closes = ap (λ (k : Kept). k.closes) (sym same);
          told = λ before.
              ap (λ (o : Option ConfirmedPage). confirms given l.number o before) at
              ∙ ap (λ (k : Kept). Confirms given (record { call = k.call; page = c.page }) k.closes ∷ before) same;
          page = ap (page_if l.number) at ∙ ap (λ (k : Kept). Some (record { call = k.call; page = c.page })) same;
        }

-- ---- the newest page of a book is a page

get_of : {A : Type 0} (P : A → Type 0) (xs : List A) (n : ℕ) (x : A) → All P xs → slice_get xs n ≡ Some x → P x
get_of P [] n x all is = absurd (cc)
get_of P (y ∷ xs) zero x all is = let e : y ≡ x = cc in subst P e (All-head P y xs all)
get_of P (y ∷ xs) (suc n) x all is = get_of P xs n x (All-tail P y xs all) is

get_job : (setup : Setup) (trace : List Event) (jobs : List JobValue) (n : ℕ) (job : JobValue) → AreOfTheirCalls setup trace jobs → slice_get jobs n ≡ Some job → IsOfItsCall setup trace job
get_job setup trace [] n job are is = absurd (cc)
get_job setup trace (j ∷ jobs) zero job are is = let e : j ≡ job = cc in subst (λ (x : JobValue). IsOfItsCall setup trace x) e are.0
get_job setup trace (j ∷ jobs) (suc n) job are is = get_job setup trace jobs n job are.1 is

jobs_after : (setup : Setup) (trace : List Event) (jobs others : List JobValue) → AreOfTheirCalls setup trace (jobs ++ others) → AreOfTheirCalls setup trace others
jobs_after setup trace [] others are = are
jobs_after setup trace (j ∷ jobs) others are = jobs_after setup trace jobs others are.1

page_of_job : (setup : Setup) (trace : List Event) (job : JobValue) (page : PageValue) → IsOfItsCall setup trace job → last_page (Some job) ≡ Some page → IsPage page
page_of_job setup trace job page is last = get_of IsPage job.pages (length job.pages - 1) page is.is_job.are_pages last

newest_is_page : (setup : Setup) (trace : List Event) (past : Past) (page : PageValue) → AreOfTheirCalls setup trace (jobs_of past) → AreOfTheirCalls setup trace (as_list past.book.open_job)
    → newest_page past.book ≡ Some page → IsPage page
newest_is_page setup trace past page closed unclosed is = by past.book.open_job (closed_last past.book.waiting) past.book.sending unclosed refl sent is
  where
    sent : AreOfTheirCalls setup trace (as_list past.book.sending ++ past.book.waiting)
    sent = jobs_after setup trace past.ended (as_list past.book.sending ++ past.book.waiting) closed

    by : (o w s : Option JobValue) → AreOfTheirCalls setup trace (as_list o) → closed_last past.book.waiting ≡ w → AreOfTheirCalls setup trace (as_list s ++ past.book.waiting)
        → last_page (or_else o (or_else w s)) ≡ Some page → IsPage page
    by (Some job) w s own waits others is = page_of_job setup trace job page own.0 is
    by None (Some job) s own waits others is =
        page_of_job setup trace job page
        (get_job setup trace past.book.waiting (length past.book.waiting - 1) job (jobs_after setup trace (as_list s) past.book.waiting others) waits) is
    by None None (Some job) own waits others is = page_of_job setup trace job page others.0 is
    by None None None own waits others is = absurd (cc)

-- ---- so both are told

same_page : (page other : PageValue) → Some page ≡ Some other → page ≡ other
same_page page other same = cc

same_value : (value other : spool.PageValue) → Page value ≡ Page other → value ≡ other
same_value value other same = cc

put_tick : ConfirmsTheNewest → JobsAreOfTheirCalls → WrittenPagesMean → (setup : Setup) (writes : Writing) (older between : List Event) (now : ℕ) (given : Given) (report : Option Report) (book : Book) (kept : Kept)
    (page : PageToStore) (value : spool.PageValue) → IsQuiet setup older between → IsTrace setup writes (Tick now given ∷ between) → book ≡ book_of (both_legs setup writes (Tick now given ∷ between))
    → given.report ≡ report → kept_at (calling_leg setup between) (max now (clock between)) ≡ Some kept → IsStoredAs kept (newest_page book) page → IsRecordOf page (Page value)
    → IsPutAs setup older (Tick now given ∷ between) report value
put_tick newest origins mean setup writes older between now given report book kept page value quiet trace is_book is_report at is recorded =
    let newer : List Event = Tick now given ∷ between in
    let told : Told (calling_leg setup between) (max now (clock between)) given.on_calling kept = told_leg (calling_leg setup between) (max now (clock between)) given.on_calling kept at in
    let own : PageValue = told.confirmed.page in
    let is_newest : newest_page book ≡ Some own = ap (λ (b : Book). newest_page b) is_book ∙ newest setup writes now given between told.confirmed trace told.at in
    let jobs = origins setup writes newer trace in
    let is_page : IsPage own = newest_is_page setup newer (past_of (both_legs setup writes newer)) own jobs.0 jobs.1 (ap (λ (b : Book). newest_page b) (sym is_book) ∙ is_newest) in
    let kept_as : IsStoredAs kept (Some own) page = subst (λ (o : Option PageValue). IsStoredAs kept o page) is_newest is in
    let means : Means value own = stored_pages_are_read mean kept own page value is_page told.format kept_as recorded in
    let same : recorded.value ≡ value = sym (same_value value recorded.value recorded.is_page) in
    let call : value.call ≡ kept.call = ap (λ (v : spool.PageValue). v.call) (sym same) ∙ recorded.call ∙ ap (λ (k : Kept). k.call) is.told in
    let closes : value.closes ≡ kept.closes = ap (λ (v : spool.PageValue). v.closes) (sym same) ∙ recorded.closes ∙ ap (λ (k : Kept). k.closes) is.told in
    record {
      page = record { waits = value; page = own };
      waits = refl;
      means = means;
      given = given.on_calling;
      told = λ before.
          ap (λ (o : Option Report). reports o (confirms_on (calling_leg setup between) (max now (clock between)) given.on_calling (told_in setup between before))) is_report
          ∙ ap (λ (t : List BookEntry). reports report t)
          (told.told (told_in setup between before) ∙ ap (λ (n : ℕ). Confirms given.on_calling (record { call = n; page = own }) kept.closes ∷ told_in setup between before) (sym call)
          ∙ ap (λ (b : Bool). Confirms given.on_calling (record { call = value.call; page = own }) b ∷ told_in setup between before) (sym closes)
          ∙ ap (λ (t : List BookEntry). Confirms given.on_calling (record { call = value.call; page = own }) value.closes ∷ t) (quiet.told before));
    }

-- what is told of a tick after what came
tick_report : (setup : Setup) (older between : List Event) (now : ℕ) (given : Given) (report : Option Report) → IsQuiet setup older between
    → reports_given (Tick now given ∷ between) ≡ reports_given older ++ report_list report → given.report ≡ report
tick_report setup older between now given report quiet tells =
    same_report given.report report (append_cancel_left (reports_given older) (report_list given.report) (report_list report) (ap (λ (l : List Report). l ++ report_list given.report) (sym quiet.reports) ∙ tells))

tick_kept : (setup : Setup) (older between : List Event) (now : ℕ) (given : Given) (kept : Option Kept) → IsQuiet setup older between
    → pages_confirmed setup (Tick now given ∷ between) ≡ pages_confirmed setup older ++ kept_list kept → kept_at (calling_leg setup between) (max now (clock between)) ≡ kept
tick_kept setup older between now given kept quiet tells =
    let at : Option Kept = kept_at (calling_leg setup between) (max now (clock between)) in
    same_kept at kept (append_cancel_left (pages_confirmed setup older) (kept_list at) (kept_list kept) (ap (λ (l : List Kept). l ++ kept_list at) (sym quiet.pages) ∙ tells))

tells_none : (setup : Setup) (older newer : List Event) (report : Option Report) (kept : Option Kept) → (log : List Entry) → Turned setup log older newer → reports_given newer ≡ reports_given older ++ report_list report
    → pages_confirmed setup newer ≡ pages_confirmed setup older ++ kept_list kept → kept ≡ None → (before : List BookEntry) → told_in setup newer before ≡ reports report (told_in setup older before)
tells_none setup older newer report kept log (Refused quiet handed) reported pages none before =
    let no_report : None ≡ report = same_report None report (no_more (reports_given older) (report_list report) (sym quiet.reports ∙ reported)) in
    quiet.told before ∙ ap (λ (o : Option Report). reports o (told_in setup older before)) no_report
tells_none setup older newer report kept log (Ticked between now given quiet is handed) reported pages none before =
    let leg : Option CallingLeg = calling_leg setup between in
    let moment : ℕ = max now (clock between) in
    let is_report : given.report ≡ report = tick_report setup older between now given report quiet (subst (λ (t : List Event). reports_given t ≡ reports_given older ++ report_list report) is reported) in
    let is_stored : kept_at leg moment ≡ kept = tick_kept setup older between now given kept quiet (subst (λ (t : List Event). pages_confirmed setup t ≡ pages_confirmed setup older ++ kept_list kept) is pages) in
    ap (λ (t : List Event). told_in setup t before) is ∙ ap (λ (o : Option Report). reports o (confirms_on leg moment given.on_calling (told_in setup between before))) is_report
    ∙ ap (λ (t : List BookEntry). reports report t) (quiet_leg leg moment given.on_calling (told_in setup between before) (is_stored ∙ none) ∙ quiet.told before)

tells_one : ConfirmsTheNewest → JobsAreOfTheirCalls → WrittenPagesMean → (setup : Setup) (writes : Writing) (older newer : List Event) (report : Option Report) (kept : Option Kept) (book : Book) (own : Kept)
    (page : PageToStore) (value : spool.PageValue) → (log : List Entry) → Turned setup log older newer → IsTrace setup writes newer → book ≡ book_of (both_legs setup writes newer) → reports_given newer ≡ reports_given older ++ report_list report
    → pages_confirmed setup newer ≡ pages_confirmed setup older ++ kept_list kept → kept ≡ Some own → IsStoredAs own (newest_page book) page → IsRecordOf page (Page value) → IsPutAs setup older newer report value
tells_one newest origins mean setup writes older newer report kept book own page value log (Refused quiet handed) trace is_book reported pages some is recorded =
    let no_page : None ≡ kept = same_kept None kept (no_more (pages_confirmed setup older) (kept_list kept) (sym quiet.pages ∙ pages)) in
    absurd (let e : None ≡ Some own = no_page ∙ some in none_is_some own e)
  where
    none_is_some : (k : Kept) → None ≡ Some k → ⊥
    none_is_some k e = cc
tells_one newest origins mean setup writes older newer report kept book own page value log (Ticked between now given quiet at handed) trace is_book reported pages some is recorded =
    let leg : Option CallingLeg = calling_leg setup between in
    let moment : ℕ = max now (clock between) in
    let is_report : given.report ≡ report = tick_report setup older between now given report quiet (subst (λ (t : List Event). reports_given t ≡ reports_given older ++ report_list report) at reported) in
    let is_stored : kept_at leg moment ≡ kept = tick_kept setup older between now given kept quiet (subst (λ (t : List Event). pages_confirmed setup t ≡ pages_confirmed setup older ++ kept_list kept) at pages) in
    subst (λ (t : List Event). IsPutAs setup older t report value) (sym at)
    (put_tick newest origins mean setup writes older between now given report book own page value quiet (subst (λ (t : List Event). IsTrace setup writes t) at trace)
    (is_book ∙ ap (λ (t : List Event). book_of (both_legs setup writes t)) at) is_report (is_stored ∙ some) is recorded)

pub turns_tell_both : ConfirmsTheNewest → JobsAreOfTheirCalls → WrittenPagesMean → TurnsTellBoth
turns_tell_both newest origins mean setup writes older newer line ends =
    let turn : Turned setup ends.log older newer = turned setup writes older newer line ends in
    record {
      none = λ none before. tells_none setup older newer line.turned.report line.turned.kept ends.log turn ends.tells.reports ends.tells.pages none before;
      one = λ page value is recorded.
          tells_one newest origins mean setup writes older newer line.turned.report line.turned.kept line.gateway.book is.kept page value ends.log turn ends.reached.is_trace ends.reached.book ends.tells.reports
          ends.tells.pages is.told is.is_stored_as recorded;
    }

-- ---- where memory was refused for its text

-- a turn that confirmed a page has one, whatever became of its text
pub turn_has_page : ConfirmsTheNewest → JobsAreOfTheirCalls → PagesAreWritten → (setup : Setup) (writes : Writing) (older newer : List Event) (line : LineValue) (number : ℕ) (kept : Kept)
    → EndsIn setup writes older newer line → line.turned.kept ≡ Some kept → (page : PageToStore) × (page.kept ≡ kept) × IsOfTurn line page
turn_has_page newest origins written setup writes older newer line number kept ends some = by (turned setup writes older newer line ends)
  where
    none_some : (k : Kept) → None ≡ Some k → ⊥
    none_some k e = cc

    by : Turned setup ends.log older newer → (page : PageToStore) × (page.kept ≡ kept) × IsOfTurn line page
    by (Refused quiet handed) =
        let no_page : None ≡ line.turned.kept = same_kept None line.turned.kept (no_more (pages_confirmed setup older) (kept_list line.turned.kept) (sym quiet.pages ∙ ends.tells.pages)) in
        absurd (none_some kept (no_page ∙ some))
    by (Ticked between now given quiet at handed) =
        let trace : IsTrace setup writes (Tick now given ∷ between) = subst (λ (t : List Event). IsTrace setup writes t) at ends.reached.is_trace in
        let book : line.gateway.book ≡ book_of (both_legs setup writes (Tick now given ∷ between)) = ends.reached.book ∙ ap (λ (t : List Event). book_of (both_legs setup writes t)) at in
        let is_stored : kept_at (calling_leg setup between) (max now (clock between)) ≡ line.turned.kept =
        tick_kept setup older between now given line.turned.kept quiet (subst (λ (t : List Event). pages_confirmed setup t ≡ pages_confirmed setup older ++ kept_list line.turned.kept) at ends.tells.pages) in
        let told : Told (calling_leg setup between) (max now (clock between)) given.on_calling kept = told_leg (calling_leg setup between) (max now (clock between)) given.on_calling kept (is_stored ∙ some) in
        let own : PageValue = told.confirmed.page in
        let is_newest : newest_page line.gateway.book ≡ Some own = ap (λ (b : Book). newest_page b) book ∙ newest setup writes now given between told.confirmed trace told.at in
        let jobs = origins setup writes (Tick now given ∷ between) trace in
        let is_page : IsPage own =
        newest_is_page setup (Tick now given ∷ between) (past_of (both_legs setup writes (Tick now given ∷ between))) own jobs.0 jobs.1 (ap (λ (b : Book). newest_page b) (sym book) ∙ is_newest) in
        let text = written (elements_of own.format.width) codings.Mr own.format.fine 0 own.rows is_page in
        let octets = bits_are_padded text.0 in
        let page : PageToStore = record { line = number; kept = kept; text = octets.0 } in (
          page,
          refl,
          record {
            kept = kept;
            told = some;
            is_stored_as = record { told = refl; page = own; newest_is = is_newest; text = text.0; writes = text.1; octets = octets.1 };
          },
        )

-- ---- the action of the line's wire

-- What a turn was on the calling leg: no tick, and nothing was handed over; or a tick that confirmed no page; or one that confirmed this
-- page, which was put with an Ok or was not.
pub data ActionOfTurn (setup : Setup) (handed : Option (List ℕ)) (older newer : List Event) (line : LineValue) : Type 0 where
  NoTick : line.turned.kept ≡ None → handed ≡ None → ((actions : List LegAction) (kept : List CallPage) → AreOnLeg setup actions older kept → AreOnLeg setup actions newer kept) → ActionOfTurn setup handed older newer line
  NoPage :
      line.turned.kept ≡ None → ((is_stored : Bool) (actions : List LegAction) (kept : List CallPage) → AreOnLeg setup actions older kept → AreOnLeg setup (Turn handed false is_stored ∷ actions) newer kept)
      → ActionOfTurn setup handed older newer line
  OnePage :
      (own : Kept) → line.turned.kept ≡ Some own → (page : CallPage) → ((to_store : PageToStore) → IsOfTurn line to_store → IsStoredPage to_store page)
      → ((actions : List LegAction) (kept : List CallPage) → AreOnLeg setup actions older kept → AreOnLeg setup (Turn handed true true ∷ actions) newer (kept ++ page ∷ []))
      → ((actions : List LegAction) (kept : List CallPage) → AreOnLeg setup actions older kept → AreOnLeg setup (Turn handed true false ∷ actions) newer kept) → ActionOfTurn setup handed older newer line

quiet_page : (leg : Option CallingLeg) (now : ℕ) → kept_at leg now ≡ None → page_at leg now ≡ None
quiet_page None now none = refl
quiet_page (Some l) now none = by (confirmed_at (Some l) now) none
  where
    by : (o : Option ConfirmedPage) → kept_if l.number o ≡ None → page_if l.number o ≡ None
    by None none = refl
    by (Some c) none = absurd (cc)

on_leg_of : (setup : Setup) (now : ℕ) (given : Given) (between newer : List Event) (o : Option CallPage) (actions : List LegAction) (kept : List CallPage) → newer ≡ Tick now given ∷ between
    → page_at (calling_leg setup between) (max now (clock between)) ≡ o → IsTurnOnLeg (λ before pages. AreOnLeg setup before between pages) given.on_calling o actions kept → AreOnLeg setup actions newer kept
on_leg_of setup now given between newer o actions kept at is turn =
    subst (λ (t : List Event). AreOnLeg setup actions t kept) (sym at)
    (subst (λ (x : Option CallPage). IsTurnOnLeg (λ before pages. AreOnLeg setup before between pages) given.on_calling x actions kept) (sym is) turn)

pub action_of_turn : ConfirmsTheNewest → JobsAreOfTheirCalls → WrittenPagesMean → (setup : Setup) (writes : Writing) (older newer : List Event) (line : LineValue) (ends : EndsIn setup writes older newer line)
    → ActionOfTurn setup (handed_by ends.log) older newer line
action_of_turn newest origins mean setup writes older newer line ends = by (turned setup writes older newer line ends)
  where
    ticked : (between : List Event) (now : ℕ) (given : Given) → IsQuiet setup older between → newer ≡ Tick now given ∷ between → IsHandedOver given.on_calling (handed_by ends.log)
        → kept_at (calling_leg setup between) (max now (clock between)) ≡ line.turned.kept → (o : Option Kept) → line.turned.kept ≡ o → ActionOfTurn setup (handed_by ends.log) older newer line
    ticked between now given quiet at handed is_stored None none =
        NoPage none (λ kept_so actions kept are.
        on_leg_of setup now given between newer None (Turn (handed_by ends.log) false kept_so ∷ actions) kept at (quiet_page (calling_leg setup between) (max now (clock between)) (is_stored ∙ none))
        (handed_by ends.log, kept_so, actions, handed, refl, quiet.legs actions kept are))
    ticked between now given quiet at handed is_stored (Some own) some =
        let trace : IsTrace setup writes (Tick now given ∷ between) = subst (λ (t : List Event). IsTrace setup writes t) at ends.reached.is_trace in
        let book : line.gateway.book ≡ book_of (both_legs setup writes (Tick now given ∷ between)) = ends.reached.book ∙ ap (λ (t : List Event). book_of (both_legs setup writes t)) at in
        let told : Told (calling_leg setup between) (max now (clock between)) given.on_calling own = told_leg (calling_leg setup between) (max now (clock between)) given.on_calling own (is_stored ∙ some) in
        let page : PageValue = told.confirmed.page in
        let is_newest : newest_page line.gateway.book ≡ Some page = ap (λ (b : Book). newest_page b) book ∙ newest setup writes now given between told.confirmed trace told.at in
        let jobs = origins setup writes (Tick now given ∷ between) trace in
        let is_page : IsPage page =
        newest_is_page setup (Tick now given ∷ between) (past_of (both_legs setup writes (Tick now given ∷ between))) page jobs.0 jobs.1 (ap (λ (b : Book). newest_page b) (sym book) ∙ is_newest) in
        let one : CallPage = record { call = own.call; page = page } in
        OnePage own some one
        (λ to_store its.
        let same : its.kept ≡ own = same_some its.kept own (sym its.told ∙ some) in
        let kept_as : IsStoredAs own (Some page) to_store =
        subst (λ (o : Option PageValue). IsStoredAs own o to_store) is_newest (subst (λ (k : Kept). IsStoredAs k (newest_page line.gateway.book) to_store) same its.is_stored_as) in
        let value : spool.PageValue = record { life = 0; call = to_store.kept.call; number = 0; format = to_store.kept.format; closes = to_store.kept.closes; line = []; tag = []; text = to_store.text } in
        let recorded : IsRecordOf to_store (Page value) = record { value = value; is_page = refl; call = refl; format = refl; closes = refl; text = refl } in
        (ap (λ (k : Kept). k.call) (sym kept_as.told), stored_pages_are_read mean own page to_store value is_page told.format kept_as recorded))
        (λ actions kept are.
        on_leg_of setup now given between newer (Some one) (Turn (handed_by ends.log) true true ∷ actions) (kept ++ one ∷ []) at told.page
        (handed_by ends.log, actions, handed, inl (refl, (kept, refl, quiet.legs actions kept are))))
        (λ actions kept are.
        on_leg_of setup now given between newer (Some one) (Turn (handed_by ends.log) true false ∷ actions) kept at told.page (handed_by ends.log, actions, handed, inr (refl, quiet.legs actions kept are)))

    by : Turned setup ends.log older newer → ActionOfTurn setup (handed_by ends.log) older newer line
    by (Refused quiet handed) =
        NoTick (sym (same_kept None line.turned.kept (no_more (pages_confirmed setup older) (kept_list line.turned.kept) (sym quiet.pages ∙ ends.tells.pages)))) handed quiet.legs
    by (Ticked between now given quiet at handed) =
        ticked between now given quiet at handed
        (tick_kept setup older between now given line.turned.kept quiet (subst (λ (t : List Event). pages_confirmed setup t ≡ pages_confirmed setup older ++ kept_list line.turned.kept) at ends.tells.pages))
        line.turned.kept refl
