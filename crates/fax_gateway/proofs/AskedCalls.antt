-- Where calls are asked for, each begins where it was placed, and a job that is asked for stays the next one.
use Rattle.std.proofs.Common.{◌≡◌, ℕ, max, Bool, true, false, not, ◌&&◌, is_some, IsSome, List, [], ◌∷◌, ◌++◌, Option, Some, None, Result, Ok, Err, option_map, refl, sym, ◌∙◌, ap, subst, if◌then◌else◌}
use Rattle.fax_udptl.specs.declared.fault.UdptlFault.{UdptlFault}
use Rattle.fax_udptl.specs.Datagrams.{DatagramValue, datagram_of}
use Rattle.fax_pagestore.specs.Pages.{PageValue}
use Rattle.fax_jobs.specs.declared.outcome.Outcome.{Outcome}
use Rattle.fax_jobs.specs.declared.outcome.Outcome.TheVariants.{NotPlaced}
use Rattle.fax_jobs.specs.declared.report.Report.{Report}
use Rattle.fax_jobs.specs.Jobs.{JobValue}
use Rattle.fax_jobs.specs.Books.{Book, added, after, closed, first_of, joins, next_job, opened, report_of, with_page}
use Rattle.fax_jobs.specs.Pasts.{Step, Sends, new_past, sent_if, after_steps}
use Rattle.fax_answer.specs.Replies.{ConfirmedPage}
use Rattle.fax_call.specs.Writings.{Writing}
use Rattle.fax_call.specs.Replies.{Packet}
use Rattle.fax_call.specs.Calls.{CallerCore, TickResult}
use Rattle.fax_call.specs.Delivery.{is_over}
use Rattle.fax_gateway.specs.Setups.{Setup}
use Rattle.fax_gateway.specs.Events.{Event, Ring, FromCalling, FromCalled, Tick, Placed, Given, clock}
use Rattle.fax_gateway.specs.CallingLegs.{CallingLeg, calling_leg, idle_after, answers, confirmed_by}
use Rattle.fax_gateway.specs.CalledLegs.{CalledLeg, calls, core_left, core_of, hears, is_free, leg_ticked, leg_with, outcome_of, outcome_told, delivered_told, report_by, told_by, told_called, told_report, with_tick}
use Rattle.fax_gateway.specs.BothLegs.{BothLegs, book_of, both_legs, confirms_if, ends_if, enters, heard_in_tick, in_tick, job_asked, leg_of}
use Rattle.fax_gateway.specs.Traces.{IsTrace}
use Rattle.fax_gateway.specs.Reports.{job_sent}
use Rattle.fax_gateway.specs.Asking.{asked_after, PlacesNone, WasPlaced, CallsBeginWherePlaced, GivesInCall, GivesInPlacedCalls, AskedJobsStay, UnplacedJobsAreTold}
use Rattle.fax_gateway.proofs.InCalls.{asked_sends, heard_sends}
use Rattle.fax_gateway.proofs.States.{have_states}
use Rattle.fax_gateway.proofs.Ticking.{in_tick_at_rest, in_tick_on, sent_off}
use Rattle.fax_gateway.proofs.Unplaced.{calls_unplaced, gives_none}

-- the job that is asked for is the one that is sent when its call is placed
asked_taken : (asks : Bool) (book : Book) → IsSome (job_asked asks book) → (sent_if book.sending book).sending ≡ job_asked asks book
asked_taken false book h = cc
asked_taken true book h =
    let none : book.sending ≡ None = asked_sends true book h in
    ap (λ (o : Option JobValue). (sent_if o book).sending) none ∙ sym (ap (λ (o : Option JobValue). if◌then◌else◌ {A = Option JobValue} (is_some o) None (next_job book)) none)

-- ---- EACH CALL BEGINS WHERE IT WAS PLACED

abbrev IfPlaced : Setup → Writing → List Event → Option CalledLeg → Type 0
IfPlaced setup writes trace None = Unit {0}
IfPlaced setup writes trace (Some l) = WasPlaced setup writes trace l

-- by its job, its beginning, and whether it was placed
as_placed : (setup : Setup) (writes : Writing) (trace : List Event) (l m : CalledLeg) → m.placed ≡ l.placed → m.job ≡ l.job → m.begun ≡ l.begun → WasPlaced setup writes trace l → WasPlaced setup writes trace m
as_placed setup writes trace l m placed job begun w =
    record {
      later = w.later;
      at = w.at;
      earlier = w.earlier;
      split = subst (λ (b : Bool). trace ≡ w.later ++ Placed w.at b ∷ w.earlier) (sym placed) w.split;
      none_later = w.none_later;
      asked = w.asked ∙ ap (λ (j : JobValue). Some j) (sym job);
      begun = begun ∙ w.begun ∙ ap (λ (b : Bool). clock (Placed w.at b ∷ w.earlier)) (sym placed);
    }

-- another event comes that places none
placed_later : (setup : Setup) (writes : Writing) (e : Event) (trace : List Event) (leg : Option CalledLeg) → ((later : List Event) → PlacesNone later → PlacesNone (e ∷ later)) → IfPlaced setup writes trace leg → IfPlaced setup writes (e ∷ trace) leg
placed_later setup writes e trace None none w = tt
placed_later setup writes e trace (Some l) none w =
    record { later = e ∷ w.later; at = w.at; earlier = w.earlier; split = ap (λ (t : List Event). e ∷ t) w.split; none_later = none w.later w.none_later; asked = w.asked; begun = w.begun }

hears_same : (setup : Setup) (writes : Writing) (trace : List Event) (octets : List ℕ) (now : ℕ) (leg : Option CalledLeg) → IfPlaced setup writes trace leg → IfPlaced setup writes trace (option_map (hears writes octets now) leg)
hears_same setup writes trace octets now None w = tt
hears_same setup writes trace octets now (Some l) w = by (is_over (core_of writes l).state) (datagram_of octets)
  where
    by : (b : Bool) (r : Result DatagramValue UdptlFault) → WasPlaced setup writes trace (if◌then◌else◌ {A = CalledLeg} b l (leg_with r now l))
    by true r = w
    by false (Ok d) = as_placed setup writes trace l (leg_with (Ok d) now l) refl refl refl w
    by false (Err fault) = w

ticks_same : (setup : Setup) (writes : Writing) (trace : List Event) (now : ℕ) (leg : Option CalledLeg) → IfPlaced setup writes trace leg → IfPlaced setup writes trace (option_map (leg_ticked writes now) leg)
ticks_same setup writes trace now None w = tt
ticks_same setup writes trace now (Some l) w = by l.entered
  where
    by : (b : Bool) → WasPlaced setup writes trace (if◌then◌else◌ {A = CalledLeg} b l (with_tick (calls writes l now) now l))
    by true = w
    by false = as_placed setup writes trace l (with_tick (calls writes l now) now l) refl refl refl w

places_one : (setup : Setup) (writes : Writing) (earlier : List Event) (at : ℕ) (connected : Bool) (o : Option JobValue) → IsSome (asked_after setup writes earlier) → o ≡ asked_after setup writes earlier →
    let s : BothLegs = both_legs setup writes earlier in
    let trace : List Event = Placed at connected ∷ earlier in
    IfPlaced setup writes trace (leg_of connected o (core_left setup writes s.leg) (clock trace) s.leg)
places_one setup writes earlier at connected None some e = let no : false ≡ true = ap (λ (o : Option JobValue). is_some o) e ∙ some in cc
places_one setup writes earlier at connected (Some job) some e = record { later = []; at = at; earlier = earlier; split = refl; none_later = tt; asked = sym e; begun = refl }

if_placed : (setup : Setup) (writes : Writing) (trace : List Event) → setup.asks ≡ true → IsTrace setup writes trace → IfPlaced setup writes trace (both_legs setup writes trace).leg
if_placed setup writes [] asks t = tt
if_placed setup writes (Ring at n ∷ earlier) asks t = placed_later setup writes (Ring at n) earlier (both_legs setup writes earlier).leg (λ later none. none) (if_placed setup writes earlier asks t.1)
if_placed setup writes (FromCalling octets at decided read ∷ earlier) asks t =
    placed_later setup writes (FromCalling octets at decided read) earlier (both_legs setup writes earlier).leg (λ later none. none) (if_placed setup writes earlier asks t.1)
if_placed setup writes (FromCalled octets at decided ∷ earlier) asks t =
    let e : Event = FromCalled octets at decided in
    let leg : Option CalledLeg = (both_legs setup writes earlier).leg in
    placed_later setup writes e earlier (option_map (hears writes octets (clock (e ∷ earlier))) leg) (λ later none. none)
    (hears_same setup writes earlier octets (clock (e ∷ earlier)) leg (if_placed setup writes earlier asks t.1))
if_placed setup writes (Placed at connected ∷ earlier) asks t =
    let s : BothLegs = both_legs setup writes earlier in
    places_one setup writes earlier at connected (after_steps new_past (Sends ∷ s.steps)).book.sending t.0 (asked_taken setup.asks (book_of s) t.0)
if_placed setup writes (Tick at given ∷ earlier) asks t =
    let now : ℕ = max at (clock earlier) in
    let e : Event = Tick at given in
    let z : BothLegs = in_tick setup writes earlier at in
    let same : z.leg ≡ (both_legs setup writes earlier).leg = ap (λ (x : BothLegs). x.leg) (in_tick_at_rest setup writes earlier at asks) in
    placed_later setup writes e earlier (option_map (leg_ticked writes now) z.leg) (λ later none. none)
    (ticks_same setup writes earlier now z.leg (subst (IfPlaced setup writes earlier) (sym same) (if_placed setup writes earlier asks t.1)))

pub begin_where_placed : CallsBeginWherePlaced
begin_where_placed setup writes trace l asks t is = subst (IfPlaced setup writes trace) is (if_placed setup writes trace asks t)

-- ---- NO DATAGRAM LEAVES BUT IN A CALL THAT WAS PLACED

gives_by : (setup : Setup) (writes : Writing) (earlier : List Event) (now : ℕ) (leg : Option CalledLeg) (datagram : List ℕ) → (both_legs setup writes earlier).leg ≡ leg → told_called setup writes leg now ≡ Some datagram → GivesInCall setup writes earlier
gives_by setup writes earlier now None datagram is e = cc
gives_by setup writes earlier now (Some l) datagram is e = by l.entered refl e
  where
    if_given : (b : Bool) → l.placed ≡ b → l.entered ≡ false → told_by setup l.given (calls writes l now).given ≡ Some datagram → GivesInCall setup writes earlier
    if_given true placed on k = record { l = l; is_leg = is; placed = placed; not_ended = on }
    if_given false unplaced on k =
        let no : None ≡ Some datagram = sym (ap (λ (o : Option Packet). told_by setup l.given o) (gives_none writes l now unplaced)) ∙ k in cc

    by : (b : Bool) → l.entered ≡ b → (if◌then◌else◌ {A = Option (List ℕ)} b None (told_by setup l.given (calls writes l now).given)) ≡ Some datagram → GivesInCall setup writes earlier
    by true on k = cc
    by false on k = if_given l.placed refl on k

pub gives_in_calls : GivesInPlacedCalls
gives_in_calls setup writes earlier at given datagram asks t e =
    let now : ℕ = max at (clock earlier) in
    let leg : Option CalledLeg = (both_legs setup writes earlier).leg in
    let same : (in_tick setup writes earlier at).leg ≡ leg = ap (λ (x : BothLegs). x.leg) (in_tick_at_rest setup writes earlier at asks) in
    gives_by setup writes earlier now leg datagram refl
    (ap (λ (o : Option CalledLeg). told_called setup writes o now) (sym same) ∙ (sym (ap (λ (g : Given). g.on_called) t.0) ∙ e))

-- ---- A JOB THAT IS ASKED FOR STAYS THE NEXT ONE

-- no job is being sent, and this one waits before all others
record Next (job : JobValue) (book : Book) : Type 0 where
  none : book.sending ≡ None
  first : next_job book ≡ Some job

next_of : (asks : Bool) (book : Book) (job : JobValue) → job_asked asks book ≡ Some job → (asks ≡ true) × Next job book
next_of false book job e = cc
next_of true book job e =
    let none : book.sending ≡ None = asked_sends true book (ap (λ (o : Option JobValue). is_some o) e) in
    (refl, record { none = none; first = sym (ap (λ (o : Option JobValue). if◌then◌else◌ {A = Option JobValue} (is_some o) None (next_job book)) none) ∙ e })

asked_again : (asks : Bool) (book : Book) (job : JobValue) → asks ≡ true → Next job book → job_asked asks book ≡ Some job
asked_again false book job asks n = cc
asked_again true book job asks n = ap (λ (o : Option JobValue). if◌then◌else◌ {A = Option JobValue} (is_some o) None (next_job book)) n.none ∙ n.first

first_after : (jobs : List JobValue) (o : Option JobValue) (job : JobValue) → first_of jobs ≡ Some job → first_of (after jobs o) ≡ Some job
first_after [] o job e = cc
first_after (j ∷ jobs) None job e = e
first_after (j ∷ jobs) (Some other) job e = e

closed_next : (job : JobValue) (book : Book) → Next job book → Next job (closed book)
closed_next job book n = record { none = n.none; first = first_after book.waiting book.open_job job n.first }

page_next : (job : JobValue) (book : Book) (call : ℕ) (page : PageValue) → Next job book → Next job (with_page book call page)
page_next job book call page n = by (joins book.open_job call)
  where
    by : (b : Bool) → Next job (if◌then◌else◌ {A = Book} b (added book page) (opened (closed book) call page))
    by true = record { none = n.none; first = n.first }
    by false = let c : Next job (closed book) = closed_next job book n in record { none = c.none; first = c.first }

command_next : (job : JobValue) (closes : Bool) (book : Book) → Next job book → Next job (if◌then◌else◌ {A = Book} closes (closed book) book)
command_next job true book n = closed_next job book n
command_next job false book n = n

abbrev later_steps : List Step → Book
later_steps steps = (after_steps new_past steps).book

confirms_next : (job : JobValue) (number : ℕ) (o : Option ConfirmedPage) (steps : List Step) → Next job (later_steps steps) → Next job (later_steps (confirms_if number o steps))
confirms_next job number None steps n = n
confirms_next job number (Some c) steps n =
    command_next job c.closes (with_page (later_steps steps) number c.page) (page_next job (later_steps steps) number c.page n)

ends_next : (job : JobValue) (b : Bool) (steps : List Step) → Next job (later_steps steps) → Next job (later_steps (ends_if b steps))
ends_next job true steps n = closed_next job (later_steps steps) n
ends_next job false steps n = n

heard_next : (job : JobValue) (leg : Option CallingLeg) (now : ℕ) (steps : List Step) → Next job (later_steps steps) → Next job (later_steps (heard_in_tick leg now steps))
heard_next job None now steps n = n
heard_next job (Some l) now steps n =
    ends_next job (answers l now).ended (confirms_if l.number (confirmed_by (answers l now).given) steps) (confirms_next job l.number (confirmed_by (answers l now).given) steps n)

-- no call is on, so that none ends
none_told : (writes : Writing) (leg : Option CalledLeg) (now : ℕ) → is_free leg ≡ true → outcome_told writes leg now ≡ None
none_told writes None now free = refl
none_told writes (Some l) now free = ap (λ (b : Bool). if◌then◌else◌ {A = Option Outcome} b None (outcome_of (calls writes l now).core)) free

tick_next : (setup : Setup) (writes : Writing) (earlier : List Event) (at : ℕ) (job : JobValue) → setup.asks ≡ true → IsTrace setup writes earlier → Next job (book_of (both_legs setup writes earlier)) →
    let now : ℕ = max at (clock earlier) in
    let z : BothLegs = in_tick setup writes earlier at in
    Next job (later_steps (enters (delivered_told writes z.leg now) (outcome_told writes z.leg now) z.steps))
tick_next setup writes earlier at job asks t n =
    let now : ℕ = max at (clock earlier) in
    let s : BothLegs = both_legs setup writes earlier in
    let z : BothLegs = in_tick setup writes earlier at in
    let is : z ≡ record { steps = heard_in_tick (calling_leg setup earlier) now s.steps; leg = s.leg } = in_tick_at_rest setup writes earlier at asks in
    let states = have_states setup writes earlier t in
    let free : is_free s.leg ≡ true = sent_off s.leg (sym states.sending ∙ n.none) in
    let none : outcome_told writes z.leg now ≡ None = ap (λ (x : BothLegs). outcome_told writes x.leg now) is ∙ none_told writes s.leg now free in
    subst (λ (o : Option Outcome). Next job (later_steps (enters (delivered_told writes z.leg now) o z.steps))) (sym none)
    (subst (λ (x : BothLegs). Next job (later_steps x.steps)) (sym is) (heard_next job (calling_leg setup earlier) now s.steps n))

pub asked_stay : AskedJobsStay
asked_stay setup writes (Ring at number) earlier job none t e = e
asked_stay setup writes (FromCalling octets at decided read) earlier job none t e =
    let s : BothLegs = both_legs setup writes earlier in
    let n = next_of setup.asks (book_of s) job e in
    let b : Bool = not (idle_after (calling_leg setup earlier)) && idle_after (calling_leg setup (FromCalling octets at decided read ∷ earlier)) in
    asked_again setup.asks (later_steps (ends_if b s.steps)) job n.0 (ends_next job b s.steps n.1)
asked_stay setup writes (FromCalled octets at decided) earlier job none t e = e
asked_stay setup writes (Placed at connected) earlier job none t e = absurd none
asked_stay setup writes (Tick at given) earlier job none t e =
    let n = next_of setup.asks (book_of (both_legs setup writes earlier)) job e in
    asked_again setup.asks (book_of (both_legs setup writes (Tick at given ∷ earlier))) job n.0 (tick_next setup writes earlier at job n.0 t.1 n.1)

-- ---- A JOB THAT COULD NOT BE PLACED IS TOLD AS SUCH

told_unplaced : (writes : Writing) (l : CalledLeg) (now : ℕ) → l.placed ≡ false → l.entered ≡ false → told_report writes (Some l) now ≡ Some (report_of l.job NotPlaced 0)
told_unplaced writes l now unplaced on =
    ap (λ (t : TickResult). report_by l t.core.counts.delivered (if◌then◌else◌ {A = Option Outcome} l.entered None (outcome_of t.core))) (calls_unplaced writes l now unplaced)
    ∙ ap (λ (b : Bool). report_by l 0 (if◌then◌else◌ {A = Option Outcome} b None (Some NotPlaced))) on

none_on_leg : (setup : Setup) (writes : Writing) (l : CalledLeg) (now : ℕ) → l.placed ≡ false → l.entered ≡ false → told_called setup writes (Some l) now ≡ None
none_on_leg setup writes l now unplaced on =
    ap (λ (b : Bool). if◌then◌else◌ {A = Option (List ℕ)} b None (told_by setup l.given (calls writes l now).given)) on
    ∙ ap (λ (o : Option Packet). told_by setup l.given o) (gives_none writes l now unplaced)

pub unplaced_are_told : UnplacedJobsAreTold
unplaced_are_told setup writes earlier at given l t is unplaced on =
    let now : ℕ = max at (clock earlier) in
    let leg_is : (in_tick setup writes earlier at).leg ≡ Some l = ap (λ (x : BothLegs). x.leg) (in_tick_on setup writes earlier at (Some l) is on) in (
      ap (λ (g : Given). g.report) t.0 ∙ ap (λ (o : Option CalledLeg). told_report writes o now) leg_is ∙ told_unplaced writes l now unplaced on,
      ap (λ (g : Given). g.on_called) t.0 ∙ ap (λ (o : Option CalledLeg). told_called setup writes o now) leg_is ∙ none_on_leg setup writes l now unplaced on,
    )
