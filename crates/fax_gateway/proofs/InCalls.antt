-- The book sends the job of the called leg's call, and what is read off the answers is what the call heard and gave.
use Rattle.std.proofs.Common.{◌≡◌, ℕ, max, Bool, true, false, not, ◌&&◌, is_some, IsSome, List, [], ◌∷◌, Option, Some, None, Result, Ok, Err, option_map, refl, sym, ◌∙◌, ap, subst, arith, if◌then◌else◌}
use Rattle.fax_udptl.specs.declared.fault.UdptlFault.{UdptlFault}
use Rattle.fax_udptl.specs.Datagrams.{DatagramValue, datagram_of}
use Rattle.fax_udptl.specs.Sending.{AreShort}
use Rattle.fax_ifp.specs.Pieces.{Piece}
use Rattle.fax_jobs.specs.declared.outcome.Outcome.{Outcome}
use Rattle.fax_jobs.specs.Jobs.{JobValue}
use Rattle.fax_jobs.specs.Books.{Book, joins, added, next_job, opened, closed, with_page}
use Rattle.fax_jobs.specs.Pasts.{Step, Sends, Past, new_past, ended_if, after_steps}
use Rattle.fax_pagestore.specs.Pages.{PageValue}
use Rattle.fax_answer.specs.Replies.{ConfirmedPage}
use Rattle.fax_call.specs.Writings.{Writing}
use Rattle.fax_call.specs.Calls.{CallerCore, heard, TickResult, CallEvent, Comes, after_events}
use Rattle.fax_call.specs.Delivery.{is_over}
use Rattle.fax_call.specs.Emission.{Mark, gave_all, marks_heard, marks_given, marks_after}
use Rattle.fax_gateway.specs.Setups.{Setup}
use Rattle.fax_gateway.specs.Events.{Event, Ring, FromCalling, FromCalled, Tick, Placed, Given, clock}
use Rattle.fax_gateway.specs.Legs.{new_pieces}
use Rattle.fax_gateway.specs.CallingLegs.{CallingLeg, calling_leg, idle_after, answers, confirmed_by}
use Rattle.fax_gateway.specs.CalledLegs.{CalledLeg, begun_core, core_of, is_free, core_left, placed_leg, calls, outcome_of, with_tick, leg_ticked, comes_to, leg_with, hears, told_by, told_called, outcome_told, delivered_told}
use Rattle.fax_gateway.specs.BothLegs.{BothLegs, begins_next, book_of, confirms_if, ends_if, heard_in_tick, job_asked, leg_of, sends, sends_if, enters, serves, both_legs, in_tick}
use Rattle.fax_gateway.specs.Traces.{IsTrace}
use Rattle.fax_gateway.specs.Told.{elements_told, heard_all, heard_with, heard_by, begun_if, marks_before, leg_marks}
use Rattle.fax_gateway.proofs.Restoring.{restored_sends}
use Rattle.fax_gateway.proofs.Fitting.{AllFit, FitTick, ticked_fits, moved_fits, short_given, marks_back}

-- the job that the book sends, by the leg
abbrev pub sent_by : CalledLeg → Option JobValue
sent_by l = if l.entered then None else Some l.job

pub record InCall (writes : Writing) (l : CalledLeg) (sending : Option JobValue) (marks : List Mark) : Type 0 where
  pub sends : sending ≡ sent_by l
  pub old : List Mark
  pub marks_are : marks ≡ marks_after writes l.job old (begun_core l) l.events
  pub fits : AllFit (core_of writes l).waiting
  pub short : AreShort l.given

abbrev pub IfInCall : Writing → Option CalledLeg → Option JobValue → List Mark → Type 0
IfInCall writes None sending marks = sending ≡ None
IfInCall writes (Some l) sending marks = InCall writes l sending marks

-- what the book hears of the calling leg sends and ends no job
page_sends : (book : Book) (call : ℕ) (page : PageValue) → (with_page book call page).sending ≡ book.sending
page_sends book call page = by (joins book.open_job call)
  where
    by : (t : Bool) → (if◌then◌else◌ {A = Book} t (added book page) (opened (closed book) call page)).sending ≡ book.sending
    by true = refl
    by false = refl

command_sends : (closes : Bool) (book : Book) → (if◌then◌else◌ {A = Book} closes (closed book) book).sending ≡ book.sending
command_sends true book = refl
command_sends false book = refl

abbrev sending_of : List Step → Option JobValue
sending_of steps = (after_steps new_past steps).book.sending

confirms_sends : (number : ℕ) (o : Option ConfirmedPage) (steps : List Step) → sending_of (confirms_if number o steps) ≡ sending_of steps
confirms_sends number None steps = refl
confirms_sends number (Some c) steps =
    let book : Book = (after_steps new_past steps).book in
    command_sends c.closes (with_page book number c.page) ∙ page_sends book number c.page

ends_sends : (b : Bool) (steps : List Step) → sending_of (ends_if b steps) ≡ sending_of steps
ends_sends true steps = refl
ends_sends false steps = refl

pub heard_sends : (o : Option CallingLeg) (now : ℕ) (steps : List Step) → sending_of (heard_in_tick o now steps) ≡ sending_of steps
heard_sends None now steps = refl
heard_sends (Some l) now steps =
    ends_sends (answers l now).ended (confirms_if l.number (confirmed_by (answers l now).given) steps)
    ∙ confirms_sends l.number (confirmed_by (answers l now).given) steps

same_sending : (writes : Writing) (leg : Option CalledLeg) (now old : Option JobValue) (marks : List Mark) → now ≡ old → IfInCall writes leg old marks → IfInCall writes leg now marks
same_sending writes leg now old marks e i = subst (λ (o : Option JobValue). IfInCall writes leg o marks) (sym e) i

-- where no job is being sent, the book sends none
pub free_sends : (writes : Writing) (leg : Option CalledLeg) (sending : Option JobValue) (marks : List Mark) → is_free leg ≡ true → IfInCall writes leg sending marks → sending ≡ None
free_sends writes None sending marks f i = i
free_sends writes (Some l) sending marks f i = i.sends ∙ ap (λ (b : Bool). if◌then◌else◌ {A = Option JobValue} b None (Some l.job)) f

-- a job's call begins
begins_call : (connected : Bool) (setup : Setup) (writes : Writing) (leg : Option CalledLeg) (o : Option JobValue) (now : ℕ) (marks : List Mark) → IfInCall writes leg None marks → IfInCall writes (leg_of connected o (core_left setup writes leg) now leg) o (begun_if true o marks)
begins_call connected setup writes leg None now marks i = i
begins_call true setup writes leg (Some job) now marks i = record { sends = refl; old = marks; marks_are = refl; fits = (omega arith, tt); short = tt }
begins_call false setup writes leg (Some job) now marks i = record { sends = refl; old = marks; marks_are = refl; fits = tt; short = tt }

-- a tick begins the next call only where none is on
pub begins_free : (asks : Bool) (b : Bool) → (not asks && b) ≡ true → b ≡ true
begins_free false b e = e
begins_free true b e = cc

-- a job is asked for only where none is being sent
pub asked_sends : (asks : Bool) (book : Book) → IsSome (job_asked asks book) → book.sending ≡ None
asked_sends false book h = cc
asked_sends true book h = by book.sending h
  where
    by : (o : Option JobValue) → IsSome (if◌then◌else◌ {A = Option JobValue} (is_some o) None (next_job book)) → o ≡ None
    by None k = refl
    by (Some job) k = cc

pub sends_call : (setup : Setup) (writes : Writing) (now : ℕ) (s : BothLegs) (marks : List Mark) → IfInCall writes s.leg (book_of s).sending marks →
    IfInCall writes (sends_if setup writes now s).leg (book_of (sends_if setup writes now s)).sending (begun_if (begins_next setup s.leg) (book_of (sends_if setup writes now s)).sending marks)
sends_call setup writes now s marks i = by (begins_next setup s.leg) refl
  where
    by : (b : Bool) → begins_next setup s.leg ≡ b →
        IfInCall writes (if◌then◌else◌ {A = BothLegs} b (sends true setup writes now s) s).leg (book_of (if◌then◌else◌ {A = BothLegs} b (sends true setup writes now s) s)).sending (begun_if b (book_of (if◌then◌else◌ {A = BothLegs} b (sends true setup writes now s) s)).sending marks)
    by true e =
        begins_call true setup writes s.leg (sending_of (Sends ∷ s.steps)) now marks
        (subst (λ (o : Option JobValue). IfInCall writes s.leg o marks) (free_sends writes s.leg (book_of s).sending marks (begins_free setup.asks (is_free s.leg) e) i) i)
    by false e = i

-- the called leg is served
ended_sends : (o : Option JobValue) (past : Past) (outcome : Outcome) (delivered : ℕ) → past.book.sending ≡ o → (ended_if o past outcome delivered).book.sending ≡ None
ended_sends None past outcome delivered e = e
ended_sends (Some job) past outcome delivered e = refl

enters_sends : (job : JobValue) (delivered : ℕ) (o : Option Outcome) (steps : List Step) → sending_of steps ≡ Some job → sending_of (enters delivered o steps) ≡ (if◌then◌else◌ {A = Option JobValue} (is_some o) None (Some job))
enters_sends job delivered None steps e = e
enters_sends job delivered (Some outcome) steps e = let past : Past = after_steps new_past steps in ended_sends past.book.sending past outcome delivered refl

abbrev served_marks : Setup → Writing → Option CalledLeg → ℕ → List Mark → List Mark
served_marks setup writes leg now marks = gave_all (elements_told (told_called setup writes leg now)) marks

serves_call : (setup : Setup) (writes : Writing) (l : CalledLeg) (now : ℕ) (steps : List Step) (marks : List Mark) → InCall writes l (sending_of steps) marks →
    InCall writes (leg_ticked writes now l) (sending_of (enters (delivered_told writes (Some l) now) (outcome_told writes (Some l) now) steps)) (served_marks setup writes (Some l) now marks)
serves_call setup writes l now steps marks i = by l.entered i.sends
  where
    by : (b : Bool) → sending_of steps ≡ (if◌then◌else◌ {A = Option JobValue} b None (Some l.job)) →
        InCall writes (if◌then◌else◌ {A = CalledLeg} b l (with_tick (calls writes l now) now l))
        (sending_of (enters (delivered_told writes (Some l) now) (if◌then◌else◌ {A = Option Outcome} b None (outcome_of (calls writes l now).core)) steps))
        (gave_all (elements_told (if◌then◌else◌ {A = Option (List ℕ)} b None (told_by setup l.given (calls writes l now).given))) marks)
    by true e = i
    by false e =
        let t : TickResult = calls writes l now in
        let f : FitTick t = ticked_fits writes l.job (core_of writes l) now i.fits in
        record {
          sends = enters_sends l.job (delivered_told writes (Some l) now) (outcome_of t.core) steps e;
          old = i.old;
          marks_are = marks_back setup l.given t.given marks i.short f.given ∙ ap (marks_given t.given) i.marks_are;
          fits = f.core;
          short = short_given t.given l.given f.given i.short;
        }

serves_if : (setup : Setup) (writes : Writing) (leg : Option CalledLeg) (now : ℕ) (steps : List Step) (marks : List Mark) → IfInCall writes leg (sending_of steps) marks →
    IfInCall writes (option_map (leg_ticked writes now) leg) (sending_of (enters (delivered_told writes leg now) (outcome_told writes leg now) steps)) (served_marks setup writes leg now marks)
serves_if setup writes None now steps marks i = i
serves_if setup writes (Some l) now steps marks i = serves_call setup writes l now steps marks i

-- a datagram comes
record Hears (writes : Writing) (job : JobValue) (old : List Mark) (a : CallerCore) (events : List CallEvent) (marks : List Mark) : Type 0 where
  marks_are : marks ≡ marks_after writes job old a events
  fits : AllFit (after_events writes job a events).waiting

pieces_call : (writes : Writing) (job : JobValue) (old : List Mark) (a : CallerCore) (ps : List Piece) (now : ℕ) (events : List CallEvent) (marks : List Mark) →
    Hears writes job old a events marks → Hears writes job old a (comes_to ps now events) (heard_all ps marks)
pieces_call writes job old a [] now events marks h = h
pieces_call writes job old a (p ∷ ps) now events marks h =
    let c : CallerCore = after_events writes job a events in
    pieces_call writes job old a ps now (Comes p now ∷ events) (marks_heard p marks)
    (record { marks_are = ap (marks_heard p) h.marks_are; fits = moved_fits c (heard c p now) h.fits })

with_call : (writes : Writing) (l : CalledLeg) (now : ℕ) (r : Result DatagramValue UdptlFault) (sending : Option JobValue) (marks : List Mark) → InCall writes l sending marks →
    InCall writes (leg_with r now l) sending (heard_with l r marks)
with_call writes l now (Err f) sending marks i = i
with_call writes l now (Ok d) sending marks i =
    let h : Hears writes l.job i.old (begun_core l) (comes_to (new_pieces l.arrived d) now l.events) (heard_all (new_pieces l.arrived d) marks) =
    pieces_call writes l.job i.old (begun_core l) (new_pieces l.arrived d) now l.events marks (record { marks_are = i.marks_are; fits = i.fits }) in
    record { sends = i.sends; old = i.old; marks_are = h.marks_are; fits = h.fits; short = i.short }

hears_call : (writes : Writing) (leg : Option CalledLeg) (now : ℕ) (octets : List ℕ) (sending : Option JobValue) (marks : List Mark) → IfInCall writes leg sending marks →
    IfInCall writes (option_map (hears writes octets now) leg) sending (heard_by writes leg octets marks)
hears_call writes None now octets sending marks i = i
hears_call writes (Some l) now octets sending marks i = by (is_over (core_of writes l).state)
  where
    by : (b : Bool) → InCall writes (if◌then◌else◌ {A = CalledLeg} b l (leg_with (datagram_of octets) now l)) sending (if◌then◌else◌ {A = List Mark} b marks (heard_with l (datagram_of octets) marks))
    by true = i
    by false = with_call writes l now (datagram_of octets) sending marks i

-- over a trace
pub before_call : (setup : Setup) (writes : Writing) (earlier : List Event) (at : ℕ) (marks : List Mark) → IfInCall writes (both_legs setup writes earlier).leg (book_of (both_legs setup writes earlier)).sending marks →
    IfInCall writes (in_tick setup writes earlier at).leg (book_of (in_tick setup writes earlier at)).sending (marks_before setup writes earlier at marks)
before_call setup writes earlier at marks i =
    let now : ℕ = max at (clock earlier) in
    let s : BothLegs = both_legs setup writes earlier in
    let z : BothLegs = record s { steps = heard_in_tick (calling_leg setup earlier) now s.steps } in
    sends_call setup writes now z marks (same_sending writes s.leg (book_of z).sending (book_of s).sending marks (heard_sends (calling_leg setup earlier) now s.steps) i)

pub in_call : (setup : Setup) (writes : Writing) (trace : List Event) → IsTrace setup writes trace → IfInCall writes (both_legs setup writes trace).leg (book_of (both_legs setup writes trace)).sending (leg_marks setup writes trace)
in_call setup writes [] t = restored_sends setup.restored []
in_call setup writes (Ring at n ∷ earlier) t = in_call setup writes earlier t.1
in_call setup writes (FromCalling octets at decided read ∷ earlier) t =
    let s : BothLegs = both_legs setup writes earlier in
    same_sending writes s.leg _ (book_of s).sending (leg_marks setup writes earlier)
    (ends_sends (not (idle_after (calling_leg setup earlier)) && idle_after (calling_leg setup (FromCalling octets at decided read ∷ earlier))) s.steps) (in_call setup writes earlier t.1)
in_call setup writes (FromCalled octets at decided ∷ earlier) t =
    let s : BothLegs = both_legs setup writes earlier in hears_call writes s.leg (clock (FromCalled octets at decided ∷ earlier)) octets (book_of s).sending (leg_marks setup writes earlier) (in_call setup writes earlier t.1)
in_call setup writes (Placed at connected ∷ earlier) t =
    let s : BothLegs = both_legs setup writes earlier in
    let marks : List Mark = leg_marks setup writes earlier in
    begins_call connected setup writes s.leg (sending_of (Sends ∷ s.steps)) (clock (Placed at connected ∷ earlier)) marks
    (subst (λ (o : Option JobValue). IfInCall writes s.leg o marks) (asked_sends setup.asks (book_of s) t.0) (in_call setup writes earlier t.1))
in_call setup writes (Tick at given ∷ earlier) t =
    let now : ℕ = max at (clock earlier) in
    let z : BothLegs = in_tick setup writes earlier at in
    let marks : List Mark = marks_before setup writes earlier at (leg_marks setup writes earlier) in
    subst (λ (told : Option (List ℕ)). IfInCall writes (serves writes now z).leg (book_of (serves writes now z)).sending (gave_all (elements_told told) marks)) (sym (ap (λ (g : Given). g.on_called) t.0))
    (serves_if setup writes z.leg now z.steps marks (before_call setup writes earlier at (leg_marks setup writes earlier) (in_call setup writes earlier t.1)))
