-- A gateway between two machines: its book, and its called leg, which goes as a machine that calls.
use Rattle.std.proofs.Common.{◌≡◌, ℕ, ◌<◌, ◌≤◌, nat_lt, Bool, true, false, not, ◌&&◌, List, [], ◌∷◌, ◌++◌, length, drop, Option, Some, None, Result, Ok, Err, option_map, refl, sym, ◌∙◌, ap, subst, arith, if◌then◌else◌}
use Rattle.fax_timers.specs.Moments.{is_due}
use Rattle.fax_udptl.specs.declared.fault.UdptlFault.{UdptlFault}
use Rattle.fax_udptl.specs.Datagrams.{DatagramValue, datagram_of}
use Rattle.fax_ifp.specs.Pieces.{Piece}
use Rattle.fax_runcodes.specs.declared.format.Format.{Format}
use Rattle.fax_pagestore.specs.Pages.{PageValue}
use Rattle.fax_jobs.specs.declared.outcome.Outcome.{Outcome}
use Rattle.fax_jobs.specs.Books.{Book, added, opened, report_of, confirmed, closed, after, ended, first_of, with_page}
use Rattle.fax_jobs.specs.Jobs.{IsOfFirst, JobValue, most_pages}
use Rattle.fax_jobs.specs.Pasts.{Step, Confirms, Sends, Ends, Past, new_past, after_steps, ended_if, sent_if}
use Rattle.fax_answer.specs.Replies.{ConfirmedPage}
use Rattle.fax_call.specs.declared.state.State.{State as Calling}
use Rattle.fax_call.specs.declared.state.State.TheVariants as calling
use Rattle.fax_call.specs.Calls as call
use Rattle.fax_call.specs.Calls.{CallerCore}
use Rattle.fax_call.specs.Delivery.{is_over}
use Rattle.fax_call.specs.Replies.{Due}
use Rattle.fax_call.specs.Table.{on_timers}
use Rattle.fax_call.specs.Writings.{Writing}
use Rattle.fax_call.proofs.Silence.{IsTimely, TimelyState}
use Rattle.fax_call.proofs.Silence as timely
use Rattle.fax_gateway.specs.Setups.{Setup}
use Rattle.fax_gateway.specs.Events.{Event, clock}
use Rattle.fax_gateway.specs.Legs.{new_pieces}
use Rattle.fax_gateway.specs.CallingLegs as answers
use Rattle.fax_gateway.specs.CallingLegs.{CallingLeg, calling_leg, confirmed_by, idle_after}
use Rattle.fax_gateway.specs.CalledLegs as calls
use Rattle.fax_gateway.specs.CalledLegs.{CalledLeg, begun_leg, core_left, hears, is_free}
use Rattle.fax_gateway.specs.BothLegs.{BothLegs, book_of, both_legs, confirms_if, ends_if, heard_in_tick, leg_of, sends, sends_if}
use Rattle.fax_gateway.proofs.Hearing.{came_core}
use Rattle.fax_laws.specs.delivery.Links.{Reader}
use Rattle.fax_laws.specs.delivery.Datagrams.{caller_with}
use Rattle.fax_laws.specs.delivery.Gateways.{with_calling, with_called}
use Rattle.fax_laws.proofs.delivery.Turns.{CallerRests, caller_rests}
use Rattle.fax_laws.proofs.delivery.CallingLeg.{max_is}

-- ---- THE BOOK as the steps of a round change it

abbrev pub book_in : List Step → Book
book_in steps = (after_steps new_past steps).book

-- it waits for pages; a job waits; it is being sent; it was reported
abbrev pub waits_with : JobValue → Book
waits_with job = record { open_job = None; waiting = job ∷ []; sending = None; reports = [] }

abbrev pub sends_with : JobValue → Book
sends_with job = record { open_job = None; waiting = []; sending = Some job; reports = [] }

abbrev pub ended_with : JobValue → Outcome → ℕ → Book
ended_with job outcome delivered = record { open_job = None; waiting = []; sending = None; reports = report_of job outcome delivered ∷ [] }

-- a call's end changes a book without an open job in nothing
closed_none : (b : Book) → b.open_job ≡ None → closed b ≡ b
closed_none b e = ap (λ (o : Option JobValue). let x : Book = record { open_job = None; waiting = after b.waiting o; sending = b.sending; reports = b.reports } in x) e ∙ ap (λ (o : Option JobValue). let x : Book = record { open_job = o; waiting = b.waiting; sending = b.sending; reports = b.reports } in x) (sym e)

ends_same : (ended : Bool) (steps : List Step) (b : Book) → book_in steps ≡ b → b.open_job ≡ None → book_in (ends_if ended steps) ≡ b
ends_same false steps b is none = is
ends_same true steps b is none = ap closed is ∙ closed_none b none

-- in a tick in which no page is confirmed
pub quiet_tick : (l : CallingLeg) (now : ℕ) (steps : List Step) (b : Book) → confirmed_by (answers.answers l now).given ≡ None → book_in steps ≡ b → b.open_job ≡ None → book_in (heard_in_tick (Some l) now steps) ≡ b
quiet_tick l now steps b none is closed_so =
    ap (λ (c : Option ConfirmedPage). book_in (ends_if (answers.answers l now).ended (confirms_if l.number c steps))) none ∙ ends_same (answers.answers l now).ended steps b is closed_so

-- THE BOOK WHILE A CALL BRINGS PAGES: these were confirmed, of which the first has this format
abbrev pub open_with : Format → List PageValue → Option JobValue
open_with format [] = None
open_with format (page ∷ pages) = Some (record { call = 0; format = format; pages = page ∷ pages })

abbrev pub opened_book : Format → List PageValue → Book
opened_book format pages = record { open_job = open_with format pages; waiting = []; sending = None; reports = [] }

abbrev pub book_with : Option ConfirmedPage → Book → Book
book_with None b = b
book_with (Some c) b = confirmed b 0 c.page c.closes

-- in a tick in which its call does not end
pub going_tick : (l : CallingLeg) (now : ℕ) (steps : List Step) (b : Book) (o : Option ConfirmedPage) → confirmed_by (answers.answers l now).given ≡ o → (answers.answers l now).ended ≡ false → l.number ≡ 0 → book_in steps ≡ b
    → book_in (heard_in_tick (Some l) now steps) ≡ book_with o b
going_tick l now steps b o is goes first book =
    ap (λ (x : Bool). book_in (ends_if x (confirms_if l.number (confirmed_by (answers.answers l now).given) steps))) goes
    ∙ ap (λ (c : Option ConfirmedPage). book_in (confirms_if l.number c steps)) is
    ∙ ap (λ (n : ℕ). book_in (confirms_if n o steps)) first
    ∙ by o
  where
    by : (c : Option ConfirmedPage) → book_in (confirms_if 0 c steps) ≡ book_with c b
    by None = book
    by (Some c) = ap (λ (x : Book). confirmed x 0 c.page c.closes) book

-- and in the one in which the last page is confirmed
pub confirming_tick : (l : CallingLeg) (now : ℕ) (steps : List Step) (c : ConfirmedPage) (b : Book) (job : JobValue) → confirmed_by (answers.answers l now).given ≡ Some c → l.number ≡ 0 → book_in steps ≡ b
    → confirmed b 0 c.page c.closes ≡ waits_with job → book_in (heard_in_tick (Some l) now steps) ≡ waits_with job
confirming_tick l now steps c b job some first is closes =
    ap (λ (o : Option ConfirmedPage). book_in (ends_if (answers.answers l now).ended (confirms_if l.number o steps))) some
    ∙ ap (λ (n : ℕ). book_in (ends_if (answers.answers l now).ended (Confirms n c.page c.closes ∷ steps))) first
    ∙ ends_same (answers.answers l now).ended (Confirms 0 c.page c.closes ∷ steps) (waits_with job) (ap (λ (x : Book). confirmed x 0 c.page c.closes) is ∙ closes) refl

-- a page joins those before it, and the last one closes the job
lt_so : (m n : ℕ) → m < n → nat_lt m n ≡ true
lt_so m n h = grind (arith)

joins_book : (format : Format) (pages : List PageValue) (page : PageValue) → IsOfFirst format (pages ++ page ∷ []) → length pages < most_pages → with_page (opened_book format pages) 0 page ≡ opened_book format (pages ++ page ∷ [])
joins_book format [] page first few = ap (λ (f : Format). let b : Book = record { open_job = Some (record { call = 0; format = f; pages = page ∷ [] }); waiting = []; sending = None; reports = [] } in b) (sym first)
joins_book format (p ∷ pages) page first few =
    ap (λ (x : Bool). if◌then◌else◌ {A = Book} (true && x) (added (opened_book format (p ∷ pages)) page) (opened (closed (opened_book format (p ∷ pages))) 0 page)) (lt_so (length (p ∷ pages)) most_pages few)

pub one_joins : (format : Format) (pages : List PageValue) (page : PageValue) → IsOfFirst format (pages ++ page ∷ []) → length pages < most_pages → confirmed (opened_book format pages) 0 page false ≡ opened_book format (pages ++ page ∷ [])
one_joins format pages page first few = joins_book format pages page first few

closes_book : (format : Format) (pages : List PageValue) (page : PageValue) → closed (opened_book format (pages ++ page ∷ [])) ≡ waits_with (record { call = 0; format = format; pages = pages ++ page ∷ [] })
closes_book format [] page = refl
closes_book format (p ∷ pages) page = refl

pub last_closes : (format : Format) (pages : List PageValue) (page : PageValue) → IsOfFirst format (pages ++ page ∷ []) → length pages < most_pages
    → confirmed (opened_book format pages) 0 page true ≡ waits_with (record { call = 0; format = format; pages = pages ++ page ∷ [] })
last_closes format pages page first few = ap closed (joins_book format pages page first few) ∙ closes_book format pages page

-- ---- WHAT COMES before the tick changes no book, and the called leg as it hears

pub comes_calling : (setup : Setup) (writes : Writing) (reads : Reader) (now : ℕ) (o : Option (List ℕ)) (trace : List Event) (b : Book) → book_of (both_legs setup writes trace) ≡ b → b.open_job ≡ None
    → (book_of (both_legs setup writes (with_calling setup reads now o trace)) ≡ b) × ((both_legs setup writes (with_calling setup reads now o trace)).leg ≡ (both_legs setup writes trace).leg)
comes_calling setup writes reads now None trace b is none = (is, refl)
comes_calling setup writes reads now (Some octets) trace b is none =
    (ends_same (not (idle_after (calling_leg setup trace)) && idle_after (calling_leg setup (with_calling setup reads now (Some octets) trace))) (both_legs setup writes trace).steps b is none, refl)

-- and so it is where its call does not end
pub comes_going : (setup : Setup) (writes : Writing) (reads : Reader) (now : ℕ) (o : Option (List ℕ)) (trace : List Event) → idle_after (calling_leg setup (with_calling setup reads now o trace)) ≡ false
    → (book_of (both_legs setup writes (with_calling setup reads now o trace)) ≡ book_of (both_legs setup writes trace)) × ((both_legs setup writes (with_calling setup reads now o trace)).leg ≡ (both_legs setup writes trace).leg)
comes_going setup writes reads now None trace on = (refl, refl)
comes_going setup writes reads now (Some octets) trace on =
    (ap (λ (x : Bool). book_in (ends_if (not (idle_after (calling_leg setup trace)) && x) (both_legs setup writes trace).steps)) on ∙ none (not (idle_after (calling_leg setup trace))), refl)
  where
    none : (x : Bool) → book_in (ends_if (x && false) (both_legs setup writes trace).steps) ≡ book_of (both_legs setup writes trace)
    none true = refl
    none false = refl

abbrev pub leg_with : Writing → ℕ → Option (List ℕ) → Option CalledLeg → Option CalledLeg
leg_with writes now None leg = leg
leg_with writes now (Some octets) leg = option_map (hears writes octets now) leg

pub comes_called : (setup : Setup) (writes : Writing) (now : ℕ) (o : Option (List ℕ)) (trace : List Event) → clock trace ≤ now
    → (book_of (both_legs setup writes (with_called setup writes now o trace)) ≡ book_of (both_legs setup writes trace)) × ((both_legs setup writes (with_called setup writes now o trace)).leg ≡ leg_with writes now o (both_legs setup writes trace).leg)
comes_called setup writes now None trace h = (refl, refl)
comes_called setup writes now (Some octets) trace h = (refl, ap (λ (m : ℕ). option_map (hears writes octets m) (both_legs setup writes trace).leg) (max_is now (clock trace) h))

-- ---- A TICK of the called leg, by what the book then has

abbrev pub free_book : Book → Type 0
free_book b = (b.waiting ≡ []) × (b.sending ≡ None)

-- none begins: nothing waits
sends_none : (b : Book) → free_book b → sent_if b.sending b ≡ b
sends_none b f =
    ap (λ (s : Option JobValue). sent_if s b) f.1
    ∙ ap (λ (w : List JobValue). let x : Book = record { open_job = b.open_job; waiting = drop 1 w; sending = first_of w; reports = b.reports } in x) f.0
    ∙ ap (λ (w : List JobValue). let x : Book = record { open_job = b.open_job; waiting = w; sending = None; reports = b.reports } in x) (sym f.0)
    ∙ ap (λ (s : Option JobValue). let x : Book = record { open_job = b.open_job; waiting = b.waiting; sending = s; reports = b.reports } in x) (sym f.1)

-- a tick from these steps, and this leg
abbrev pub z_of : List Step → Option CalledLeg → BothLegs
z_of steps leg = record { steps = steps; leg = leg }

abbrev pub middle : Setup → Writing → ℕ → List Step → Option CalledLeg → BothLegs
middle setup writes now steps leg = sends_if setup writes now (z_of steps leg)

-- the steps after a tick that begins a call where a job waits
free_begins : (setup : Setup) (writes : Writing) (now : ℕ) (steps : List Step) (leg : Option CalledLeg) → setup.asks ≡ false → is_free leg ≡ true
    → middle setup writes now steps leg ≡ sends true setup writes now (z_of steps leg)
free_begins setup writes now steps leg asks free =
    ap (λ (b : Bool). if◌then◌else◌ {A = BothLegs} (not b && is_free leg) (sends true setup writes now (z_of steps leg)) (z_of steps leg)) asks
    ∙ ap (λ (b : Bool). if◌then◌else◌ {A = BothLegs} b (sends true setup writes now (z_of steps leg)) (z_of steps leg)) free

-- nothing waits: nothing begins
pub none_begins : (setup : Setup) (writes : Writing) (now : ℕ) (steps : List Step) (leg : Option CalledLeg) (b : Book) → setup.asks ≡ false → is_free leg ≡ true → book_in steps ≡ b → free_book b
    → (middle setup writes now steps leg ≡ z_of (Sends ∷ steps) leg) × (book_in (Sends ∷ steps) ≡ b)
none_begins setup writes now steps leg b asks free is f =
    let book : book_in (Sends ∷ steps) ≡ b = ap (λ (x : Book). sent_if x.sending x) is ∙ sends_none b f in
    let sending : (book_in (Sends ∷ steps)).sending ≡ None = ap (λ (x : Book). x.sending) book ∙ f.1 in (
      free_begins setup writes now steps leg asks free ∙ ap (λ (j : Option JobValue). z_of (Sends ∷ steps) (leg_of true j (core_left setup writes leg) now leg)) sending,
      book,
    )

-- a job waits: its call begins
pub one_begins : (setup : Setup) (writes : Writing) (now : ℕ) (steps : List Step) (job : JobValue) → setup.asks ≡ false → book_in steps ≡ waits_with job
    → (middle setup writes now steps None ≡ z_of (Sends ∷ steps) (Some (begun_leg job (core_left setup writes None) now))) × (book_in (Sends ∷ steps) ≡ sends_with job)
one_begins setup writes now steps job asks is =
    let book : book_in (Sends ∷ steps) ≡ sends_with job = ap (λ (x : Book). sent_if x.sending x) is in
    let sending : (book_in (Sends ∷ steps)).sending ≡ Some job = ap (λ (x : Book). x.sending) book in (
      free_begins setup writes now steps None asks refl ∙ ap (λ (j : Option JobValue). z_of (Sends ∷ steps) (leg_of true j (core_left setup writes None) now None)) sending,
      book,
    )

-- a call is on: none begins
pub busy : (setup : Setup) (writes : Writing) (now : ℕ) (steps : List Step) (l : CalledLeg) → setup.asks ≡ false → l.entered ≡ false → middle setup writes now steps (Some l) ≡ z_of steps (Some l)
busy setup writes now steps l asks on =
    ap (λ (b : Bool). if◌then◌else◌ {A = BothLegs} (not b && l.entered) (sends true setup writes now (z_of steps (Some l))) (z_of steps (Some l))) asks
    ∙ ap (λ (b : Bool). if◌then◌else◌ {A = BothLegs} b (sends true setup writes now (z_of steps (Some l))) (z_of steps (Some l))) on

-- the end of a call
abbrev ended_book : Option JobValue → Book → Outcome → ℕ → Book
ended_book None b outcome delivered = b
ended_book (Some job) b outcome delivered = ended b outcome delivered

ends_book : (s : Option JobValue) (p : Past) (outcome : Outcome) (delivered : ℕ) → (ended_if s p outcome delivered).book ≡ ended_book s p.book outcome delivered
ends_book None p outcome delivered = refl
ends_book (Some job) p outcome delivered = refl

pub enters_none : (steps : List Step) (job : JobValue) (outcome : Outcome) (delivered : ℕ) → book_in steps ≡ sends_with job → book_in (Ends outcome delivered ∷ steps) ≡ ended_with job outcome delivered
enters_none steps job outcome delivered is =
    ends_book (book_in steps).sending (after_steps new_past steps) outcome delivered ∙ ap (λ (b : Book). ended_book b.sending b outcome delivered) is

-- ---- A CALL THAT IS OVER rests

idle_waits : (m : ℕ) (s : Calling) (due : List Due) (t1 t4 : Option ℕ) (o : Option Outcome) → TimelyState m s due t1 t4 o → s ≡ calling.Idle → due ≡ []
idle_waits m calling.Idle [] t1 t4 o h e = refl
idle_waits m calling.Idle (d ∷ due) t1 t4 o h e = absurd h
idle_waits m calling.AwaitDis due t1 t4 o h e = cc
idle_waits m (calling.AwaitCfr dis dcs) due t1 t4 o h e = cc
idle_waits m (calling.AwaitMcf dis dcs) due t1 t4 o h e = cc
idle_waits m (calling.Closing x) due t1 t4 o h e = cc

pub over_rests : (writes : Writing) (job : JobValue) (a : CallerCore) (m now : ℕ) → IsTimely m a → a.state ≡ calling.Idle → CallerRests writes job a now
over_rests writes job a m now t e =
    caller_rests writes job a now (idle_waits m a.state a.waiting a.t1 a.t4 a.outcome t.state e)
    (ap (λ (s : Calling). on_timers (is_due a.t1 now) (is_due a.t4 now) s a.counts) e)

came_timely : (m : ℕ) (a : CallerCore) (ps : List Piece) (now : ℕ) → now ≤ m → IsTimely m a → IsTimely m (call.came_all a ps now)
came_timely m a [] now h t = t
came_timely m a (p ∷ ps) now h t = came_timely m (call.came a p now) ps now h (timely.came_timely m a p now h t)

pub with_timely : (writes : Writing) (now : ℕ) (o : Option (List ℕ)) (l : CalledLeg) → IsTimely now (calls.core_of writes l) → IsTimely now (calls.core_of writes (caller_with writes now o l))
with_timely writes now None l t = t
with_timely writes now (Some octets) l t = by (is_over (calls.core_of writes l).state) (datagram_of octets)
  where
    by : (b : Bool) (r : Result DatagramValue UdptlFault) → IsTimely now (calls.core_of writes (if◌then◌else◌ {A = CalledLeg} b l (calls.leg_with r now l)))
    by true r = t
    by false (Err f) = t
    by false (Ok d) =
        subst (IsTimely now) (sym (came_core writes l.job (calls.begun_core l) (new_pieces l.arrived d) now l.events))
        (came_timely now (calls.core_of writes l) (new_pieces l.arrived d) now (omega arith) t)

pub same_over : (writes : Writing) (now : ℕ) (o : Option (List ℕ)) (l : CalledLeg) → (calls.core_of writes l).state ≡ calling.Idle → caller_with writes now o l ≡ l
same_over writes now None l e = refl
same_over writes now (Some octets) l e = ap (λ (s : Calling). if◌then◌else◌ {A = CalledLeg} (is_over s) l (calls.leg_with (datagram_of octets) now l)) e

pub with_job : (writes : Writing) (now : ℕ) (o : Option (List ℕ)) (l : CalledLeg) → ((caller_with writes now o l).job ≡ l.job) × ((caller_with writes now o l).entered ≡ l.entered)
with_job writes now None l = (refl, refl)
with_job writes now (Some octets) l = by (is_over (calls.core_of writes l).state) (datagram_of octets)
  where
    by : (b : Bool) (r : Result DatagramValue UdptlFault) → ((if◌then◌else◌ {A = CalledLeg} b l (calls.leg_with r now l)).job ≡ l.job) × ((if◌then◌else◌ {A = CalledLeg} b l (calls.leg_with r now l)).entered ≡ l.entered)
    by true r = (refl, refl)
    by false (Err f) = (refl, refl)
    by false (Ok d) = (refl, refl)
