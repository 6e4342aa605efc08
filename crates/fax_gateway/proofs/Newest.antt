-- The page that a tick confirms is the newest of the book after it.
use Rattle.std.proofs.Common.{◌≡◌, ℕ, max, Bool, true, false, is_some, List, [], ◌∷◌, Option, Some, None, option_map, refl, sym, ◌∙◌, ap, subst, if◌then◌else◌}
use Rattle.fax_timers.specs.Paces.{pace_allows}
use Rattle.fax_jobs.specs.declared.outcome.Outcome.{Outcome}
use Rattle.fax_jobs.specs.Jobs.{JobValue}
use Rattle.fax_jobs.specs.Books.{Book, closed, taken, ended, confirmed}
use Rattle.fax_jobs.specs.Pasts.{Step, Sends, Past, new_past, sent_if, ended_if, after_steps}
use Rattle.fax_jobs.specs.Newest.{newest_page}
use Rattle.fax_jobs.proofs.NewestLemmas.{own_page, newest_own, close_own, confirmed_own, taken_newest}
use Rattle.fax_pagestore.specs.Pages.{PageValue}
use Rattle.fax_answer.specs.Replies.{ConfirmedPage}
use Rattle.fax_call.specs.Writings.{Writing}
use Rattle.fax_call.specs.Calls.{CallerCore, TickResult, started, given_first, ticked}
use Rattle.fax_gateway.specs.Setups.{Setup}
use Rattle.fax_gateway.specs.Events.{Event, Tick, Given, clock}
use Rattle.fax_gateway.specs.CallingLegs.{CallingLeg, calling_leg, answers, confirmed_by}
use Rattle.fax_gateway.specs.CalledLegs.{CalledLeg, begun_leg, is_free, core_left, calls, outcome_of, outcome_told, delivered_told}
use Rattle.fax_gateway.specs.BothLegs.{BothLegs, begins_next, book_of, confirms_if, ends_if, heard_in_tick, leg_of, sends, sends_if, enters, serves, before_serving, both_legs}
use Rattle.fax_gateway.specs.Traces.{IsTrace}
use Rattle.fax_gateway.specs.Told.{leg_marks}
use Rattle.fax_gateway.specs.Cuts.{confirmed_at}
use Rattle.fax_gateway.specs.Newest.{ConfirmsTheNewest}
use Rattle.fax_gateway.proofs.InCalls.{IfInCall, begins_free, free_sends, heard_sends, in_call}

abbrev book_after : List Step → Book
book_after steps = (after_steps new_past steps).book

-- what the book hears of the calling leg
ends_own : (b : Bool) (steps : List Step) (page : PageValue) → own_page (book_after steps) ≡ Some page → own_page (book_after (ends_if b steps)) ≡ Some page
ends_own true steps page e = close_own (book_after steps) page e
ends_own false steps page e = e

heard_own : (leg : Option CallingLeg) (now : ℕ) (steps : List Step) (c : ConfirmedPage) → confirmed_at leg now ≡ Some c → own_page (book_after (heard_in_tick leg now steps)) ≡ Some c.page
heard_own None now steps c e = let no : None ≡ Some c = e in cc
heard_own (Some l) now steps c e =
    let confirms : own_page (book_after (confirms_if l.number (confirmed_by (answers l now).given) steps)) ≡ Some c.page =
    subst (λ (o : Option ConfirmedPage). own_page (book_after (confirms_if l.number o steps)) ≡ Some c.page) (sym e) (confirmed_own (book_after steps) l.number c.page c.closes) in
    ends_own (answers l now).ended (confirms_if l.number (confirmed_by (answers l now).given) steps) c.page confirms

-- a job's call that begins is not over in its first tick
first_tick : (writes : Writing) (job : JobValue) (before : CallerCore) (now : ℕ) → outcome_of (ticked writes job (started before job now) now).core ≡ None
first_tick writes job before now = by (pace_allows before.pace.last now)
  where
    a : CallerCore
    a = started before job now

    by : (b : Bool) → outcome_of (if◌then◌else◌ {A = TickResult} b (given_first writes job a now a.waiting) (record { core = a; given = None })).core ≡ None
    by true = refl
    by false = refl

begun_tells_none : (writes : Writing) (o : Option JobValue) (before : CallerCore) (now : ℕ) (leg : Option CalledLeg) → is_free leg ≡ true → outcome_told writes (leg_of true o before now leg) now ≡ None
begun_tells_none writes (Some job) before now leg free = first_tick writes job before now
begun_tells_none writes None before now None free = refl
begun_tells_none writes None before now (Some l) free = ap (λ (b : Bool). if◌then◌else◌ {A = Option Outcome} b None (outcome_of (calls writes l now).core)) free

-- where a job was being sent before, it is not the one of the page
ended_own : (o : Option JobValue) (past : Past) (outcome : Outcome) (delivered : ℕ) (page : PageValue) → own_page past.book ≡ Some page → own_page (ended_if o past outcome delivered).book ≡ Some page
ended_own None past outcome delivered page e = e
ended_own (Some job) past outcome delivered page e = e

enters_own : (delivered : ℕ) (o : Option Outcome) (steps : List Step) (page : PageValue) → own_page (book_after steps) ≡ Some page → own_page (book_after (enters delivered o steps)) ≡ Some page
enters_own delivered None steps page e = e
enters_own delivered (Some outcome) steps page e =
    let past : Past = after_steps new_past steps in ended_own past.book.sending past outcome delivered page e

enters_nothing : (delivered : ℕ) (o : Option Outcome) (steps : List Step) (page : PageValue) → o ≡ None → newest_page (book_after steps) ≡ Some page → newest_page (book_after (enters delivered o steps)) ≡ Some page
enters_nothing delivered None steps page is e = e
enters_nothing delivered (Some outcome) steps page is e = let no : Some outcome ≡ None = is in cc

sends_newest : (steps : List Step) (page : PageValue) → (book_after steps).sending ≡ None → own_page (book_after steps) ≡ Some page → newest_page (book_after (Sends ∷ steps)) ≡ Some page
sends_newest steps page none e =
    let book : Book = book_after steps in
    subst (λ (o : Option JobValue). newest_page (sent_if o book) ≡ Some page) (sym none) (taken_newest book page e)

-- what a tick does after that
served_newest : (setup : Setup) (writes : Writing) (now : ℕ) (s : BothLegs) (page : PageValue) → (is_free s.leg ≡ true → (book_of s).sending ≡ None) → own_page (book_of s) ≡ Some page →
    newest_page (book_of (serves writes now (sends_if setup writes now s))) ≡ Some page
served_newest setup writes now s page none e = by (begins_next setup s.leg) refl
  where
    by : (b : Bool) → begins_next setup s.leg ≡ b → newest_page (book_of (serves writes now (if◌then◌else◌ {A = BothLegs} b (sends true setup writes now s) s))) ≡ Some page
    by true begins =
        let free : is_free s.leg ≡ true = begins_free setup.asks (is_free s.leg) begins in
        let z : BothLegs = sends true setup writes now s in
        enters_nothing (delivered_told writes z.leg now) (outcome_told writes z.leg now) z.steps page
        (begun_tells_none writes (book_after (Sends ∷ s.steps)).sending (core_left setup writes s.leg) now s.leg free) (sends_newest s.steps page (none free) e)
    by false busy =
        let steps : List Step = enters (delivered_told writes s.leg now) (outcome_told writes s.leg now) s.steps in
        newest_own (book_after steps) page (enters_own (delivered_told writes s.leg now) (outcome_told writes s.leg now) s.steps page e)

pub confirms_the_newest : ConfirmsTheNewest
confirms_the_newest setup writes at given earlier c t is =
    let now : ℕ = max at (clock earlier) in
    let s : BothLegs = both_legs setup writes earlier in
    let leg : Option CallingLeg = calling_leg setup earlier in
    let heard : BothLegs = record s { steps = heard_in_tick leg now s.steps } in
    served_newest setup writes now heard c.page
    (λ (free : is_free s.leg ≡ true). heard_sends leg now s.steps ∙ free_sends writes s.leg (book_of s).sending (leg_marks setup writes earlier) free (in_call setup writes earlier t.1))
    (heard_own leg now s.steps c is)
