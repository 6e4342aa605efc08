-- NOTHING IS DROPPED: what becomes of each page that was put, over any number of lives. Lists have the oldest first, but those of events, which
-- have the newest first. (This project's profile.)
use Rattle.std.specs.Prelude.{◌≡◌, ◌⊎◌, ◌<◌, ◌≤◌, ℕ, Bool, true, false, List, [], ◌∷◌, ◌++◌, Option, Some, slice_get, if◌then◌else◌}
use Rattle.fax_jobs.specs.declared.outcome.Outcome.TheVariants.{Delivered}
use Rattle.fax_jobs.specs.declared.report.Report.{Report}
use Rattle.fax_line.specs.declared.settling.LineReport.{LineReport}
use Rattle.fax_spool.specs.Calls as spools
use Rattle.fax_spool.specs.RecordOctets.{EndedValue, PageValue}
use Rattle.fax_spool.specs.Spools.{AreClean, files_of}
use Rattle.fax_spool.specs.Torn.{CallName, call_of}
use Rattle.fax_spool.specs.Waits.{ends, name_of, without}
use Rattle.fax_spool.specs.declared.spool.Spool.{Spool}
use Rattle.fax_queue.specs.Jobs.{WaitSo}
use Rattle.fax_queue.specs.Queues.{IsEndOf, NamesLeft, QueueValue}
use Rattle.fax_queue.specs.Together.{EndsTogether}
use Rattle.fax_queue.specs.declared.queue.EndedJob.{EndedJob}
use Rattle.fax_undelivered.specs.Cards.{CardValue}
use Rattle.fax_undelivered.specs.Calls.{end_of, is_among}
use Rattle.fax_undelivered.specs.Keeps.{Keeps}
use Rattle.fax_undelivered.specs.StoredEnds.{EndsStored}
use Rattle.fax_undelivered.specs.declared.undelivered.Undelivered.{Undelivered}

-- the page is one of these
abbrev pub IsIn : PageValue → List PageValue → Type 0
IsIn page [] = ⊥
IsIn page (other ∷ pages) = (other ≡ page) ⊎ IsIn page pages

-- what waits in the first pair of files, and in the second
pub record Pairs : Type 0 where
  pub first : List PageValue
  pub second : List PageValue

-- WHAT BEFALLS the pages that lines confirm.
pub data Event : Type 0 where
  -- pages are put into the first pair: the answer is Ok
  Puts : (pages : List PageValue) → Event
  -- the answer is an Err: they are there, or not
  MayPut : (pages : List PageValue) → (are_there : Bool) → Event
  -- pages and cards are put into the second pair: they are there, or not
  Comes : (pages : List PageValue) → (are_there : Bool) → Event
  -- the end of a job is noted in the first pair, of whose pages these were not delivered: as many numbers as this record names
  Ends : (ended left : EndedValue) → Event
  -- a word drops the pages of a call from the second pair
  Discards : (name : CallName) → Event
  -- a try delivered all that it had of a call, the pages of these numbers, and that is noted in the second pair
  Arrives : (name : CallName) → (numbers : List ℕ) → Event
  -- nothing is written; or the machine stops, and another life begins
  Rests : Event

-- none of the pages of a job is let go that was not delivered, but into the second pair
abbrev pub AreKept : EndedValue → EndedValue → Pairs → Type 0
AreKept ended left pairs = (page : PageValue) → IsIn page pairs.first
    → ends ended (name_of page) ≡ true → (ends left (name_of page) ≡ false) ⊎ IsIn page pairs.second

-- nor does a try that was delivered let a page go that it had not: of the records of a call, that of number 0 is a card, and no page
abbrev pub HadAll : CallName → List ℕ → List PageValue → Type 0
HadAll name numbers second = (page : PageValue)
    → IsIn page second → ends (end_of name) (name_of page) ≡ true
    → 0 < page.number → is_among page.number numbers ≡ true

abbrev pub with_if : Bool → List PageValue → List PageValue → List PageValue
with_if are_there waits pages = if are_there then waits ++ pages else waits

abbrev pub Goes : Event → Pairs → Pairs → Type 0
Goes (Puts pages) old new = (new.first ≡ old.first ++ pages) × (new.second ≡ old.second)
Goes (MayPut pages are_there) old new =
    (new.first ≡ with_if are_there old.first pages) × (new.second ≡ old.second)
Goes (Comes pages are_there) old new =
    (new.first ≡ old.first) × (new.second ≡ with_if are_there old.second pages)
Goes (Ends ended left) old new =
    (new.first ≡ without ended old.first) × (new.second ≡ old.second) × AreKept ended left old
Goes (Discards name) old new =
    (new.first ≡ old.first) × (new.second ≡ without (end_of name) old.second)
Goes (Arrives name numbers) old new = (new.first ≡ old.first)
    × (new.second ≡ without (end_of name) old.second) × HadAll name numbers old.second
Goes Rests old new = (new.first ≡ old.first) × (new.second ≡ old.second)

-- these befell, from where the files held anything
abbrev pub Befell : Pairs → List Event → Pairs → Type 0
Befell begun [] now = now ≡ begun
Befell begun (event ∷ events) now =
    (between : Pairs) × Befell begun events between × Goes event between now

-- the pages that were put with an Ok, and those that were there at first
abbrev pub put_in : Pairs → List Event → List PageValue
put_in begun [] = begun.first ++ begun.second
put_in begun (Puts pages ∷ events) = put_in begun events ++ pages
put_in begun (MayPut pages are_there ∷ events) = put_in begun events
put_in begun (Comes pages are_there ∷ events) = put_in begun events
put_in begun (Ends ended left ∷ events) = put_in begun events
put_in begun (Discards name ∷ events) = put_in begun events
put_in begun (Arrives name numbers ∷ events) = put_in begun events
put_in begun (Rests ∷ events) = put_in begun events

-- the page is one of those that a try had: it came in that call, and has one of these numbers
abbrev pub IsOfTry : CallName → List ℕ → PageValue → Type 0
IsOfTry name numbers page = (call_of page ≡ name) × (is_among page.number numbers ≡ true)

-- a page was in a job whose end was noted as delivered up to and with it, or a try that had it was delivered
abbrev pub WasDelivered : PageValue → List Event → Type 0
WasDelivered page [] = ⊥
WasDelivered page (Puts pages ∷ events) = WasDelivered page events
WasDelivered page (MayPut pages are_there ∷ events) = WasDelivered page events
WasDelivered page (Comes pages are_there ∷ events) = WasDelivered page events
WasDelivered page (Ends ended left ∷ events) =
    ((ends ended (name_of page) ≡ true) × (ends left (name_of page) ≡ false))
    ⊎ WasDelivered page events
WasDelivered page (Discards name ∷ events) = WasDelivered page events
WasDelivered page (Arrives name numbers ∷ events) =
    IsOfTry name numbers page ⊎ WasDelivered page events
WasDelivered page (Rests ∷ events) = WasDelivered page events

-- or a word dropped it
abbrev pub WasDiscarded : PageValue → List Event → Type 0
WasDiscarded page [] = ⊥
WasDiscarded page (Puts pages ∷ events) = WasDiscarded page events
WasDiscarded page (MayPut pages are_there ∷ events) = WasDiscarded page events
WasDiscarded page (Comes pages are_there ∷ events) = WasDiscarded page events
WasDiscarded page (Ends ended left ∷ events) = WasDiscarded page events
WasDiscarded page (Discards name ∷ events) =
    (ends (end_of name) (name_of page) ≡ true) ⊎ WasDiscarded page events
WasDiscarded page (Arrives name numbers ∷ events) = WasDiscarded page events
WasDiscarded page (Rests ∷ events) = WasDiscarded page events

-- where a page is: it waits in the first pair or in the second, or was delivered, or was dropped by a word
abbrev pub IsNotDropped : PageValue → List Event → Pairs → Type 0
IsNotDropped page events now =
    IsIn page now.first ⊎ IsIn page now.second ⊎ WasDelivered page events ⊎ WasDiscarded page events

-- NOTHING IS DROPPED, whatever befalls, of each page that was put with an Ok. (Pages have the numbers from 1 on.)
abbrev pub NothingIsDropped : Type 0
NothingIsDropped = (begun now : Pairs) (events : List Event) (page : PageValue) → 0 < page.number
    → Befell begun events now → IsIn page (put_in begun events) → IsNotDropped page events now

-- ---- the end of a job is such an event

-- The record of the pages of a job that were not delivered, by its report: where it was delivered there is none of them.
abbrev pub AreNotDelivered : Report → (queue : QueueValue) → (left : EndedValue) → Type 0
AreNotDelivered report queue left =
    (((report.outcome ≡ Delivered) ⊎ (report.pages ≤ report.delivered)) × (left.pages ≡ 0))
    ⊎ ((job : EndedJob)
    × NamesLeft report.pages report.delivered job queue.waits × IsEndOf job queue.line left)

-- What the end of a job makes of both pairs, where these pages wait: more pages come into the second, or none; and then its end is noted in
-- the first, of whose pages those were not delivered that its report says so.
pub record EndsAs {D U : Type 0} (seen : D → List ℕ) (may_leave : D → List ℕ → Type 0) (is_usable : D → Bool) (seen_too : U → List ℕ) (may_leave_too : U → List ℕ → Type 0) (is_usable_too : U → Bool)
    (line : ℕ) (report : Report) (queues : List QueueValue) (waits kept : List PageValue) (after : Spool D) (new : Option (Undelivered U)) : Type 0 where
  pub more : List PageValue
  pub now : Undelivered U
  pub is : new ≡ Some now
  pub keeps : Keeps seen_too may_leave_too is_usable_too now (kept ++ more)
  pub ended : EndedValue
  pub left : EndedValue
  pub wait : WaitSo seen may_leave is_usable after (λ told. told ≡ without ended waits)
  pub are_kept : AreKept ended left (record { first = waits; second = kept ++ more })
  pub queue : QueueValue
  pub was : slice_get queues line ≡ Some queue
  pub not_delivered : AreNotDelivered report queue left

-- THE END OF A JOB THAT IS NOTED IS SUCH AN EVENT, where nothing wrong was read of the first pair: its pages came into the second before.
abbrev pub StoredEndsAreEvents : {D U : Type 0} → (D → List ℕ) → (D → List ℕ → Type 0)
    → (is_usable is_clean : D → Bool) → (U → List ℕ) → (U → List ℕ → Type 0) → (U → Bool) → Type 0
StoredEndsAreEvents {D} {U} seen may_leave is_usable is_clean seen_too may_leave_too is_usable_too =
    (line : ℕ) (report : Report) (card : CardValue) (olds news : List QueueValue)
    (before after : Spool D) (old : Undelivered U) (new : Option (Undelivered U))
    (waits kept : List PageValue) → (e : EndsStored seen may_leave is_usable is_clean
    seen_too may_leave_too is_usable_too line report card olds news before after (Some old) new)
    → e.ends.noted ≡ true → spools.Rests seen may_leave is_usable before waits
    → Keeps seen_too may_leave_too is_usable_too old kept
    → AreClean is_clean (files_of e.read) → EndsAs seen
    may_leave is_usable seen_too may_leave_too is_usable_too line report olds waits kept after new

-- AND WHERE ITS PAGES COULD NOT BE KEPT they wait in the first pair as they did.
abbrev pub FailedPutsLeaveJobs : {D U : Type 0} → (D → List ℕ) → (D → List ℕ → Type 0)
    → (is_usable is_clean : D → Bool) → (U → List ℕ) → (U → List ℕ → Type 0) → (U → Bool) → Type 0
FailedPutsLeaveJobs {D} {U} seen may_leave is_usable is_clean seen_too may_leave_too is_usable_too =
    (line : ℕ) (report : Report) (card : CardValue) (olds news : List QueueValue)
    (before after : Spool D) (old new : Option (Undelivered U)) (waits : List PageValue)
    → (e : EndsStored seen may_leave is_usable
    is_clean seen_too may_leave_too is_usable_too line report card olds news before after old new)
    → e.may ≡ false → spools.Rests seen may_leave is_usable before waits
    → spools.Rests seen may_leave is_usable after waits

-- many ends at once, of jobs that were delivered, one after the other: of none of them a page was not
abbrev pub delivered_ends : List EndedValue → List Event → List Event
delivered_ends [] events = events
delivered_ends (ended ∷ others) events =
    delivered_ends others (Ends ended (record ended { pages = 0 }) ∷ events)

-- THE ENDS OF JOBS THAT ARE NOTED AT ONCE are such events too, one after the other: jobs of which each was delivered.
abbrev pub EndsAtOnceAreEvents : {D : Type 0} → (D → List ℕ) → (D → List ℕ → Type 0) → (D → Bool) → Type 0
EndsAtOnceAreEvents {D} seen may_leave is_usable = (jobs : List LineReport)
    (olds news : List QueueValue) (before after : Spool D) (waits kept : List PageValue)
    (e : EndsTogether seen may_leave is_usable jobs olds news before after)
    → e.is_ok ≡ true → spools.Rests seen may_leave is_usable before waits
    → WaitSo seen may_leave is_usable after (λ told. Befell (record { first = waits; second = kept })
    (delivered_ends e.kept []) (record { first = told; second = kept }))
