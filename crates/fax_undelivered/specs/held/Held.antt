-- The pages of a line that wait in memory, and what becomes of them as a job ends. Lists have the oldest first. (This project's profile.)
use Rattle.std.specs.Prelude.{◌≡◌, ◌⊎◌, ℕ, ◌-◌, Bool, true, false, List, [], ◌∷◌, ◌++◌, length, take, drop, Option, Some}
use Rattle.std.specs.Bool.{MatchBool}
use Rattle.fax_jobs.specs.declared.outcome.Outcome.TheVariants.{Delivered}
use Rattle.fax_jobs.specs.declared.report.Report.{Report}
use Rattle.fax_line.specs.declared.settling.PageToStore.{PageToStore}
use Rattle.fax_spool.specs.RecordOctets.{PageValue}
use Rattle.fax_queue.specs.Queues.{IsQueued, NamesLeft, QueueValue, stored_count, next_number}
use Rattle.fax_queue.specs.declared.queue.EndedJob.{EndedJob}
use Rattle.fax_queue.specs.declared.queue.QueuedPage.{QueuedPage}
use Rattle.fax_undelivered.specs.Cards.{CardValue}
use Rattle.fax_undelivered.specs.StoredEnds.{PutsPages}
use Rattle.fax_undelivered.specs.declared.undelivered.Undelivered.{Undelivered}

-- A page of a line as it waits: in life 1, since no other one is known.
abbrev pub held_as : (line : List ℕ) → (number : ℕ) → PageToStore → (tag : List ℕ) → PageValue
held_as line number page tag = record {
  life = 1;
  call = page.kept.call;
  number = number;
  format = page.kept.format;
  closes = page.kept.closes;
  line = line;
  tag = tag;
  text = page.text;
}

-- on the queue of its line, by the number after that of the page before it, with its text or without
abbrev pub queued_as : (call : ℕ) → (is_held : Bool) → QueueValue → QueuedPage
queued_as call is_held queue =
    record { life = 1; call = call; number = next_number queue.newest 1 call; is_stored = is_held }

-- A PAGE THAT WAS CONFIRMED WAITS, with its text after those before it, or, where memory was refused for that, without.
abbrev pub HoldsPage : PageToStore
    → (tag : List ℕ) → (old new : QueueValue) → (olds news : List PageValue) → Type 0
HoldsPage page tag old new olds news = (is_held : Bool)
    × IsQueued (queued_as page.kept.call is_held old) old new × MatchBool is_held (news ≡ olds
    ++ held_as old.line (next_number old.newest 1 page.kept.call) page tag ∷ []) (news ≡ olds)

-- of the texts of a line's pages, those of the job of so many pages that is first in turn
abbrev pub job_texts : (pages : ℕ) → QueueValue → List PageValue → List PageValue
job_texts pages queue texts = take (stored_count (take pages queue.waits)) texts

-- and the others, where it is known which these are
abbrev pub texts_after : (pages : ℕ)
    → (is_known : Bool) → QueueValue → List PageValue → List PageValue
texts_after pages true queue texts = drop (stored_count (take pages queue.waits)) texts
texts_after pages false queue texts = []

-- the last so many
abbrev pub last_of : ℕ → List PageValue → List PageValue
last_of count pages = drop (length pages - count) pages

-- THE PAGES OF A JOB THAT FAILED ARE KEPT: just those that were not delivered, each with its text, and with the card that tells how it ended.
pub record IsPut {U : Type 0} (seen : U → List ℕ)
    (may_leave : U → List ℕ → Type 0) (is_usable : U → Bool) (report : Report) (card : CardValue)
    (queue : QueueValue) (texts : List PageValue) (old new : Undelivered U) : Type 0 where
  pub failed : ¬ (report.outcome ≡ Delivered)
  pub left : EndedJob
  pub names : NamesLeft report.pages report.delivered left queue.waits
  pub has_all : left.stored ≡ report.pages - report.delivered
  pub put : PutsPages seen may_leave is_usable (last_of (report.pages
      - report.delivered) (job_texts report.pages queue texts)) card true old new

-- of pages of a job of which these are left, the last ones
pub record PutsLast {U : Type 0} (seen : U → List ℕ)
    (may_leave : U → List ℕ → Type 0) (is_usable : U → Bool) (report : Report) (card : CardValue)
    (left : Option EndedJob) (pages : List PageValue) (old new : Undelivered U) : Type 0 where
  pub failed : ¬ (report.outcome ≡ Delivered)
  pub job : EndedJob
  pub is : left ≡ Some job
  pub has_all : job.stored ≡ report.pages - report.delivered
  pub put : PutsPages seen may_leave is_usable (last_of (report.pages
      - report.delivered) pages) card true old new

-- nothing is kept, as memory may have been refused
abbrev pub IsNotPut : {U : Type 0}
    → (U → List ℕ) → (U → List ℕ → Type 0) → (U → Bool) → (old new : Undelivered U) → Type 0
IsNotPut seen may_leave is_usable old new = (new ≡ old) ⊎ ((pages : List PageValue)
    × (card : CardValue) × PutsPages seen may_leave is_usable pages card false old new)

-- a page was confirmed for whose text memory was refused
abbrev pub NotesPage : (call : ℕ) → (old new : QueueValue) → (olds news : List PageValue) → Type 0
NotesPage call old new olds news = IsQueued (queued_as call false old) old new × (news ≡ olds)

-- THE JOB OF A LINE THAT WAS FIRST IN TURN ENDED: its pages wait no more, where it is known which they are, nor do their texts; and where it
-- failed, those that were not delivered are kept or not.
pub record EndsJob {U : Type 0} (seen : U → List ℕ) (may_leave : U → List ℕ → Type 0) (is_usable : U → Bool) (report : Report) (card : CardValue) (is_put : Bool) (before after : Undelivered U)
    (old new : QueueValue) (olds news : List PageValue) : Type 0 where
  pub waits : MatchBool new.is_whole (new.waits ≡ drop report.pages old.waits) (new.waits ≡ old.waits)
  pub texts : news ≡ texts_after report.pages new.is_whole old olds
  pub kept : is_put ≡ true → IsPut seen may_leave is_usable report card old olds before after
  pub not_put : is_put ≡ false → IsNotPut seen may_leave is_usable before after
