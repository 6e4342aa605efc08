-- What the calls of a server leave that answer an `Err`: which actions they are, whatever a crash makes of them. Lists have the oldest
-- first. (This project's profile.)
use Rattle.std.specs.Prelude.{◌≡◌, ◌≢◌, ◌⊎◌, ◌<◌, ℕ, Bool, true, false, not, ◌&&◌, List, ◌∷◌, ◌++◌, [], All, AllPairs, Option, Some, slice_get, slice_set, if◌then◌else◌}
use Rattle.fax_line.specs.declared.settling.PageToStore.{PageToStore}
use Rattle.fax_spool.specs.RecordOctets as spool
use Rattle.fax_spool.specs.Calls.{Does, DoneOrNot, EachCrashTells, Refuses, refuses_now, Rests}
use Rattle.fax_spool.specs.Calls.{Puts as PutsCall, Ends as EndsCall}
use Rattle.fax_spool.specs.declared.spool.Spool.{Spool}
use Rattle.fax_queue.specs.declared.queue.EndedJob.{EndedJob}
use Rattle.fax_queue.specs.declared.queue.QueuedPage.{QueuedPage}
use Rattle.fax_queue.specs.Jobs.{WaitSo}
use Rattle.fax_queue.specs.Storing.{AllArePlaced, AreRecordsUnder, placed_as}
use Rattle.fax_queue.specs.Lives as lives
use Rattle.fax_queue.specs.Lives.{EachIsPlaced, Goes, NotesStill, State, state_of}
use Rattle.fax_queue.specs.Restorations.{Means, ReadPage}
use Rattle.fax_queue.specs.Queues.{IsEndOf, IsQueued, QueueValue}

-- Whether the ends of a line's jobs are noted: its queue is whole, and the spool does not refuse.
abbrev pub notes_of : {D : Type 0} → Spool D → QueueValue → Bool
notes_of spool queue = queue.is_whole && not (refuses_now spool)

-- ---- pages that are not put

-- PAGES ARE REFUSED: each is on its line's queue all the same, as one that is not on the disk. On the disk nothing has changed; or
-- the spool refuses everything from now on, and each crash leaves the records of all of them, after the others, or of none.
pub record AreRefused {D : Type 0} (seen : D → List ℕ)
    (may_leave : D → List ℕ → Type 0) (is_usable : D → Bool)
    (pages : List PageToStore) (olds news : List QueueValue) (before after : Spool D) : Type 0 where
  pub values : List spool.PageValue
  pub queued : AllArePlaced false pages values olds news
  pub left : (waits : List spool.PageValue) → Rests seen may_leave is_usable before waits
      → Rests seen may_leave is_usable after waits
      ⊎ (Refuses after × EachCrashTells may_leave after (DoneOrNot (PutsCall values) waits))

-- the records of these pages may have been put, though the answer is an `Err`
pub record MayHavePut {D : Type 0} (seen : D → List ℕ)
    (may_leave : D → List ℕ → Type 0) (is_usable : D → Bool) (life : ℕ) (lines : List (List ℕ))
    (pages : List PageToStore) (numbers : List ℕ) (before after : Spool D) : Type 0 where
  pub values : List spool.PageValue
  pub are : AreRecordsUnder life lines pages numbers values
  pub does : Does seen may_leave is_usable (PutsCall values) false before after

-- ---- the end of a job

-- what the end of a job of so many pages may be: it is on the disk, or it is not, or none of its pages is there
abbrev pub IsAnEnd : List ℕ → ℕ → State → State → Type 0
IsAnEnd line pages old new = Goes line (lives.Ends pages) old new
    ⊎ Goes line (lives.Leaves pages) old new ⊎ Goes line (lives.Lets pages) old new

-- THE END OF A JOB IS A ACTION, whatever a crash makes of it.
pub record EndsSomehow {D : Type 0} (seen : D → List ℕ) (may_leave : D → List ℕ → Type 0)
    (is_usable : D → Bool) (pages : ℕ) (old new : QueueValue) (before after : Spool D) :
    Type 0 where
  pub line_is : new.line ≡ old.line
  pub left : (waits : List spool.PageValue) → Rests seen may_leave is_usable before waits
      → WaitSo seen may_leave is_usable after (λ told. IsAnEnd old.line
      pages (state_of old (notes_of before old) waits) (state_of new (notes_of after new) told))

-- the same of the line at a place among the others, which stay as they were
pub record EndsSomehowAt {D : Type 0} (seen : D → List ℕ)
    (may_leave : D → List ℕ → Type 0) (is_usable : D → Bool)
    (pages place : ℕ) (olds news : List QueueValue) (before after : Spool D) : Type 0 where
  pub old : QueueValue
  pub new : QueueValue
  pub was : slice_get olds place ≡ Some old
  pub is : slice_get news place ≡ Some new
  pub are : news ≡ slice_set olds place new
  pub ends : EndsSomehow seen may_leave is_usable pages old new before after

-- the record of the end of these pages is put, or it is not
pub record PutsEnd {D : Type 0} (seen : D → List ℕ)
    (may_leave : D → List ℕ → Type 0) (is_usable : D → Bool)
    (ended : EndedJob) (line : List ℕ) (is_ok : Bool) (before after : Spool D) : Type 0 where
  pub kept : spool.EndedValue
  pub is_end : IsEndOf ended line kept
  pub does : Does seen may_leave is_usable (EndsCall (kept ∷ [])) is_ok before after

-- ---- laws

-- a page is refused, and is on its queue: what `Storage::store_all` answers by an `Err`, of each page (`SlotsAreRefusals`)
abbrev pub RefusalsAreActions : Type 0
RefusalsAreActions = (given : Option (List ℕ)) (page : ReadPage)
    (is_there : Bool) (old new : QueueValue) (before after : Bool) (pages : List spool.PageValue)
    → page.waits.line ≡ old.line
    → Means page.waits page.page → IsQueued (placed_as page.waits false) old new
    → NotesStill before after new → (is_there ≡ true → after ≡ false)
    → Goes old.line (lives.Refuses given page is_there) (state_of old before pages)
    (state_of new after (if is_there then pages ++ page.waits ∷ [] else pages))

-- Pages of lines one each: each is refused as if it were alone, and no other queue changes.
abbrev pub SlotsAreRefusals : Type 0
SlotsAreRefusals =
    (pages : List PageToStore) (values : List spool.PageValue) (olds news : List QueueValue)
    → AllArePlaced false pages values olds news
    → (AllPairs (λ page after. page.line < after.line) pages
    → EachIsPlaced false pages values olds news) × ((place : ℕ)
    → All (λ page. page.line ≢ place) pages → slice_get news place ≡ slice_get olds place)

-- one more page on a queue, and a spool that does not refuse but where it did
abbrev pub NotesStay : Type 0
NotesStay = (page : QueuedPage) (old new : QueueValue) (before after : Bool)
    → IsQueued page old new → (before ≡ true → after ≡ true)
    → NotesStill (old.is_whole && not before) (new.is_whole && not after) new

-- A line whose ends are not noted any more notes none in that life: after each action but the next life that is so.
abbrev pub NoneIsNoted : Type 0
NoneIsNoted = (line : List ℕ) (action : lives.PageAction) (old new : State)
    → action ≢ lives.Stops → Goes line action old new
    → old.notes ≡ false → (new.notes ≡ false) × ((pages : ℕ) → action ≢ lives.Ends pages)
