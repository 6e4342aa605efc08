-- What a server keeps on a disk of the pages that its lines confirm. Lists have the oldest first. (This project's profile.)
use Rattle.std.specs.Prelude.{◌≡◌, ◌≢◌, ℕ, Bool, true, List, [], ◌∷◌, ◌++◌, map, Option, None, Some, slice_get, slice_set}
use Rattle.fax_line.specs.declared.settling.PageToStore.{PageToStore}
use Rattle.fax_spool.specs.RecordOctets.{PageValue}
use Rattle.fax_spool.specs.Spools.{Stores}
use Rattle.fax_spool.specs.declared.spool_record.SpoolRecord.{SpoolRecord}
use Rattle.fax_spool.specs.declared.spool_record.SpoolRecord.TheVariants.{Page}
use Rattle.fax_spool.specs.declared.spool.Spool.{Spool}
use Rattle.fax_spool.specs.SpoolRecords.{page_record}
use Rattle.fax_spool.specs.Waits.{PageName, name_of}
use Rattle.fax_spool.specs.Calls.{Rests}
use Rattle.fax_queue.specs.Queues.{AreAmong, IsQueued, QueueValue, next_number}
use Rattle.fax_queue.specs.declared.queue.QueuedPage.{QueuedPage}

-- the record of a page: what the turn told of it, and its text
pub record IsRecordOf (page : PageToStore) (kept : SpoolRecord) : Type 0 where
  pub value : PageValue
  pub is_page : kept ≡ Page value
  pub call : value.call ≡ page.kept.call
  pub format : value.format ≡ page.kept.format
  pub closes : value.closes ≡ page.kept.closes
  pub text : value.text ≡ page.text

-- a record for each page, in their order
abbrev pub AreRecordsOf : List PageToStore → List SpoolRecord → Type 0
AreRecordsOf [] [] = Unit {0}
AreRecordsOf (page ∷ pages) (kept ∷ records) = IsRecordOf page kept × AreRecordsOf pages records
AreRecordsOf pages records = ⊥

-- THE PAGES ARE KEPT: the newest records of the spool are theirs.
pub record StoresPages {D : Type 0} (seen : D → List ℕ) (may_leave : D → List ℕ → Type 0)
    (is_usable : D → Bool) (spool : Spool D) (pages : List PageToStore) : Type 0 where
  pub olds : List SpoolRecord
  pub earlier : List SpoolRecord
  pub newest : List SpoolRecord
  pub kept : Stores seen may_leave is_usable spool olds (earlier ++ newest)
  pub are : AreRecordsOf pages newest

-- the record of a page, under this life and this number
pub record IsRecordUnder (life : ℕ) (page : PageToStore) (number : ℕ) (value : PageValue) :
    Type 0 where
  pub is_record : IsRecordOf page (Page value)
  pub life_is : value.life ≡ life
  pub call_is : value.call ≡ page.kept.call
  pub number_is : value.number ≡ number

-- a record for each page, in their order, under its own number and the name of its line
abbrev pub AreRecordsUnder : ℕ → List (List ℕ) → List PageToStore → List ℕ → List PageValue → Type 0
AreRecordsUnder life lines [] numbers [] = Unit {0}
AreRecordsUnder life lines (page ∷ pages) (number ∷ numbers) (value ∷ values) =
    (slice_get lines page.line ≡ Some value.line)
    × IsRecordUnder life page number value × AreRecordsUnder life lines pages numbers values
AreRecordsUnder life lines pages numbers values = ⊥

-- the records of pages were put, after the others
pub record PutsRecords {D : Type 0} (seen : D → List ℕ)
    (may_leave : D → List ℕ → Type 0) (is_usable : D → Bool) (life : ℕ) (lines : List (List ℕ))
    (pages : List PageToStore) (numbers : List ℕ) (before after : Spool D) : Type 0 where
  pub values : List PageValue
  pub are : AreRecordsUnder life lines pages numbers values
  pub put : (olds news : List SpoolRecord) → Stores seen may_leave is_usable before olds news
      → Stores seen may_leave is_usable after olds (news ++ map page_record values)

-- ---- which page of its call it is

-- the number of the page that is confirmed next in a call of the line at a place: 0 where there is no such line
abbrev pub number_for : Option QueueValue → ℕ → ℕ → ℕ
number_for None life call = 0
number_for (Some queue) life call = next_number queue.newest life call

abbrev pub number_at : List QueueValue → ℕ → ℕ → ℕ → ℕ
number_at queues life place call = number_for (slice_get queues place) life call

-- those of the first of these pages, where they are of lines one each
abbrev pub AreNumbersOf : List QueueValue → ℕ → List PageToStore → List ℕ → Type 0
AreNumbersOf queues life pages [] = Unit {0}
AreNumbersOf queues life [] (number ∷ numbers) = ⊥
AreNumbersOf queues life (page ∷ pages) (number ∷ numbers) =
    (number ≡ number_at queues life page.line page.kept.call)
    × AreNumbersOf queues life pages numbers

-- of these records of pages each has the next number of its line's call
abbrev pub AreNumbered : List QueueValue → ℕ → List PageToStore → List PageValue → Type 0
AreNumbered queues life [] [] = Unit {0}
AreNumbered queues life (page ∷ pages) (value ∷ values) =
    (value.life ≡ life) × (value.number ≡ number_at queues life page.line page.kept.call)
    × AreNumbered queues life pages values
AreNumbered queues life pages values = ⊥

-- PAGES ARE PUT UNDER THE NEXT NUMBERS OF THEIR CALLS, in this life: their records wait on the disk after the others.
pub record PutsNumbered {D : Type 0} (seen : D → List ℕ)
    (may_leave : D → List ℕ → Type 0) (is_usable : D → Bool) (queues : List QueueValue)
    (life : ℕ) (pages : List PageToStore) (before after : Spool D) : Type 0 where
  pub values : List PageValue
  pub are : AreRecordsOf pages (map page_record values)
  pub numbered : AreNumbered queues life pages values
  pub wait : (waits : List PageValue) → Rests seen may_leave is_usable before waits
      → Rests seen may_leave is_usable after (waits ++ values)

-- ---- the queues

-- what is known of a page whose record is this
abbrev pub placed_as : PageValue → Bool → QueuedPage
placed_as page is_stored =
    record { life = page.life; call = page.call; number = page.number; is_stored = is_stored }

-- One more page is on the queue at this place, where there is one; the others are as they were.
abbrev pub AddsTo : QueuedPage → ℕ → List QueueValue → List QueueValue → Option QueueValue → Type 0
AddsTo page place olds news None = news ≡ olds
AddsTo page place olds news (Some old) =
    (new : QueueValue) × (news ≡ slice_set olds place new) × IsQueued page old new

abbrev pub AddsAt : QueuedPage → ℕ → List QueueValue → List QueueValue → Type 0
AddsAt page place olds news = AddsTo page place olds news (slice_get olds place)

-- what is known of a page that has this number
abbrev pub noted_as : ℕ → ℕ → Bool → PageToStore → QueuedPage
noted_as life number is_stored page =
    record { life = life; call = page.kept.call; number = number; is_stored = is_stored }

-- one after another is on the queue of its line: under its number, where one is told
abbrev pub AddAll : ℕ
    → Bool → List PageToStore → List ℕ → List QueueValue → List QueueValue → Type 0
AddAll life is_stored [] numbers olds news = news ≡ olds
AddAll life is_stored (page ∷ pages) (number ∷ numbers) olds news = (between : List QueueValue)
    × AddsAt (noted_as life number is_stored page) page.line olds between
    × AddAll life is_stored pages numbers between news
AddAll life is_stored (page ∷ pages) [] olds news = (number : ℕ) × (between : List QueueValue)
    × AddsAt (noted_as life number is_stored page) page.line olds between
    × AddAll life is_stored pages [] between news

-- A page whose record is this is on its line's queue, under the name of the record, as one that is on the disk or not; the others
-- are as they were.
pub record IsPlaced (is_there : Bool)
    (page : PageToStore) (value : PageValue) (olds news : List QueueValue) : Type 0 where
  pub is_record : IsRecordOf page (Page value)
  pub old : QueueValue
  pub new : QueueValue
  pub was : slice_get olds page.line ≡ Some old
  pub are : news ≡ slice_set olds page.line new
  pub line_is : value.line ≡ old.line
  pub queued : IsQueued (placed_as value is_there) old new

abbrev pub IsPut : PageToStore → PageValue → List QueueValue → List QueueValue → Type 0
IsPut page value olds news = IsPlaced true page value olds news

-- one after another
abbrev pub AllArePlaced : Bool
    → List PageToStore → List PageValue → List QueueValue → List QueueValue → Type 0
AllArePlaced is_there [] [] olds news = news ≡ olds
AllArePlaced is_there (page ∷ pages) (value ∷ values) olds news = (between : List QueueValue)
    × IsPlaced is_there page value olds between × AllArePlaced is_there pages values between news
AllArePlaced is_there pages values olds news = ⊥

abbrev pub AllArePut : List PageToStore
    → List PageValue → List QueueValue → List QueueValue → Type 0
AllArePut pages values olds news = AllArePlaced true pages values olds news

-- PAGES ARE PUT: their records wait on the disk after the others, each under the name that its page has on its line's queue.
pub record ArePut {D : Type 0} (seen : D → List ℕ)
    (may_leave : D → List ℕ → Type 0) (is_usable : D → Bool)
    (pages : List PageToStore) (olds news : List QueueValue) (before after : Spool D) : Type 0 where
  pub values : List PageValue
  pub queued : AllArePut pages values olds news
  pub wait : (waits : List PageValue) → Rests seen may_leave is_usable before waits
      → Rests seen may_leave is_usable after (waits ++ values)

-- each page that one of the queues says to be on the disk is among these
abbrev pub AllAreAmong : List QueueValue → List PageName → Type 0
AllAreAmong [] names = Unit {0}
AllAreAmong (queue ∷ queues) names =
    AreAmong queue.line queue.waits names × AllAreAmong queues names

-- no two lines have one name
abbrev pub IsOther : List ℕ → List QueueValue → Type 0
IsOther line [] = Unit {0}
IsOther line (queue ∷ queues) = (queue.line ≢ line) × IsOther line queues

abbrev pub HaveOwnNames : List QueueValue → Type 0
HaveOwnNames [] = Unit {0}
HaveOwnNames (queue ∷ queues) = IsOther queue.line queues × HaveOwnNames queues

-- THE QUEUES AND THE DISK AGREE: each page that a queue says to be on the disk waits there, under its name.
pub record Agree {D : Type 0} (seen : D → List ℕ) (may_leave : D → List ℕ → Type 0)
    (is_usable : D → Bool) (spool : Spool D) (queues : List QueueValue) : Type 0 where
  pub pages : List PageValue
  pub wait : Rests seen may_leave is_usable spool pages
  pub among : AllAreAmong queues (map name_of pages)
