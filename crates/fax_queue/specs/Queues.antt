-- What a server knows of the pages of a line that wait. Lists have the oldest first. (This project's profile.)
use Rattle.std.specs.Prelude.{◌≡◌, ℕ, ◌+◌, ◌-◌, ◌^◌, ◌<◌, ◌≤◌, ◌⊎◌, min, Bool, true, false, not, ◌&&◌, nat_eq, List, [], ◌∷◌, ◌++◌, length, map, take, drop, count_by, slice_get, Option, None, Some, if◌then◌else◌}
use Rattle.std.specs.List.{filter}
use Rattle.fax_spool.specs.RecordOctets.{EndedValue, PageValue}
use Rattle.fax_spool.specs.Waits.{PageName, ends, name_of, without}
use Rattle.fax_queue.specs.declared.queue.Aside.{Aside}
use Rattle.fax_queue.specs.declared.queue.QueuedPage.{QueuedPage}
use Rattle.fax_queue.specs.declared.queue.EndedJob.{EndedJob}

-- the tag of a call of an earlier life
pub record TagValue : Type 0 where
  pub life : ℕ
  pub call : ℕ
  pub tag : List ℕ

-- The name of the line, its pages that wait, and whether these are all of them, in the order in which they came; the tags of calls
-- of earlier lives; which pages of earlier lives mean none; and the page that
-- came last, whether it waits still or not.
pub record QueueValue : Type 0 where
  pub line : List ℕ
  pub waits : List QueuedPage
  pub is_whole : Bool
  pub tags : List TagValue
  pub aside : List Aside
  pub newest : Option QueuedPage

-- A page that is confirmed next in a call has the number after that of the one that came last, where that came in the same call of the
-- same life, and else 1. (There are 2 ^ 32 - 1 at most.)
abbrev pub next_number : Option QueuedPage → ℕ → ℕ → ℕ
next_number None life call = 1
next_number (Some page) life call =
    if nat_eq page.life life && nat_eq page.call call then min (page.number + 1) (2 ^ 32 - 1) else 1

-- the tag of a call, where one of these is
abbrev pub tag_in : List TagValue → ℕ → ℕ → Option (List ℕ)
tag_in [] life call = None
tag_in (t ∷ tags) life call =
    if nat_eq t.life life && nat_eq t.call call then Some t.tag else tag_in tags life call

-- the tag of the job that is first in turn, where its call has one
abbrev pub first_tag_of : List TagValue → List QueuedPage → Option (List ℕ)
first_tag_of tags [] = None
first_tag_of tags (page ∷ pages) = tag_in tags page.life page.call

abbrev pub first_tag : QueueValue → Option (List ℕ)
first_tag queue = first_tag_of queue.tags queue.waits

-- the names of the lines, in their order
abbrev pub lines_of : List QueueValue → List (List ℕ)
lines_of queues = map (λ queue. queue.line) queues

-- so many of these are on the disk
abbrev pub stored_count : List QueuedPage → ℕ
stored_count pages = count_by (λ page. page.is_stored) pages

-- whether the first of these was confirmed in another life than this one
abbrev pub is_of_earlier_life : ℕ → List QueuedPage → Bool
is_of_earlier_life life [] = false
is_of_earlier_life life (page ∷ pages) = not (nat_eq page.life life)

-- which page of all it is
abbrev pub name_in : List ℕ → QueuedPage → PageName
name_in line page = record { life = page.life; call = page.call; number = page.number; line = line }

-- A page came after another: in a later life, in a later call of one life, or as a later page of one call.
abbrev pub IsAfter : QueuedPage → QueuedPage → Type 0
IsAfter page other = (other.life < page.life) ⊎ ((other.life ≡ page.life)
    × ((other.call < page.call) ⊎ ((other.call ≡ page.call) × (other.number < page.number))))

-- each of these came after that one
abbrev pub AreAfter : List QueuedPage → QueuedPage → Type 0
AreAfter [] page = Unit {0}
AreAfter (other ∷ others) page = IsAfter other page × AreAfter others page

-- they are in the order in which they came
abbrev pub AreInOrder : List QueuedPage → Type 0
AreInOrder [] = Unit {0}
AreInOrder (page ∷ pages) = AreAfter pages page × AreInOrder pages

-- One more page is on a queue, which stays whole where the page came after those before it; or it could not be noted, and the queue is
-- not whole from then on.
pub record IsQueued (page : QueuedPage) (old new : QueueValue) : Type 0 where
  pub line : new.line ≡ old.line
  pub whole : new.is_whole ≡ true → (old.is_whole ≡ true) × (new.waits ≡ old.waits ++ page ∷ [])
  pub waits : (new.waits ≡ old.waits ++ page ∷ []) ⊎ (new.waits ≡ old.waits)
  pub stays : old.is_whole ≡ true
      → AreInOrder (old.waits ++ page ∷ []) → (new.is_whole ≡ true) ⊎ (new.waits ≡ old.waits)
  pub tags : new.tags ≡ old.tags
  pub aside : new.aside ≡ old.aside
  pub newest : new.newest ≡ Some page

-- A JOB OF SO MANY PAGES IS FIRST of these: the first of them and the last came in one call of one life, and the numbers from the one
-- to the other can be counted in a record.
pub record IsFirstJob (pages : ℕ) (waits : List QueuedPage) : Type 0 where
  pub first : QueuedPage
  pub last : QueuedPage
  pub begins : slice_get waits 0 ≡ Some first
  pub ends : slice_get waits (pages - 1) ≡ Some last
  pub some : 0 < pages
  pub one_life : last.life ≡ first.life
  pub one_call : last.call ≡ first.call
  pub counted : last.number + 1 < first.number + 2 ^ 32

-- the record of the end of these pages
pub record IsEndOf (ended : EndedJob) (line : List ℕ) (kept : EndedValue) : Type 0 where
  pub life : kept.life ≡ ended.life
  pub call : kept.call ≡ ended.call
  pub first : kept.first ≡ ended.first
  pub pages : kept.pages ≡ ended.pages
  pub line_is : kept.line ≡ line

-- of these pages, those that the job that ended had not
abbrev pub left_by : EndedValue → List ℕ → List QueuedPage → List QueuedPage
left_by ended line pages = filter (λ page. not (ends ended (name_in line page))) pages

-- THE RECORD OF A JOB'S END NAMES ITS OWN PAGES: of those that waited, it leaves just those after the job's, which are the first.
pub record NamesFirst (pages : ℕ) (ended : EndedJob) (waits : List QueuedPage) : Type 0 where
  pub as_many : pages ≤ length waits
  pub kept : ended.stored ≡ count_by (λ page. page.is_stored) (take pages waits)
  pub leaves : (line : List ℕ) (kept : EndedValue)
      → IsEndOf ended line kept → left_by kept line waits ≡ drop pages waits

-- the record of pages names the first of these
pub record BeginsAt (ended : EndedJob) (waits : List QueuedPage) : Type 0 where
  pub first : QueuedPage
  pub is_first : slice_get waits 0 ≡ Some first
  pub life : ended.life ≡ first.life
  pub call : ended.call ≡ first.call
  pub number : ended.first ≡ first.number

-- of the first so many pages, those from the one after the first so many on, which were delivered
abbrev pub not_delivered : (pages delivered : ℕ) → List QueuedPage → List QueuedPage
not_delivered pages delivered waits = take (pages - delivered) (drop delivered waits)

-- THE RECORD OF THE PAGES OF A JOB THAT WERE NOT DELIVERED names none before them, and of those from them on just the job's.
pub record NamesLeft (pages delivered : ℕ) (left : EndedJob) (waits : List QueuedPage) :
    Type 0 where
  pub names : NamesFirst (pages - delivered) left (drop delivered waits)
  pub before : (line : List ℕ) (kept : EndedValue)
      → IsEndOf left line kept → left_by kept line (take delivered waits) ≡ take delivered waits

-- ---- what of it is on the disk

abbrev pub IsAmong : PageName → List PageName → Type 0
IsAmong name [] = ⊥
IsAmong name (other ∷ names) = (other ≡ name) ⊎ IsAmong name names

-- each of these pages that is said to be on the disk is one of those that wait there
abbrev pub AreAmong : List ℕ → List QueuedPage → List PageName → Type 0
AreAmong line [] names = Unit {0}
AreAmong line (page ∷ pages) names =
    (page.is_stored ≡ true → IsAmong (name_in line page) names) × AreAmong line pages names

-- THE END OF A JOB FORGETS NO OTHER PAGE: each page that stays on the queue waits on the disk as it did.
abbrev pub NoneIsForgotten : Type 0
NoneIsForgotten =
    (ended : EndedValue) (line : List ℕ) (pages : List QueuedPage) (waits : List PageValue)
    → AreAmong line pages (map name_of waits)
    → AreAmong line (left_by ended line pages) (map name_of (without ended waits))
