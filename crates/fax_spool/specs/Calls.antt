-- What the calls of a spool make of the pages that wait, by their answers, and what is there after many of them. Lists of calls
-- have the newest first. (This project's profile.)
use Rattle.std.specs.Prelude.{◌≡◌, ◌⊎◌, ℕ, Bool, true, false, List, [], ◌∷◌, ◌++◌, if◌then◌else◌}
use Rattle.fax_spool.specs.RecordOctets.{PageValue, EndedValue}
use Rattle.fax_spool.specs.Waits.{waiting, without_all}
use Rattle.fax_spool.specs.Spools.{AreInOrder, IsOrderFound, MayLeaveBoth, Stores, TellBoth, Tells, epoch_now, files_of}
use Rattle.fax_spool.specs.declared.spool_record.SpoolRecord.{SpoolRecord}
use Rattle.fax_spool.specs.declared.spool.Spool.{Spool}

-- whether a call of the disk has failed: then the spool refuses everything, until it is opened again
abbrev pub refuses_now : {D : Type 0} → Spool D → Bool
refuses_now spool = spool.refuses

abbrev pub Refuses : {D : Type 0} → Spool D → Type 0
Refuses spool = refuses_now spool ≡ true

abbrev pub Accepts : {D : Type 0} → Spool D → Type 0
Accepts spool = refuses_now spool ≡ false

-- these pages wait in a spool between two calls, whatever crash follows; and its files are in order
pub record Rests {D : Type 0} (seen : D → List ℕ) (may_leave : D → List ℕ → Type 0)
    (is_usable : D → Bool) (spool : Spool D) (pages : List PageValue) : Type 0 where
  pub olds : List SpoolRecord
  pub news : List SpoolRecord
  pub kept : Stores seen may_leave is_usable spool olds news
  pub in_order : AreInOrder olds news
  pub wait : waiting (olds ++ news) ≡ pages

-- two files tell that these pages wait, and which of them is the older one
pub record TellWaits (older newer : List ℕ) (pages : List PageValue) : Type 0 where
  pub olds : List SpoolRecord
  pub news : List SpoolRecord
  pub tell : TellBoth older newer olds news
  pub in_order : IsOrderFound olds news
  pub wait : waiting (olds ++ news) ≡ pages

-- Whenever the machine stops, the files tell that pages wait of which this holds.
abbrev pub EachCrashTells : {D : Type 0}
    → (D → List ℕ → Type 0) → Spool D → (List PageValue → Type 0) → Type 0
EachCrashTells may_leave spool P = (older newer : List ℕ) → MayLeaveBoth may_leave spool older newer
    → (pages : List PageValue) × TellWaits older newer pages × P pages

-- CRASHES LEAVE WHAT WAITS: whatever crash comes between two calls, the files tell just these pages.
abbrev pub CrashesLeaveWhatWaits : {D : Type 0}
    → (D → List ℕ) → (D → List ℕ → Type 0) → (D → Bool) → Type 0
CrashesLeaveWhatWaits {D} seen may_leave is_usable = (spool : Spool D) (pages : List PageValue)
    → Rests seen may_leave is_usable spool pages
    → EachCrashTells may_leave spool (λ told. told ≡ pages)

-- by the files of a new spool, which tell no record, no page waits
abbrev pub NewSpoolsTellNone : Type 0
NewSpoolsTellNone = (older newer : List ℕ)
    → Tells older [] → Tells newer [] → TellWaits older newer []

pub data Call : Type 0 where
  -- pages are put
  Puts : (pages : List PageValue) → Call
  -- the records of the ends of jobs are put, all of them at once
  Ends : (ended : List EndedValue) → Call
  -- the older file is cleared, or taken into use, or what waits is put again
  Turns : Call

-- which pages wait after a call, where these waited before it
abbrev pub done_by : Call → List PageValue → List PageValue
done_by (Puts pages) waits = waits ++ pages
done_by (Ends ended) waits = without_all ended waits
done_by Turns waits = waits

-- the call is done or not
abbrev pub DoneOrNot : Call → List PageValue → List PageValue → Type 0
DoneOrNot call waits told = (told ≡ waits) ⊎ (told ≡ done_by call waits)

-- nothing has changed: its files are as they were, and it keeps what it kept
pub record IsAsBefore {D : Type 0} (seen : D → List ℕ)
    (may_leave : D → List ℕ → Type 0) (is_usable : D → Bool) (old new : Spool D) : Type 0 where
  pub files : files_of new ≡ files_of old
  pub keeps : (olds news : List SpoolRecord) → Stores seen may_leave is_usable old olds news
      → Stores seen may_leave is_usable new olds news
  pub refuses : refuses_now new ≡ refuses_now old

-- It was read: it keeps what it kept, a crash leaves nothing that one before could not have left, and it refuses where it did.
pub record IsRead {D : Type 0} (seen : D → List ℕ)
    (may_leave : D → List ℕ → Type 0) (is_usable : D → Bool) (old new : Spool D) : Type 0 where
  pub keeps : (olds news : List SpoolRecord) → Stores seen may_leave is_usable old olds news
      → Stores seen may_leave is_usable new olds news
  pub crash : (older newer : List ℕ)
      → MayLeaveBoth may_leave new older newer → MayLeaveBoth may_leave old older newer
  pub refuses : refuses_now new ≡ refuses_now old
  pub epoch : epoch_now new ≡ epoch_now old

-- WHAT A CALL DOES: at an `Ok` it is done, whatever crash follows. At an `Err` each crash leaves it done or not, and the spool
-- refuses everything from then on; or nothing has changed. A spool that refuses answers an `Err`, and nothing changes.
pub record Does {D : Type 0} (seen : D → List ℕ) (may_leave : D → List ℕ → Type 0)
    (is_usable : D → Bool) (call : Call) (is_ok : Bool) (old new : Spool D) : Type 0 where
  pub done : is_ok ≡ true → (waits : List PageValue) → Rests seen may_leave is_usable old waits
      → Rests seen may_leave is_usable new (done_by call waits)
  pub left : is_ok ≡ false → (waits : List PageValue) → Rests seen may_leave is_usable old waits
      → EachCrashTells may_leave new (DoneOrNot call waits)
  pub failed : is_ok ≡ false → Refuses new ⊎ IsAsBefore seen may_leave is_usable old new
  pub refused : Refuses old → (is_ok ≡ false) × (new ≡ old)

-- ---- many calls

pub record AnsweredCall : Type 0 where
  pub call : Call
  pub is_ok : Bool

-- these calls were made, one after another
abbrev pub WereMade : {D : Type 0} → (D → List ℕ)
    → (D → List ℕ → Type 0) → (D → Bool) → List AnsweredCall → Spool D → Spool D → Type 0
WereMade seen may_leave is_usable [] first last = last ≡ first
WereMade {D} seen may_leave is_usable (made ∷ earlier) first last =
    (between : Spool D) × WereMade seen may_leave is_usable earlier first between
    × Does seen may_leave is_usable made.call made.is_ok between last

-- which pages wait by those of them that answered `Ok`
abbrev pub done_by_all : List AnsweredCall → List PageValue → List PageValue
done_by_all [] waits = waits
done_by_all (made ∷ earlier) waits =
    if made.is_ok then done_by made.call (done_by_all earlier waits) else done_by_all earlier waits

-- one of them was this call, which answered an `Err`
abbrev pub HasFailed : Call → List AnsweredCall → Type 0
HasFailed call [] = ⊥
HasFailed call (made ∷ earlier) =
    (made ≡ record { call = call; is_ok = false }) ⊎ HasFailed call earlier

-- what the calls that answered `Ok` have done, and one of the others or none
abbrev pub DoneButOne : List AnsweredCall → List PageValue → List PageValue → Type 0
DoneButOne calls waits told = (told ≡ done_by_all calls waits)
    ⊎ ((call : Call) × HasFailed call calls × (told ≡ done_by call (done_by_all calls waits)))

-- ONE CALL AT MOST IS DONE WITHOUT AN `Ok`: whatever calls a spool had, each crash leaves what those did that answered `Ok`, and
-- after it, at most, what one did that answered an `Err`.
abbrev pub OneWithoutAnOk : {D : Type 0}
    → (D → List ℕ) → (D → List ℕ → Type 0) → (D → Bool) → Type 0
OneWithoutAnOk {D} seen may_leave is_usable =
    (calls : List AnsweredCall) (first last : Spool D) (waits : List PageValue)
    → WereMade seen may_leave is_usable calls first last
    → Rests seen may_leave is_usable first waits
    → EachCrashTells may_leave last (DoneButOne calls waits)
