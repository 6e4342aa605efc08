-- The images of a call as they are kept: those in Page by the readers to which their octets came. No law speaks of this
-- module.
use Rattle.std.specs.Prelude.{◌≡◌, ℕ, zero, suc, ◌+◌, min, max, List, [], ◌∷◌, ◌++◌, length, Option, Some, None}
use Rattle.fax_runcodes.specs.Rows.{Elements}
use Rattle.fax_frames.specs.declared.dcs.Dcs.{Dcs}
use Rattle.fax_frames.specs.Capabilities.{format_of, coding_of}
use Rattle.fax_pagestore.specs.Pages.{PageValue}
use Rattle.fax_pagestore.specs.PageTexts.{MeansPage}
use Rattle.fax_pagestore.specs.Readers.{ReaderValue, MarkValue, HasRead, new_reader, mark_of}
use Rattle.fax_answer.specs.declared.image.Accepted.{Accepted}
use Rattle.fax_answer.specs.declared.image.Mark.{Mark}
use Rattle.fax_answer.specs.declared.state.State.{State}
use Rattle.fax_answer.specs.declared.state.State.TheVariants.{Idle, Identify, Listen, Train, Page, Again, Closing}
use Rattle.fax_answer.specs.Replies.{ConfirmedPage}

-- The readers of images in Page, the newest first, which is that of the image under way; the image of a page that an MCF
-- confirms, while its reader still has the page; and the zero octets that the image under way has at its end and in a row
-- at most.
pub record ImageValue : Type 0 where
  pub readers : List ReaderValue
  pub accepted : Option Accepted
  pub run : ℕ
  pub longest : ℕ

-- these octets came to a reader of the format and the coding of this DCS
pub record IsReaderOf (dcs : Dcs) (octets : List ℕ) (reader : ReaderValue) : Type 0 where
  pub format : reader.format ≡ format_of dcs
  pub coding : reader.coding ≡ coding_of dcs
  pub read : HasRead octets reader

-- the image under way has these octets
abbrev pub HasOpen : Dcs → List ℕ → List ReaderValue → Type 0
HasOpen dcs octets [] = ⊥
HasOpen dcs octets (here ∷ before) = IsReaderOf dcs octets here

-- the image before it has these
abbrev pub HasEnded : Dcs → List ℕ → List ReaderValue → Type 0
HasEnded dcs octets [] = ⊥
HasEnded dcs octets (here ∷ []) = ⊥
HasEnded dcs octets (here ∷ ended ∷ before) = IsReaderOf dcs octets ended

-- A SIGNAL begins, or ends: what comes after is an image of its own. In Page it is read under the DCS that CFR answered.
abbrev pub begun : State → List ReaderValue → List ReaderValue
begun (Page dcs) readers = new_reader (format_of dcs) (coding_of dcs) ∷ readers
begun Idle readers = readers
begun Identify readers = readers
begun Listen readers = readers
begun (Train dcs) readers = readers
begun Again readers = readers
begun Closing readers = readers

-- a reader after another one of the same page, with more rows
pub record Extends (old new : ReaderValue) : Type 0 where
  pub format : new.format ≡ old.format
  pub coding : new.coding ≡ old.coding
  pub more : List Elements
  pub rows : new.rows ≡ old.rows ++ more

-- OCTETS come to the image under way
pub record FedWith (piece : List ℕ) (old new : ReaderValue) : Type 0 where
  pub extends : Extends old new
  pub read : (octets : List ℕ) → HasRead octets old → HasRead (octets ++ piece) new

abbrev pub Feeds : List ℕ → List ReaderValue → List ReaderValue → Type 0
Feeds piece [] new = new ≡ []
Feeds piece (here ∷ before) new =
    (now : ReaderValue) × (new ≡ now ∷ before) × FedWith piece here now

-- in Page they are read, else they are not kept
abbrev pub FeedsIn : State → List ℕ → List ReaderValue → List ReaderValue → Type 0
FeedsIn (Page dcs) piece old new = Feeds piece old new
FeedsIn Idle piece old new = new ≡ old
FeedsIn Identify piece old new = new ≡ old
FeedsIn Listen piece old new = new ≡ old
FeedsIn (Train dcs) piece old new = new ≡ old
FeedsIn Again piece old new = new ≡ old
FeedsIn Closing piece old new = new ≡ old

-- the most that is counted
abbrev pub most_counted : ℕ
most_counted = 65535

-- the zero octets at the end, with one more octet, and with more octets
abbrev pub run_with : ℕ → ℕ → ℕ
run_with run zero = min (run + 1) most_counted
run_with run (suc octet) = 0

abbrev pub run_after : ℕ → List ℕ → ℕ
run_after run [] = run
run_after run (octet ∷ octets) = run_after (run_with run octet) octets

-- the most zero octets in a row, where so many stood in a row before
abbrev pub longest_after : ℕ → ℕ → List ℕ → ℕ
longest_after run longest [] = longest
longest_after run longest (octet ∷ octets) =
    longest_after (run_with run octet) (max longest (run_with run octet)) octets

pub record TakesIn (state : State) (piece : List ℕ) (old new : ImageValue) : Type 0 where
  pub readers : FeedsIn state piece old.readers new.readers
  pub accepted : new.accepted ≡ old.accepted
  pub run : new.run ≡ run_after old.run piece
  pub longest : new.longest ≡ longest_after old.run old.longest piece

-- THE PAGE that the image at a place means, counted from the oldest. It is not the one under way.
pub record MeansAt (readers : List ReaderValue) (place : ℕ) (page : PageValue) : Type 0 where
  pub under_way : ReaderValue
  pub later : List ReaderValue
  pub reader : ReaderValue
  pub before : List ReaderValue
  pub are : readers ≡ under_way ∷ (later ++ reader ∷ before)
  pub place_is : place ≡ length before
  pub octets : List ℕ
  pub read : HasRead octets reader
  pub means : MeansPage reader.format reader.coding octets page

-- the page that is confirmed: the one that is kept, or the one that is still in its reader
abbrev pub Confirms : Option Accepted
    → List ReaderValue → Option ConfirmedPage → Option ConfirmedPage → Type 0
Confirms None readers kept confirmed = confirmed ≡ kept
Confirms (Some accepted) readers kept confirmed =
    (page : PageValue) × MeansAt readers accepted.place page
    × (confirmed ≡ Some (record { page = page; closes = accepted.closes }))

-- WANT OF MEMORY. Since a mark, readers came after those before, and more octets to the one that was under way.
abbrev pub GoesOn : List ReaderValue → List ReaderValue → Type 0
GoesOn [] new = Unit {0}
GoesOn (here ∷ before) new = (later : List ReaderValue)
    × (now : ReaderValue) × (new ≡ later ++ now ∷ before) × Extends here now

abbrev pub mark_of_first : List ReaderValue → Option MarkValue
mark_of_first [] = None
mark_of_first (here ∷ before) = Some (mark_of here)

pub record IsMarkOf (old : ImageValue) (mark : Mark) : Type 0 where
  pub count : mark.count ≡ length old.readers
  pub under_way : mark.under_way ≡ mark_of_first old.readers
  pub accepted : mark.accepted ≡ old.accepted
  pub run : mark.zeros.run ≡ old.run
  pub longest : mark.zeros.longest ≡ old.longest
