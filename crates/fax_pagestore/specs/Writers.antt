-- Pages that are written as their octets are due: what a writer is, and which octets are left to it.
use Rattle.std.specs.Prelude.{◌≡◌, ◌≢◌, ℕ, zero, suc, Bool, List, [], ◌++◌, Option, None, drop, slice_get}
use Rattle.fax_bits.specs.Laws.{AreOctets}
use Rattle.fax_bits.specs.Writing.{IsPadded}
use Rattle.fax_runcodes.specs.declared.format.Coding.{Coding}
use Rattle.fax_runcodes.specs.declared.format.Format.{Format}
use Rattle.fax_runcodes.specs.Rows.{Elements}
use Rattle.fax_pagestore.specs.declared.writer.Place.{Place}
use Rattle.fax_pagestore.specs.declared.writer.Place.TheVariants.{Front, Row, End}
use Rattle.fax_pagestore.specs.Pages.{PageValue}
use Rattle.fax_pagestore.specs.WrittenPages.{WritesPage, WritesRows, ends_of_line}

-- octets that hold the written text of a page, with fewer than eight zeros after it
pub record IsTextOf (page : PageValue) (coding : Coding) (least : ℕ) (octets : List ℕ) :
    Type 0 where
  pub are_octets : AreOctets octets
  pub text : List Bool
  pub writes : WritesPage coding page.format.fine least page.rows text
  pub padded : IsPadded octets text

-- the row before the n-th
abbrev pub row_ahead : List Elements → ℕ → Option Elements
row_ahead rows zero = None
row_ahead rows (suc n) = slice_get rows n

-- The bits of a page that are written from a place on: all, those from the line of a row on, or none.
abbrev pub IsWrittenFrom : Coding → ℕ → PageValue → Place → List Bool → Type 0
IsWrittenFrom coding least page Front text = WritesPage coding page.format.fine least page.rows text
IsWrittenFrom coding least page (Row n) text = (lines : List Bool)
    × WritesRows coding page.format.fine least n (row_ahead page.rows n) (drop n page.rows) lines
    × (text ≡ lines ++ ends_of_line coding 5)
IsWrittenFrom coding least page End text = text ≡ []

-- A writer: how it writes a page, the place up to which it has written, and the bits that wait to be given.
pub record WriterValue : Type 0 where
  pub format : Format
  pub coding : Coding
  pub least : ℕ
  pub place : Place
  pub waiting : List Bool

-- something is left to a writer: not all is written, or bits wait
abbrev pub HasMore : WriterValue → Type 0
HasMore writer = writer.place ≡ End → writer.waiting ≢ []

-- Of the text of a page these octets are left, which a writer has not given yet.
pub record HasLeft (page : PageValue) (octets : List ℕ) (writer : WriterValue) : Type 0 where
  pub are_octets : AreOctets octets
  pub same_format : page.format ≡ writer.format
  pub text : List Bool
  pub written : IsWrittenFrom writer.coding writer.least page writer.place text
  pub padded : IsPadded octets (writer.waiting ++ text)

-- Bits were put after others, with which a page is written from one place to the next.
pub record WritesOn (coding : Coding)
    (least : ℕ) (page : PageValue) (place next : Place) (old new : List Bool) : Type 0 where
  pub bits : List Bool
  pub put : new ≡ old ++ bits
  pub rest : (text : List Bool) → IsWrittenFrom coding least page place text
      → (more : List Bool) × (text ≡ bits ++ more) × IsWrittenFrom coding least page next more
