-- Pages that are read as their octets come: what a reader is, and which octets have come to it.
use Rattle.std.specs.Prelude.{◌≡◌, ◌≢◌, ◌≤◌, ◌+◌, ◌-◌, ◌*◌, ℕ, Bool, List, [], ◌∷◌, ◌++◌, Option, Some, None, length, take}
use Rattle.fax_bits.specs.Bits.{bits_of}
use Rattle.fax_bits.specs.Reading.{Place, Passes}
use Rattle.fax_runcodes.specs.declared.format.Coding.{Coding}
use Rattle.fax_runcodes.specs.declared.format.Format.{Format}
use Rattle.fax_runcodes.specs.Rows.{Elements}
use Rattle.fax_runcodes.specs.Widths.{elements_of}
use Rattle.fax_runcodes.specs.declared.fault.RunFault.TheVariants.{End}
use Rattle.fax_mhcode.specs.declared.fault.LineFault.{LineFault}
use Rattle.fax_mhcode.specs.declared.fault.LineFault.TheVariants.{Run, NoMode}
use Rattle.fax_pagestore.specs.declared.fault.PageFault.{PageFault}
use Rattle.fax_pagestore.specs.declared.reader.settled.Settled.{Settled}
use Rattle.fax_pagestore.specs.declared.reader.settled.Settled.TheVariants.{Page, NoPage}
use Rattle.fax_pagestore.specs.Fill.{most_zeros, less_fill, zeros_after}
use Rattle.fax_pagestore.specs.Ends.{HoldsNoTaggedEol, BeginNoEol}
use Rattle.fax_pagestore.specs.PageTexts.{IsSeparator, SpellsRow, ReadSoFar, MeansRows}
use Rattle.fax_pagestore.specs.PageFaults.{FailsPage, SeparatorBegins, last_of}

-- A reader: its rows, the tag of the last separator that is read, or none before the first EOL, the bits
-- after that, how many octets of zeros came last, of which four are counted, and what the octets are, where
-- that is settled.
pub record ReaderValue : Type 0 where
  pub format : Format
  pub coding : Coding
  pub rows : List Elements
  pub tag : Option Bool
  pub left : List Bool
  pub zeros : ℕ
  pub settled : Option Settled

-- a reader to which nothing came
abbrev pub new_reader : Format → Coding → ReaderValue
new_reader format coding = record {
  format = format;
  coding = coding;
  rows = [];
  tag = None;
  left = [];
  zeros = 0;
  settled = None;
}

-- Of octets these rows are read, and a separator of this tag after the last; these bits are left. Before the
-- first EOL there are no rows, and none begins before what is left.
abbrev pub IsReadUpTo : Coding → ℕ → List ℕ → List Elements → Option Bool → List Bool → Type 0
IsReadUpTo coding width octets rows None left =
    (rows ≡ []) × (before : List Bool) × (bits_of octets ≡ before ++ left) × BeginNoEol before left
IsReadUpTo coding width octets rows (Some tag) left = ReadSoFar coding width octets rows 0 tag left

-- bits begin with the line of some row, after a separator of this tag, and a separator after it
pub record BeginsRow (coding : Coding)
    (width : ℕ) (tag : Bool) (before : Option Elements) (bits : List Bool) : Type 0 where
  pub line : List Bool
  pub row : Elements
  pub rest : List Bool
  pub spelt : SpellsRow width tag before line row
  pub bits_are : bits ≡ line ++ rest
  pub after : SeparatorBegins coding rest

-- Of the bits that are left nothing more can be read: no first EOL with its tag, or no row with a separator after it.
abbrev pub NoMoreIsWhole : Coding → ℕ → List Elements → Option Bool → List Bool → Type 0
NoMoreIsWhole coding width rows None left = HoldsNoTaggedEol coding left
NoMoreIsWhole coding width rows (Some tag) left = BeginsRow coding width tag (last_of rows) left → ⊥

-- what octets are: a page of these rows, or none for this fault
abbrev pub AreJudged : Coding → ℕ → List ℕ → List Elements → Option PageFault → Type 0
AreJudged coding width octets rows None = MeansRows width coding octets rows
AreJudged coding width octets rows (Some fault) = FailsPage width coding octets fault

-- why octets of which it is settled what they are are no page, if they are none
abbrev pub fault_of : Settled → Option PageFault
fault_of Page = None
fault_of (NoPage fault) = Some fault

-- No bits mend this fault of a line, where these are left at the run or the step that cannot be taken: they don't
-- end inside a code word, nor inside a mode word, of which the longest has 7 bits (ITU-T T.4, table 4/T.4).
abbrev pub StaysBad : LineFault → List Bool → Type 0
StaysBad fault bits = (fault ≢ Run End) × (fault ≡ NoMode → 7 ≤ length bits)

-- A reader is at the end of these octets. What can be read of them is read. Once it is settled what they are, no
-- bits are kept, and they are that with any octets after them.
pub record IsAfter (octets : List ℕ) (reader : ReaderValue) : Type 0 where
  pub read : reader.settled ≡ None → IsReadUpTo reader.coding
      (elements_of reader.format.width) octets reader.rows reader.tag reader.left
  pub waits : reader.settled ≡ None → NoMoreIsWhole reader.coding
      (elements_of reader.format.width) reader.rows reader.tag reader.left
  pub settled : (what : Settled) → reader.settled ≡ Some what → (reader.left ≡ [])
      × ((more : List ℕ) → AreJudged reader.coding (elements_of reader.format.width) (octets
      ++ more) reader.rows (fault_of what))

-- Octets are read as others are: whatever follows both, what these mean the octets mean, and the fault that these meet they meet.
abbrev pub AreReadAs : Coding → ℕ → (octets others : List ℕ) → Type 0
AreReadAs coding width octets others =
    (more : List ℕ) (rows : List Elements) (fault : Option PageFault)
    → AreJudged coding width (others ++ more) rows fault
    → AreJudged coding width (octets ++ more) rows fault

-- These octets came to a reader, whatever the pieces in which they came: it is at the end of others, as which they are read
-- less long fill.
pub record HasRead (octets : List ℕ) (reader : ReaderValue) : Type 0 where
  pub others : List ℕ
  pub read_as :
      AreReadAs reader.coding (elements_of reader.format.width) (less_fill 0 octets) others
  pub after : IsAfter others reader
  pub zeros : reader.settled ≡ None → reader.zeros ≡ zeros_after 0 octets

-- the most octets that a reader keeps beside its rows
abbrev pub most_octets : ℕ
most_octets = 8192

-- how many bits a reader keeps beside its rows, with those that it would keep of fill after them
abbrev pub most_kept : ReaderValue → ℕ
most_kept reader = length reader.left + 8 * (most_zeros - reader.zeros)

-- What a mark keeps of a reader: how many rows it has, and all else.
pub record MarkValue : Type 0 where
  pub format : Format
  pub coding : Coding
  pub count : ℕ
  pub tag : Option Bool
  pub left : List Bool
  pub zeros : ℕ
  pub settled : Option Settled

abbrev pub mark_of : ReaderValue → MarkValue
mark_of reader = record {
  format = reader.format;
  coding = reader.coding;
  count = length reader.rows;
  tag = reader.tag;
  left = reader.left;
  zeros = reader.zeros;
  settled = reader.settled;
}

-- the reader at a mark, with the first of these rows
abbrev pub reader_at : MarkValue → List Elements → ReaderValue
reader_at mark rows = record {
  format = mark.format;
  coding = mark.coding;
  rows = take mark.count rows;
  tag = mark.tag;
  left = mark.left;
  zeros = mark.zeros;
  settled = mark.settled;
}

-- From one place to the next a row was read, and a separator of this tag after it.
pub record ReadsOne (coding : Coding)
    (width : ℕ) (tag next : Bool) (rows all : List Elements) (old new : Place) : Type 0 where
  pub row : Elements
  pub line : List Bool
  pub separator : List Bool
  pub all_are : all ≡ rows ++ row ∷ []
  pub spelt : SpellsRow width tag (last_of rows) line row
  pub after : IsSeparator coding next separator
  pub passes : Passes old new (line ++ separator)
