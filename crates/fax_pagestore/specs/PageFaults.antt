-- Where no page can be read, and why: the fault that is met first (this project's profile).
use Rattle.std.specs.Prelude.{◌≡◌, ℕ, zero, suc, ◌<◌, ◌≤◌, ◌⊎◌, Bool, true, false, List, [], ◌∷◌, ◌++◌, Option, Some, None, length, replicate}
use Rattle.fax_bits.specs.Bits.{bits_of}
use Rattle.fax_runcodes.specs.declared.format.Coding.{Coding}
use Rattle.fax_runcodes.specs.declared.format.Coding.TheVariants.{Mr}
use Rattle.fax_runcodes.specs.Rows.{Elements}
use Rattle.fax_mhcode.specs.LineFaults as mh
use Rattle.fax_mrcode.specs.LineFaults as mr
use Rattle.fax_mhcode.specs.declared.fault.LineFault.{LineFault}
use Rattle.fax_pagestore.specs.declared.fault.PageFault.{PageFault}
use Rattle.fax_pagestore.specs.declared.fault.PageFault.TheVariants.{NoEol, BadLine, NoRtc, Empty, TooManyRows, NoMemory}
use Rattle.fax_pagestore.specs.PageRows.{most_rows}
use Rattle.fax_pagestore.specs.PageTexts.{IsSeparator, IsFront, InARow, SpellsRow, ReadSoFar}

abbrev pub AreZeros : List Bool → Type 0
AreZeros bits = (n : ℕ) × (bits ≡ replicate n false)

-- After a separator or a line no separator is whole: only zeros are left, or an EOL without its tag.
abbrev pub RunsOut : Coding → List Bool → Type 0
RunsOut coding bits = AreZeros bits
    ⊎ ((zeros : ℕ) × (11 ≤ zeros) × (bits ≡ replicate zeros false ++ true ∷ []) × (coding ≡ Mr))

-- a line begins: the bits are not only zeros, and don't begin with 11 of them
abbrev pub LineBegins : List Bool → Type 0
LineBegins bits =
    (zeros : ℕ) × (rest : List Bool) × (zeros < 11) × (bits ≡ replicate zeros false ++ true ∷ rest)

-- a whole separator begins, of some tag
abbrev pub SeparatorBegins : Coding → List Bool → Type 0
SeparatorBegins coding bits = (tag : Bool)
    × (separator rest : List Bool) × IsSeparator coding tag separator × (bits ≡ separator ++ rest)

-- the last of the rows so far
abbrev pub last_of : List Elements → Option Elements
last_of [] = None
last_of (row ∷ []) = Some row
last_of (row ∷ next ∷ rows) = last_of (next ∷ rows)

-- the row before a line that stands after so many rows, of which the last is kept
abbrev pub row_before : ℕ → Elements → Option Elements
row_before zero kept = None
row_before (suc n) kept = Some kept

-- no row can be read after a separator of this tag: its line cannot, or the first line has tag 0
abbrev pub FailsRow : ℕ → Bool → Option Elements → List Bool → Type 0
FailsRow width true before bits = (fault : LineFault) × mh.FailsLine width bits fault
FailsRow width false (Some reference) bits = (fault : LineFault) × mr.FailsLine reference bits fault
FailsRow width false None bits = Unit {0}

-- a row is read, and after its line this rest is left
abbrev pub ReadsRow : ℕ → Bool → Option Elements → List Bool → List Bool → Type 0
ReadsRow width tag before bits rest = (line : List Bool)
    × (row : Elements) × SpellsRow width tag before line row × (bits ≡ line ++ rest)

-- A line is wanted: it begins after one separator, and there is room for its row.
pub record WantsLine (rows : List Elements) (further : ℕ) (bits : List Bool) : Type 0 where
  pub one_separator : further ≡ 0
  pub begins : LineBegins bits
  pub room : length rows < most_rows

-- Why nothing more is read where these rows were read, and so many further separators after the one
-- that ends the front or the last row, of which the last has this tag.
abbrev pub Stops : Coding → ℕ → List Elements → ℕ → Bool → List Bool → PageFault → Type 0
Stops coding width rows further tag bits NoRtc =
    -- no separator is whole before the sixth
    ((further < 5) × RunsOut coding bits)
    -- a line begins after two to five separators
    ⊎ ((0 < further) × (further < 5) × LineBegins bits)
    -- a separator of tag 0 is followed by another, or is the sixth
    ⊎ ((tag ≡ false) × (((further < 5) × SeparatorBegins coding bits) ⊎ (further ≡ 5)))
    -- no separator is whole after a line
    ⊎ (WantsLine rows further bits
    × (rest : List Bool) × ReadsRow width tag (last_of rows) bits rest × RunsOut coding rest)
Stops coding width rows further tag bits Empty = (further ≡ 5) × (tag ≡ true) × (rows ≡ [])
Stops coding width rows further tag bits TooManyRows =
    (further ≡ 0) × LineBegins bits × (length rows ≡ most_rows)
-- the line can't be read, or a 1 comes after it before 11 zeros
Stops coding width rows further tag bits (BadLine n) =
    (n ≡ length rows) × WantsLine rows further bits × (FailsRow width tag (last_of rows) bits
    ⊎ ((rest : List Bool) × ReadsRow width tag (last_of rows) bits rest × LineBegins rest))
Stops coding width rows further tag bits NoEol = ⊥
Stops coding width rows further tag bits NoMemory = ⊥

-- A return to control is broken, where so many further separators were read, of which the last has this tag: a
-- line begins after two to five separators, or one of tag 0 is followed by another or is the sixth.
abbrev pub BreaksReturn : Coding → ℕ → Bool → List Bool → Type 0
BreaksReturn coding further tag bits =
    ((0 < further) × (further < 5) × LineBegins bits)
    ⊎ ((tag ≡ false) × (((further < 5) × SeparatorBegins coding bits) ⊎ (further ≡ 5)))

-- no further separator is whole before the sixth
abbrev pub BreaksOff : Coding → ℕ → Bool → List Bool → Type 0
BreaksOff coding further tag bits = (further < 5) × RunsOut coding bits

-- After a separator of this tag stand at most five more, and after these, for this reason, no return to control.
pub record StopsInReturn (coding : Coding)
    (tag : Bool) (bits : List Bool) (Reason : ℕ → Bool → List Bool → Type 0) : Type 0 where
  pub further : ℕ
  pub text : List Bool
  pub last : Bool
  pub rest : List Bool
  pub at_most_six : further ≤ 5
  pub in_a_row : InARow coding tag further text last
  pub bits_are : bits ≡ text ++ rest
  pub reason : Reason further last rest

-- what was read before nothing more is
pub record FailsAfterFront (coding : Coding) (width : ℕ) (octets : List ℕ) (fault : PageFault) :
    Type 0 where
  pub rows : List Elements
  pub further : ℕ
  pub tag : Bool
  pub rest : List Bool
  pub few : length rows ≤ most_rows
  pub at_most_six : further ≤ 5
  pub read : ReadSoFar coding width octets rows further tag rest
  pub stops : Stops coding width rows further tag rest fault

-- no front of the octets ends with an EOL and its tag
abbrev pub HasNoEol : Coding → List ℕ → Type 0
HasNoEol coding octets = (tag : Bool) (front rest : List Bool)
    → IsFront coding tag front → bits_of octets ≡ front ++ rest → ⊥

-- Reading a page from octets meets this fault.
abbrev pub FailsPage : ℕ → Coding → List ℕ → PageFault → Type 0
FailsPage width coding octets fault =
    ((fault ≡ NoEol) × HasNoEol coding octets) ⊎ FailsAfterFront coding width octets fault
