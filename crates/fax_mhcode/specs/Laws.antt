-- What holds of one-dimensional lines and of their faults.
use Rattle.std.specs.Prelude.{◌≡◌, ◌⊎◌, ℕ, ◌<◌, ◌≤◌, Bool, List, ◌++◌, length}
use Rattle.fax_runcodes.specs.Rows.{Elements, IsWidth}
use Rattle.fax_mhcode.specs.Lines.{SpellsLine, WritesLine}
use Rattle.fax_mhcode.specs.LineFaults.{FailsLine}
use Rattle.fax_mhcode.specs.declared.fault.LineFault.{LineFault}

-- a text spells at most one row of a width, and is no proper front of another row's text
abbrev pub TextsAreUnique : Type 0
TextsAreUnique = (width : ℕ) (s t : List Bool) (v w : Elements) (x y : List Bool)
    → SpellsLine width s v → SpellsLine width t w → s ++ x ≡ t ++ y → (s ≡ t) × (v ≡ w)

-- reading what begins with a line meets no fault
abbrev pub LinesDontFail : Type 0
LinesDontFail = (width : ℕ) (bits text rest : List Bool) (row : Elements) (fault : LineFault)
    → width ≤ 2432
    → SpellsLine width text row → bits ≡ text ++ rest → FailsLine width bits fault → ⊥

-- reading a line meets at most one fault
abbrev pub FaultsAreUnique : Type 0
FaultsAreUnique = (width : ℕ) (bits : List Bool) (f g : LineFault)
    → width ≤ 2432 → FailsLine width bits f → FailsLine width bits g → f ≡ g

-- bits begin with the line of a row of this width
abbrev pub BeginWithLine : ℕ → List Bool → Type 0
BeginWithLine width bits =
    (text rest : List Bool) × (row : Elements) × SpellsLine width text row × (bits ≡ text ++ rest)

-- any bits begin with a line of a width, or reading one meets a fault
abbrev pub LinesAreReadOrFail : Type 0
LinesAreReadOrFail = (width : ℕ) (bits : List Bool)
    → BeginWithLine width bits ⊎ ((fault : LineFault) × FailsLine width bits fault)

-- the bits in which a row is written spell it
abbrev pub WrittenLinesAreSpelt : Type 0
WrittenLinesAreSpelt = (row : Elements) (text : List Bool)
    → WritesLine row text → IsWidth (length row) → SpellsLine (length row) text row

-- a row that has an element is written in one way only
abbrev pub WrittenLinesAreUnique : Type 0
WrittenLinesAreUnique = (row : Elements) (text other : List Bool)
    → 0 < length row → WritesLine row text → WritesLine row other → text ≡ other

-- a row is written in some way
abbrev pub RowsAreWritten : Type 0
RowsAreWritten = (row : Elements) → (text : List Bool) × WritesLine row text
