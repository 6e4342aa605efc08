-- What holds of two-dimensional lines as they are written.
use Rattle.std.specs.Prelude.{◌≡◌, Bool, List, length}
use Rattle.fax_runcodes.specs.Rows.{Elements, IsWidth}
use Rattle.fax_mrcode.specs.Lines.{SpellsLine}
use Rattle.fax_mrcode.specs.Written.{WritesLine}

-- the bits in which a row is written spell it
abbrev pub WrittenLinesAreSpelt : Type 0
WrittenLinesAreSpelt = (reference row : Elements) (text : List Bool)
    → IsWidth (length row) → WritesLine reference row text → SpellsLine reference text row

-- a row is written against a reference in one way only
abbrev pub WrittenLinesAreUnique : Type 0
WrittenLinesAreUnique = (reference row : Elements) (text other : List Bool)
    → WritesLine reference row text → WritesLine reference row other → text ≡ other

-- a row is written against a reference of its width in some way
abbrev pub RowsAreWritten : Type 0
RowsAreWritten = (reference row : Elements)
    → length row ≡ length reference → (text : List Bool) × WritesLine reference row text
