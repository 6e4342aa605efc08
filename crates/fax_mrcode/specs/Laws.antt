-- Laws of two-dimensional lines, as statements.
use Rattle.std.specs.Prelude.{◌≡◌, ◌⊎◌, ◌≤◌, Bool, List, ◌++◌, length}
use Rattle.fax_runcodes.specs.Rows.{Elements}
use Rattle.fax_mhcode.specs.declared.fault.LineFault.{LineFault}
use Rattle.fax_mrcode.specs.Lines.{SpellsLine}
use Rattle.fax_mrcode.specs.LineFaults.{FailsLine}

-- Against one reference a text spells at most one row, and is no proper front of another row's text.
abbrev pub TextsAreUnique : Type 0
TextsAreUnique = (reference : Elements)
    (text other : List Bool) (row other_row : Elements) (rest other_rest : List Bool)
    → SpellsLine reference text row → SpellsLine reference other other_row
    → text ++ rest ≡ other ++ other_rest → (text ≡ other) × (row ≡ other_row)

-- Reading what begins with a line meets no fault.
abbrev pub LinesDontFail : Type 0
LinesDontFail =
    (reference : Elements) (bits text rest : List Bool) (row : Elements) (fault : LineFault)
    → length reference ≤ 2432
    → SpellsLine reference text row → bits ≡ text ++ rest → FailsLine reference bits fault → ⊥

-- Reading a line meets at most one fault.
abbrev pub FaultsAreUnique : Type 0
FaultsAreUnique = (reference : Elements) (bits : List Bool) (f g : LineFault)
    → length reference ≤ 2432 → FailsLine reference bits f → FailsLine reference bits g → f ≡ g

-- Bits begin with the line of a row against this reference.
abbrev pub BeginWithLine : Elements → List Bool → Type 0
BeginWithLine reference bits = (text rest : List Bool)
    × (row : Elements) × SpellsLine reference text row × (bits ≡ text ++ rest)

-- Any bits begin with a line against a reference, or reading one meets a fault.
abbrev pub LinesAreReadOrFail : Type 0
LinesAreReadOrFail = (reference : Elements) (bits : List Bool)
    → BeginWithLine reference bits ⊎ ((fault : LineFault) × FailsLine reference bits fault)
