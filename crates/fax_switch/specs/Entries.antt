-- What holds of each entry, and of each two.
use Rattle.std.specs.Prelude.{List, [], ◌∷◌}
use Rattle.fax_switch.specs.declared.call.Entry.{Entry}

abbrev pub Each : (Entry → Type 0) → List Entry → Type 0
Each P [] = Unit {0}
Each P (entry ∷ entries) = P entry × Each P entries

abbrev pub EachTwo : (Entry → Entry → Type 0) → List Entry → Type 0
EachTwo R [] = Unit {0}
EachTwo R (entry ∷ entries) = Each (R entry) entries × EachTwo R entries
