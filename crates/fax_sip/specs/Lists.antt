-- The values of a name, one after another.
use Rattle.std.specs.Prelude.{ℕ, List, ◌++◌, map, option_map}
use Rattle.std.specs.List.{flat_map}
use Rattle.fax_sip.specs.declared.listing.Elements.{Elements}
use Rattle.fax_sip.specs.declared.listing.Values.{Values}
use Rattle.fax_sip.specs.declared.name.Name.{Name}
use Rattle.fax_sip.specs.Fields.{values_of}
use Rattle.fax_sip.specs.Texts.{lines_of, parts_left, parts_of, trimmed}

-- the values of the lines of a name, cut at the commas outside of quoted strings and of angle brackets, white space aside
abbrev pub elements_of : Name → List (List ℕ) → List (List ℕ)
elements_of name lines = map trimmed (flat_map (parts_of 44) (values_of name lines))

-- those of the lines that are left
abbrev pub values_left : Values → List (List ℕ)
values_left values = values_of values.name (lines_of values.lines.now)

-- those of what is left of a line, and of the lines that are left
abbrev pub elements_left : Elements → List (List ℕ)
elements_left left = map trimmed (parts_left 44 (option_map (λ text. text.now) left.line)
    ++ flat_map (parts_of 44) (values_of left.name (lines_of left.lines.now)))
