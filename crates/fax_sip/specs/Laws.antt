-- What is written is read back (RFC 3261, 7.3.1).
use Rattle.std.specs.Prelude.{◌≡◌, ℕ, ◌++◌, true, false, List, ◌∷◌}
use Rattle.fax_sip.specs.declared.name.Name.{Name}
use Rattle.fax_sip.specs.Fields.{values_of}
use Rattle.fax_sip.specs.Permitted.{is_text}
use Rattle.fax_sip.specs.Texts.{goes_on, lines_of, trimmed}
use Rattle.fax_sip.specs.Written.{header}

-- A text in one line stays in its line: what follows is as it was.
abbrev pub LinesAreCut : Type 0
LinesAreCut = (text rest : List ℕ) → is_text text ≡ true
    → goes_on rest ≡ false → lines_of (text ++ 13 ∷ 10 ∷ rest) ≡ text ∷ lines_of rest

-- A header line that is told is one line, which has its name and its value.
abbrev pub HeadersAreReadBack : Type 0
HeadersAreReadBack = (name : Name) (value rest : List ℕ) → is_text value ≡ true
    → goes_on rest ≡ false → values_of name (lines_of (header name value ++ rest))
    ≡ trimmed value ∷ values_of name (lines_of rest)
