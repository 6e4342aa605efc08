-- Texts in a page (HTML, 13.1.4 and 13.5: which characters are written as references).
use Rattle.std.specs.Prelude.{◌≡◌, ◌≢◌, ℕ, ◌==◌, if◌then◌else◌, List, [], ◌∷◌, ◌++◌, All, codes}
use Rattle.std.specs.List.{flat_map}

-- an octet of a text: five are written as references
abbrev pub octet_shown : ℕ → List ℕ
octet_shown octet =
    if octet == 38 then codes "&amp;" else
    if octet == 60 then codes "&lt;" else
    if octet == 62 then codes "&gt;" else
    if octet == 34 then codes "&quot;" else
    if octet == 39 then codes "&#39;" else octet ∷ []

-- A TEXT, AS IT STANDS IN A PAGE.
abbrev pub text_shown : List ℕ → List ℕ
text_shown text = flat_map octet_shown text
