-- Theorems over the definitions. (This project's profile.)
use Rattle.std.specs.Prelude.{◌≡◌, ℕ, ◌<◌, ◌⊎◌, List, All, flat_map}
use Rattle.fax_spool.specs.RecordOctets.{PageFits, PageValue}
use Rattle.fax_spool.specs.Waits.{name_of}
use Rattle.fax_listing.specs.Jobs.{JobValue}
use Rattle.fax_listing.specs.Lines.{job_line}
use Rattle.fax_listing.specs.Pictures.{picture_name}
use Rattle.fax_listing.specs.Shown.{IsVisible}

-- a page whose numbers have four octets each, and whose line's name is of octets
pub record IsPage (page : PageValue) : Type 0 where
  pub fits : PageFits page
  pub octets : All (λ octet. octet < 256) page.line

-- NO TWO PAGES HAVE THEIR PICTURES UNDER ONE NAME: it tells the line, the life, the call and the number.
abbrev pub PagesHaveNamesOfTheirOwn : Type 0
PagesHaveNamesOfTheirOwn = (prefix : List ℕ) (page other : PageValue) → IsPage page → IsPage other
    → picture_name prefix page ≡ picture_name prefix other → name_of page ≡ name_of other

-- LINES OF JOBS ARE TEXT THAT A TERMINAL ONLY SHOWS, whatever a tag or the name of a line holds: line feeds, and the characters of ASCII
-- from the space to `~`.
abbrev pub LinesAreOnlyShown : Type 0
LinesAreOnlyShown = (jobs : List JobValue)
    → All (λ octet. IsVisible octet ⊎ (octet ≡ 10)) (flat_map job_line jobs)
