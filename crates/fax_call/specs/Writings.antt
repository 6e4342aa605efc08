-- The text of a page: the octets in which it is written (ITU-T T.4), which are one for each page, coding and least number
-- of bits of a line. What is sent is told over the function that gives them.
use Rattle.std.specs.Prelude.{◌≡◌, ℕ, Bool, List}
use Rattle.fax_bits.specs.Laws.{AreOctets}
use Rattle.fax_bits.specs.Writing.{IsPadded}
use Rattle.fax_runcodes.specs.declared.format.Coding.{Coding}
use Rattle.fax_pagestore.specs.Pages.{PageValue, IsPage}
use Rattle.fax_pagestore.specs.WrittenPages.{WritesPage}

abbrev pub Writing : Type 0
Writing = PageValue → Coding → ℕ → List ℕ

-- octets that hold the written text of a page
pub record IsWrittenAs (page : PageValue) (coding : Coding) (least : ℕ) (octets : List ℕ) :
    Type 0 where
  pub are_octets : AreOctets octets
  pub text : List Bool
  pub writes : WritesPage coding page.format.fine least page.rows text
  pub padded : IsPadded octets text

-- a function gives the text of each page
abbrev pub IsWriting : Writing → Type 0
IsWriting writes = (page : PageValue) (coding : Coding) (least : ℕ)
    → IsPage page → IsWrittenAs page coding least (writes page coding least)

-- there is such a function
abbrev pub PagesHaveTexts : Type 0
PagesHaveTexts = (writes : Writing) × IsWriting writes

-- and the text of a page is one
abbrev pub TextsAreOne : Type 0
TextsAreOne =
    (page : PageValue) (coding : Coding) (least : ℕ) (octets others : List ℕ) → IsPage page
    → IsWrittenAs page coding least octets → IsWrittenAs page coding least others → octets ≡ others
