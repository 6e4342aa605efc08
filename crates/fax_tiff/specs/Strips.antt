-- THE STRIP OF A PAGE, as a TIFF of class F has it (RFC 2306): the page's one-dimensional text (ITU-T T.4, 4.1), without its return
-- to control.
use Rattle.std.specs.Prelude.{◌≡◌, ◌==◌, ℕ, ◌-◌, ◌<◌, ◌%◌, Bool, false, if◌then◌else◌, List, [], ◌∷◌, ◌++◌, length, replicate, take}
use Rattle.fax_bits.specs.Bits.{bits_of}
use Rattle.fax_runcodes.specs.declared.format.Coding.TheVariants.{Mh}
use Rattle.fax_runcodes.specs.declared.format.Format.{Format}
use Rattle.fax_pagestore.specs.Pages.{PageValue}
use Rattle.fax_pagestore.specs.WrittenPages.{WritesPage, ends_of_line}

-- a page with its lines coded: its format, how many rows it has, and its strip
pub record CodedPage : Type 0 where
  pub format : Format
  pub height : ℕ
  pub strip : List ℕ

-- octets, and a zero after an odd number of them
abbrev pub made_even : List ℕ → List ℕ
made_even octets = if length octets % 2 == 1 then octets ++ 0 ∷ [] else octets

-- the octets of a text without the nine of its return to control, six EOLs of twelve bits (ITU-T T.4, 4.1.4)
unfoldable pub strip_in : List ℕ → List ℕ
strip_in text = made_even (take (length text - 9) text)

-- A strip has the lines of a page, an EOL before each and none after the last, and then fewer than 16 zeros, up to an even number of
-- octets: directories begin at even places (TIFF 6.0, section 2).
pub record IsStripOf (page : PageValue) (strip : List ℕ) : Type 0 where
  pub lines : List Bool
  pub zeros : ℕ
  pub written : WritesPage Mh page.format.fine 0 page.rows (lines ++ ends_of_line Mh 6)
  pub bits_are : bits_of strip ≡ lines ++ replicate zeros false
  pub few : zeros < 16
  pub even : length strip % 2 ≡ 0

-- a page, coded
pub record IsCodedPage (page : PageValue) (coded : CodedPage) : Type 0 where
  pub format_is : coded.format ≡ page.format
  pub height_is : coded.height ≡ length page.rows
  pub strip_is : IsStripOf page coded.strip
