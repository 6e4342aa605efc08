-- ONE TIFF OF PAGES THAT WAIT: what stands in it, and what is told of pages that do not. (RFC 2306; this project's profile.)
use Rattle.std.specs.Prelude.{◌≡◌, ◌⊎◌, ◌≤◌, ◌^◌, ◌&&◌, ℕ, Bool, true, false, List, [], ◌∷◌, ◌++◌, All, codes, flat_map, is_some, length, map, Option, Some, None}
use Rattle.std.specs.List.{list_all}
use Rattle.fax_runcodes.specs.declared.format.Coding.TheVariants.{Mr}
use Rattle.fax_pagestore.specs.Pages.{IsPage, PageValue as PageShown}
use Rattle.fax_pagestore.specs.PageTexts.{MeansPage}
use Rattle.fax_spool.specs.RecordOctets.{PageValue}
use Rattle.fax_tiff.specs.ReadTiffs.{MeansTiff}
use Rattle.fax_tiff.specs.Strips.{CodedPage, IsCodedPage}
use Rattle.fax_tiff.specs.TiffLaws.{AreCodedPages}
use Rattle.fax_tiff.specs.WrittenTiffs.{tiff_of}
use Rattle.fax_listing.specs.Pictures.{FileValue, IsAdded, MeansNone, picture_name}
use Rattle.fax_listing.specs.Telling.{no_page_text, too_long_text}

-- ---- what pages mean

-- the page that the text of a record means, or it means none
abbrev pub IsMeant : PageValue → Option PageShown → Type 0
IsMeant page None = MeansNone page
IsMeant page (Some shown) = MeansPage page.format Mr page.text shown

-- what is told of a page that means none, under the name `page-LINE-LIFE-CALL-NUMBER.pbm`
abbrev pub told_unless : PageValue → Option PageShown → List ℕ
told_unless page None = no_page_text (picture_name (codes "page") page)
told_unless page (Some shown) = []

-- a page, and what it means
pub record Meant : Type 0 where
  pub page : PageValue
  pub shown : Option PageShown

abbrev pub shown_list : Option PageShown → List PageShown
shown_list None = []
shown_list (Some shown) = shown ∷ []

-- WHAT PAGES MEAN, in their order. Those that mean none are told, and nothing else; whether all mean one.
pub record MeanPages (pages : List PageValue)
    (shown : List PageShown) (are_all : Bool) (old_told told : List ℕ) : Type 0 where
  pub each : List Meant
  pub of_pages : map (λ (m : Meant). m.page) each ≡ pages
  pub are : All (λ (m : Meant). IsMeant m.page m.shown) each
  pub shown_are : shown ≡ flat_map (λ (m : Meant). shown_list m.shown) each
  pub all : are_all ≡ list_all (λ (m : Meant). is_some m.shown) each
  pub told_is : told ≡ old_told ++ flat_map (λ (m : Meant). told_unless m.page m.shown) each

-- ---- the file

-- Where there are pages, one file more of this name was made, whose octets mean them as a TIFF of class F; and else none.
abbrev pub IsTiffAdded : (name : List ℕ)
    → List PageShown → (before after : Option (List FileValue)) → Type 0
IsTiffAdded name [] before after = after ≡ before
IsTiffAdded name (page ∷ more) before after =
    (octets : List ℕ) × MeansTiff octets (page ∷ more) × IsAdded before after name octets

-- pages that no TIFF has: their numbers have 16 bits, and its places 32
abbrev pub AreTooLong : List PageShown → Type 0
AreTooLong shown = (coded : List CodedPage)
    × AreCodedPages shown coded × ((2 ^ 16 ≤ length coded) ⊎ (2 ^ 32 ≤ length (tiff_of coded)))

-- the file is made where the pages fit
abbrev pub MakesTiff : (name : List ℕ)
    → List PageShown → (fits : Bool) → (before after : Option (List FileValue)) → Type 0
MakesTiff name shown true before after = IsTiffAdded name shown before after
MakesTiff name shown false before after = AreTooLong shown × (after ≡ before)

abbrev pub told_fit : (name : List ℕ) → (fits : Bool) → List ℕ
told_fit name true = []
told_fit name false = too_long_text name

-- ONE TIFF IS MADE of what the pages mean, in their order; pages that mean none are told, and so it is where they do not fit.
pub record KeepsTiff (name : List ℕ) (pages : List PageValue) (is_whole : Bool)
    (old_told told : List ℕ) (before after : Option (List FileValue)) : Type 0 where
  pub shown : List PageShown
  pub are_all : Bool
  pub fits : Bool
  pub told_between : List ℕ
  pub mean : MeanPages pages shown are_all old_told told_between
  pub makes : MakesTiff name shown fits before after
  pub told_is : told ≡ told_between ++ told_fit name fits
  pub whole : is_whole ≡ (are_all && fits)

-- ---- on the way there

-- a page is coded after others, where there is one
abbrev pub AddsCoded : Option PageShown → (old_coded coded : List CodedPage) → Type 0
AddsCoded None old_coded coded = coded ≡ old_coded
AddsCoded (Some shown) old_coded coded =
    (one : CodedPage) × IsPage shown × IsCodedPage shown one × (coded ≡ old_coded ++ one ∷ [])

-- the page that a record means is coded after others; or it is told that it means none
pub record CodesPage (page : PageValue)
    (is_coded : Bool) (old_coded coded : List CodedPage) (old_told told : List ℕ) : Type 0 where
  pub shown : Option PageShown
  pub is : IsMeant page shown
  pub coded_is : is_coded ≡ is_some shown
  pub told_is : told ≡ old_told ++ told_unless page shown
  pub adds : AddsCoded shown old_coded coded

-- what pages mean is coded, in their order
pub record CodesPages (pages : List PageValue)
    (coded : List CodedPage) (are_all : Bool) (old_told told : List ℕ) : Type 0 where
  pub shown : List PageShown
  pub mean : MeanPages pages shown are_all old_told told
  pub coded_are : AreCodedPages shown coded
