-- PICTURES OF PAGES THAT WAIT: in which files they stand, and what is told where a page has none. (This project's profile.)
use Rattle.std.specs.Prelude.{◌≡◌, ℕ, Bool, true, List, [], ◌∷◌, ◌++◌, All, codes, decimal, flat_map, is_some, map, MatchOption, Option, Some, None, Result, Ok, Err, IfSome}
use Rattle.std.specs.List.{list_all}
use Rattle.percent_encoding.specs.Percent.{percent_encode}
use Rattle.fax_runcodes.specs.declared.format.Coding.TheVariants.{Mr}
use Rattle.fax_pagestore.specs.Pages as pages
use Rattle.fax_pagestore.specs.PageTexts.{MeansPage}
use Rattle.fax_pbm.specs.Pictures.{page_of}
use Rattle.fax_spool.specs.RecordOctets.{PageValue}
use Rattle.fax_listing.specs.Telling.{no_page_text}
use Rattle.fax_listing.specs.declared.fault.LookFault.{LookFault}
use Rattle.fax_listing.specs.declared.fault.LookFault.TheVariants.{NoMemory, Stream}
use Rattle.fax_listing.specs.declared.pictures.TheConstants.{ESCAPED}

-- ---- files

-- a file that was made: its name, and all its octets
pub record FileValue : Type 0 where
  pub name : List ℕ
  pub octets : List ℕ

-- where files are known, they are now one more: the last has this name and these octets
abbrev pub IsAdded : (before after : Option (List FileValue)) → (name octets : List ℕ) → Type 0
IsAdded before after name octets =
    IfSome before (λ files. after ≡ Some (files ++ record { name = name; octets = octets } ∷ []))

-- whether a file was not made, once a look ended so
abbrev pub failed_after_look : {A : Type 0} → Bool → Result A LookFault → Bool
failed_after_look failed (Ok seen) = failed
failed_after_look failed (Err NoMemory) = failed
failed_after_look failed (Err Stream) = true

-- ---- the picture of a page

-- The name of its file: PREFIX-LINE-LIFE-CALL-NUMBER.pbm. Of the line's name, letters, digits, `-`, `.` and `_` stand as they are, and
-- each other octet as `%` and two hexadecimal digits.
unfoldable pub picture_name : (prefix : List ℕ) → PageValue → List ℕ
picture_name prefix page =
    prefix ++ codes "-" ++ percent_encode ESCAPED page.line ++ (codes "-" ++ decimal page.life
    ++ codes "-" ++ decimal page.call ++ codes "-" ++ decimal page.number ++ codes ".pbm")

-- a file has the name of a page, and all its octets are a picture of what the page's text means
pub record IsPictureOf (prefix : List ℕ) (page : PageValue) (file : FileValue) : Type 0 where
  pub named : file.name ≡ picture_name prefix page
  pub shown : pages.PageValue
  pub means : MeansPage page.format Mr page.text shown
  pub picture : page_of shown.format.fine file.octets ≡ Ok shown

-- the text of the page means none
abbrev pub MeansNone : PageValue → Type 0
MeansNone page = (shown : pages.PageValue) → MeansPage page.format Mr page.text shown → ⊥

-- what became of a page: its picture, or none
pub record Pictured : Type 0 where
  pub page : PageValue
  pub file : Option FileValue

abbrev pub IsPictured : (prefix : List ℕ) → Pictured → Type 0
IsPictured prefix pictured =
    MatchOption pictured.file (MeansNone pictured.page) (IsPictureOf prefix pictured.page)

abbrev pub is_made : Pictured → Bool
is_made pictured = is_some pictured.file

abbrev pub file_list : Option FileValue → List FileValue
file_list None = []
file_list (Some file) = file ∷ []

-- what is told of a page that has none
abbrev pub told_where : (prefix : List ℕ) → PageValue → Option FileValue → List ℕ
told_where prefix page None = no_page_text (picture_name prefix page)
told_where prefix page (Some file) = []

abbrev pub told_of : (prefix : List ℕ) → Pictured → List ℕ
told_of prefix pictured = told_where prefix pictured.page pictured.file

-- A page is pictured, or it is told that it means none: what was told and made before, and after.
pub record KeepsPicture (prefix : List ℕ) (page : PageValue)
    (made : Bool) (old_told told : List ℕ) (before after : Option (List FileValue)) : Type 0 where
  pub file : Option FileValue
  pub is : IsPictured prefix (record { page = page; file = file })
  pub made_is : made ≡ is_some file
  pub told_is : told ≡ old_told ++ told_where prefix page file
  pub files_are : IfSome before (λ files. after ≡ Some (files ++ file_list file))

-- EACH PAGE IS PICTURED, OR MEANS NONE: these files are made, in the order of the pages, and these lines told, and nothing else.
pub record KeepsPictures (prefix : List ℕ) (pages : List PageValue) (is_whole : Bool)
    (old_told told : List ℕ) (before after : Option (List FileValue)) : Type 0 where
  pub pictured : List Pictured
  pub of_pages : map (λ (p : Pictured). p.page) pictured ≡ pages
  pub each : All (IsPictured prefix) pictured
  pub whole : is_whole ≡ list_all is_made pictured
  pub told_is : told ≡ old_told ++ flat_map (told_of prefix) pictured
  pub files_are : IfSome before
      (λ files. after ≡ Some (files ++ flat_map (λ (p : Pictured). file_list p.file) pictured))
