-- PAGES IN FILES: the pages that the octets of a file have, and what is wrong with octets that have none. (netpbm's pbm(5) for
-- pictures; RFC 2306 for TIFFs; this project's profile.)
use Rattle.std.specs.Prelude.{◌≡◌, ◌≢◌, ℕ, ◌≤◌, ◌||◌, nat_eq, Bool, true, false, List, [], ◌∷◌, ◌++◌, length, take, Option, Ok, Err}
use Rattle.std.specs.Cmp.Lexicographic.{pointwise}
use Rattle.fax_runcodes.specs.declared.format.Format.{Format}
use Rattle.fax_runcodes.specs.declared.format.Coding.{Coding}
use Rattle.fax_runcodes.specs.Widths.{elements_of}
use Rattle.fax_pagestore.specs.Pages.{PageValue}
use Rattle.fax_pagestore.specs.PageTexts.{MeansRows}
use Rattle.fax_command.specs.declared.input_fault.InputFault.{InputFault}
use Rattle.fax_command.specs.declared.input_fault.InputFault.TheVariants as input_faults
use Rattle.fax_command.specs.declared.options.Output.TheVariants as output
use Rattle.fax_command.specs.declared.options.PageOptions.{PageOptions}
use Rattle.fax_command.specs.declared.stream.TheConstants.{MOST_OCTETS}
use Rattle.fax_command.specs.Answers.{IsHexOf, RefusesPage}
use Rattle.fax_pbm.specs.declared.fault.PbmFault.{PbmFault}
use Rattle.fax_pbm.specs.Pictures.{begins_as_picture, page_of}
use Rattle.fax_tiff.specs.declared.fault.TiffFault.{TiffFault}
use Rattle.fax_tiff.specs.ReadTiffs.{FailsTiff, MeansTiff}
use Rattle.fax_send_receive.specs.Folders.{AreOctetsOf}

-- how hex text is read
abbrev pub text_options : Format → Coding → PageOptions
text_options format coding =
    record { format = format; coding = coding; least_bits = 0; output = output.Runs }

-- octets are the hex text of a page: it has this format, and its rows are what is coded so
pub record IsHexPage (format : Format) (coding : Coding) (text : List ℕ) (page : PageValue) :
    Type 0 where
  pub same_format : page.format ≡ format
  pub octets : List ℕ
  pub is_hex : IsHexOf text octets
  pub means : MeansRows (elements_of format.width) coding octets page.rows

-- Octets begin as a TIFF: `II` and 42, or `MM` and 42, of which the least or the most significant octet comes first (TIFF 6.0,
-- section 2).
abbrev pub begins_as_tiff : List ℕ → Bool
begins_as_tiff octets = pointwise nat_eq (take 4 octets) (73 ∷ 73 ∷ 42 ∷ 0 ∷ [])
    || pointwise nat_eq (take 4 octets) (77 ∷ 77 ∷ 0 ∷ 42 ∷ [])

-- A file of these octets, which is no TIFF, has this page: that of a picture where they begin as one, in the resolution that is told,
-- and else that of hex text.
pub record HasPage (format : Format) (coding : Coding) (file : List ℕ) (page : PageValue) :
    Type 0 where
  pub picture : begins_as_picture file ≡ true → page_of format.fine file ≡ Ok page
  pub text : begins_as_picture file ≡ false → IsHexPage format coding file page

-- A file of these octets has these pages: those of a TIFF where they begin as one, and else one.
pub record HasPages (format : Format) (coding : Coding) (file : List ℕ) (pages : List PageValue) :
    Type 0 where
  pub tiff : begins_as_tiff file ≡ true → MeansTiff file pages
  pub one : begins_as_tiff file ≡ false
      → (page : PageValue) × (pages ≡ page ∷ []) × HasPage format coding file page

-- A file has these pages, and is no longer than an input may be. Its octets are those that are known of it; where none are, it is
-- some file.
pub record ArePagesOfFile (format : Format)
    (coding : Coding) (known : Option (List ℕ)) (pages : List PageValue) : Type 0 where
  pub file : List ℕ
  pub octets_are : AreOctetsOf known file
  pub short : length file ≤ MOST_OCTETS
  pub has : HasPages format coding file pages

-- THE PAGES OF FILES: those of each, in the order of the files. What a file of a name holds, where it is known, is told beside.
abbrev pub ArePagesOfFiles : (holds : List ℕ → Option (List ℕ))
    → Format → Coding → (names : List (List ℕ)) → List PageValue → Type 0
ArePagesOfFiles holds format coding [] pages = pages ≡ []
ArePagesOfFiles holds format coding (name ∷ names) pages = (first more : List PageValue)
    × (pages ≡ first ++ more) × ArePagesOfFile format coding (holds name) first
    × ArePagesOfFiles holds format coding names more

-- octets begin as a TIFF, and this is wrong with it
pub record IsBadTiff (file : List ℕ) (fault : TiffFault) : Type 0 where
  pub begins : begins_as_tiff file ≡ true
  pub refused : FailsTiff file fault

-- octets begin as a picture, and this is wrong with it
pub record IsBadPicture (fine : Bool) (file : List ℕ) (fault : PbmFault) : Type 0 where
  pub begins : begins_as_picture file ≡ true
  pub refused : page_of fine file ≡ Err fault

-- octets begin as neither, and this is wrong with them as hex text
pub record IsBadText (format : Format) (coding : Coding) (file : List ℕ) (fault : InputFault) :
    Type 0 where
  pub no_tiff : begins_as_tiff file ≡ false
  pub begins : begins_as_picture file ≡ false
  pub refused : RefusesPage (text_options format coding) file fault
  pub not_memory : fault ≢ input_faults.NoMemory
