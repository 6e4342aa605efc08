-- HOW THE FILES OF PAGES ARE NAMED, and what stands in them. (This project's profile.)
use Rattle.std.specs.Prelude.{◌≡◌, ℕ, List, [], ◌∷◌, ◌++◌, codes, decimal, Ok}
use Rattle.fax_pagestore.specs.Pages.{PageValue}
use Rattle.fax_pbm.specs.Pictures.{page_of}
use Rattle.fax_tiff.specs.ReadTiffs.{MeansTiff}
use Rattle.fax_send_receive.specs.declared.page_naming.PageForm.{PageForm}
use Rattle.fax_send_receive.specs.declared.page_naming.PageForm.TheVariants.{Picture, Tiff}
use Rattle.fax_send_receive.specs.declared.page_naming.PageNaming.{PageNaming}

-- how names begin, and what stands in the files
pub record Naming : Type 0 where
  pub prefix : List ℕ
  pub form : PageForm

abbrev pub naming_of : PageNaming → Naming
naming_of naming = record { prefix = naming.prefix.now; form = naming.form }

abbrev pub ending_of : PageForm → List ℕ
ending_of Picture = codes ".pbm"
ending_of Tiff = codes ".tif"

-- the name of the file of a page: the second page of call 0 is in `PREFIX-0-2.pbm`, or in `PREFIX-0-2.tif`
abbrev pub name_of_page : Naming → (call number : ℕ) → List ℕ
name_of_page naming call number = naming.prefix
    ++ codes "-" ++ decimal call ++ codes "-" ++ decimal number ++ ending_of naming.form

-- octets are a picture of a page, or a TIFF of it alone
abbrev pub HoldPage : PageForm → (octets : List ℕ) → PageValue → Type 0
HoldPage Picture octets page = page_of page.format.fine octets ≡ Ok page
HoldPage Tiff octets page = MeansTiff octets (page ∷ [])
