-- What holds of TIFF files of class F.
use Rattle.std.specs.Prelude.{◌≡◌, ℕ, ◌<◌, ◌^◌, List, [], ◌∷◌, length}
use Rattle.fax_pagestore.specs.Pages.{IsPage, PageValue}
use Rattle.fax_tiff.specs.declared.fault.TiffFault.{TiffFault}
use Rattle.fax_tiff.specs.ReadTiffs.{FailsTiff, MeansTiff}
use Rattle.fax_tiff.specs.Strips.{CodedPage, IsCodedPage}
use Rattle.fax_tiff.specs.WrittenTiffs.{tiff_of}

-- octets mean at most one list of pages
abbrev pub TiffsAreUnique : Type 0
TiffsAreUnique = (octets : List ℕ) (pages others : List PageValue)
    → MeansTiff octets pages → MeansTiff octets others → pages ≡ others

-- octets that mean pages meet no fault
abbrev pub TiffsDontFail : Type 0
TiffsDontFail = (octets : List ℕ) (pages : List PageValue) (fault : TiffFault)
    → MeansTiff octets pages → FailsTiff octets fault → ⊥

-- octets meet at most one fault
abbrev pub FaultsAreUnique : Type 0
FaultsAreUnique = (octets : List ℕ) (fault other : TiffFault)
    → FailsTiff octets fault → FailsTiff octets other → fault ≡ other

-- each page is coded
abbrev pub AreCodedPages : List PageValue → List CodedPage → Type 0
AreCodedPages [] [] = Unit {0}
AreCodedPages (page ∷ pages) (coded ∷ more) =
    IsPage page × IsCodedPage page coded × AreCodedPages pages more
AreCodedPages [] (coded ∷ more) = ⊥
AreCodedPages (page ∷ pages) [] = ⊥

-- THE TIFF THAT IS WRITTEN OF PAGES MEANS THEM: it is read back, whatever the pages, in their order.
abbrev pub TiffIsReadBack : Type 0
TiffIsReadBack = (pages : List PageValue) (coded : List CodedPage)
    → AreCodedPages pages coded → 0 < length coded
    → length coded < 2 ^ 16 → length (tiff_of coded) < 2 ^ 32 → MeansTiff (tiff_of coded) pages
