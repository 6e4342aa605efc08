-- What holds of pages and their texts.
use Rattle.std.specs.Prelude.{◌≡◌, ◌↔◌, ◌⊎◌, ℕ, Bool, List}
use Rattle.fax_bits.specs.Laws.{AreOctets}
use Rattle.fax_bits.specs.Writing.{IsPadded}
use Rattle.fax_runcodes.specs.declared.format.Coding.{Coding}
use Rattle.fax_runcodes.specs.Rows.{Elements, IsWidth}
use Rattle.fax_pagestore.specs.declared.fault.PageFault.{PageFault}
use Rattle.fax_pagestore.specs.PageRows.{AreRows}
use Rattle.fax_pagestore.specs.PageTexts.{MeansRows}
use Rattle.fax_pagestore.specs.PageFaults.{FailsPage}
use Rattle.fax_pagestore.specs.WrittenPages.{WritesPage}
use Rattle.fax_pagestore.specs.Fill.{less_fill}

-- octets mean the rows of at most one page
abbrev pub PagesAreUnique : Type 0
PagesAreUnique = (width : ℕ) (coding : Coding) (octets : List ℕ) (rows others : List Elements)
    → IsWidth width
    → MeansRows width coding octets rows → MeansRows width coding octets others → rows ≡ others

-- octets that mean a page meet no fault
abbrev pub PagesDontFail : Type 0
PagesDontFail =
    (width : ℕ) (coding : Coding) (octets : List ℕ) (rows : List Elements) (fault : PageFault)
    → IsWidth width → MeansRows width coding octets rows → FailsPage width coding octets fault → ⊥

-- octets meet at most one fault
abbrev pub FaultsAreUnique : Type 0
FaultsAreUnique = (width : ℕ) (coding : Coding) (octets : List ℕ) (fault other : PageFault)
    → IsWidth width
    → FailsPage width coding octets fault → FailsPage width coding octets other → fault ≡ other

-- octets mean a page, or meet a fault
abbrev pub PagesAreReadOrFail : Type 0
PagesAreReadOrFail = (width : ℕ) (coding : Coding) (octets : List ℕ)
    → ((rows : List Elements) × MeansRows width coding octets rows)
    ⊎ ((fault : PageFault) × FailsPage width coding octets fault)

-- the text in which a page is written means the page
abbrev pub WrittenPagesMean : Type 0
WrittenPagesMean = (width : ℕ) (coding : Coding)
    (fine : Bool) (least : ℕ) (rows : List Elements) (text : List Bool) (octets : List ℕ)
    → IsWidth width → AreRows width rows → WritesPage coding fine least rows text
    → IsPadded octets text → MeansRows width coding octets rows

-- a page is written as one text only
abbrev pub WrittenPagesAreUnique : Type 0
WrittenPagesAreUnique = (width : ℕ)
    (coding : Coding) (fine : Bool) (least : ℕ) (rows : List Elements) (text other : List Bool)
    → IsWidth width → AreRows width rows → WritesPage coding fine least rows text
    → WritesPage coding fine least rows other → text ≡ other

-- a page is written as some text
abbrev pub PagesAreWritten : Type 0
PagesAreWritten = (width : ℕ) (coding : Coding) (fine : Bool) (least : ℕ) (rows : List Elements)
    → AreRows width rows → (text : List Bool) × WritesPage coding fine least rows text

-- octets that hold the written text of one page, with fewer than eight zeros after it, are the same
abbrev pub WrittenOctetsAreUnique : Type 0
WrittenOctetsAreUnique = (width : ℕ) (coding : Coding)
    (fine : Bool) (least : ℕ) (rows : List Elements) (text other : List Bool) (a b : List ℕ)
    → IsWidth width → AreRows width rows
    → WritesPage coding fine least rows text → WritesPage coding fine least rows other
    → AreOctets a → AreOctets b → IsPadded a text → IsPadded b other → a ≡ b

-- Long fill means nothing by the number of its zeros: octets mean the same rows, or meet the same fault, with all of them and
-- without those octets of zeros that stand after four others.
abbrev pub FillIsFree : Type 0
FillIsFree = (width : ℕ) (coding : Coding) (octets : List ℕ)
    → ((rows : List Elements) → MeansRows width coding (less_fill 0 octets) rows
    ↔ MeansRows width coding octets rows) × ((fault : PageFault)
    → FailsPage width coding (less_fill 0 octets) fault ↔ FailsPage width coding octets fault)
