-- What the calls of C do with pages (this project's profile).
use Rattle.std.specs.Prelude.{◌≡◌, ◌≢◌, ℕ, ◌<◌, ◌⊎◌, Bool, if◌then◌else◌, List, [], ◌∷◌, ◌++◌, All, length, map, flat_map, take, Result, Ok, Err}
use Rattle.fax_bits.specs.Writing.{IsPadded}
use Rattle.fax_runcodes.specs.declared.format.Coding.{Coding}
use Rattle.fax_runcodes.specs.declared.format.Coding.TheVariants.{Mh, Mr}
use Rattle.fax_runcodes.specs.Pixels.{pixel}
use Rattle.fax_runcodes.specs.Rows.{Elements, IsWidth, AreRuns}
use Rattle.fax_pagestore.specs.declared.fault.PageFault.TheVariants as page
use Rattle.fax_pagestore.specs.PageRows.{AreRows, most_rows}
use Rattle.fax_pagestore.specs.PageTexts.{MeansRows}
use Rattle.fax_pagestore.specs.PageFaults.{FailsPage}
use Rattle.fax_pagestore.specs.WrittenPages.{WritesPage}
use Rattle.fax_c.specs.declared.outcome.FillCounts.{FillCounts}
use Rattle.fax_c.specs.declared.outcome.Refusal.{Refusal}
use Rattle.fax_c.specs.declared.outcome.Refusal.TheVariants.{Page, Room, Width, Runs, LeastBits}

abbrev pub coding_by : Bool → Coding
coding_by two_dimensional = if two_dimensional then Mr else Mh

-- the run lengths of rows, one row after the other
abbrev pub AreRunsOf : List ℕ → List Elements → Type 0
AreRunsOf runs [] = runs ≡ []
AreRunsOf runs (row ∷ rows) =
    (first rest : List ℕ) × (runs ≡ first ++ rest) × AreRuns first row × AreRunsOf rest rows

-- a bit for each element of rows, one row after the other: 1 is black
abbrev pub pixels_of : List Elements → List Bool
pixels_of rows = flat_map (map pixel) rows

-- ---- rows put into a slice, which is told as it was and as it is, or the room that they want

abbrev pub FillsRuns : List Elements → List ℕ → List ℕ → Result FillCounts Refusal → Type 0
FillsRuns rows old new (Ok filled) =
    AreRunsOf (take filled.items new) rows × (filled.rows ≡ length rows)
FillsRuns rows old new (Err (Room n)) =
    (runs : List ℕ) × AreRunsOf runs rows × (length runs ≡ n) × (length old < n)
FillsRuns rows old new (Err refusal) = ⊥

abbrev pub FillsPixels : List Elements → List ℕ → List ℕ → Result FillCounts Refusal → Type 0
FillsPixels rows old new (Ok filled) =
    IsPadded (take filled.items new) (pixels_of rows) × (filled.rows ≡ length rows)
FillsPixels rows old new (Err (Room n)) =
    (packed : List ℕ) × IsPadded packed (pixels_of rows) × (length packed ≡ n) × (length old < n)
FillsPixels rows old new (Err refusal) = ⊥

-- ---- reading

-- the page's faults, and a width that is none
abbrev pub RefusesText : ℕ → Coding → List ℕ → Refusal → Type 0
RefusesText width coding octets (Page page.NoMemory) = Unit {0}
RefusesText width coding octets (Page fault) = FailsPage width coding octets fault
RefusesText width coding octets Width = IsWidth width → ⊥
RefusesText width coding octets refusal = ⊥

-- the slice begins with the runs of the page that the octets mean
abbrev pub ReadsRuns : ℕ → Coding → List ℕ → List ℕ → List ℕ → Result FillCounts Refusal → Type 0
ReadsRuns width coding octets old new answer =
    ((rows : List Elements) × MeansRows width coding octets rows × FillsRuns rows old new answer)
    ⊎ ((refusal : Refusal) × (answer ≡ Err refusal) × RefusesText width coding octets refusal)

-- the slice begins with octets that hold the picture elements of that page
abbrev pub ReadsPixels : ℕ → Coding → List ℕ → List ℕ → List ℕ → Result FillCounts Refusal → Type 0
ReadsPixels width coding octets old new answer =
    ((rows : List Elements) × MeansRows width coding octets rows × FillsPixels rows old new answer)
    ⊎ ((refusal : Refusal) × (answer ≡ Err refusal) × RefusesText width coding octets refusal)

-- ---- writing

-- the most that may be asked for as the least bits of a line
abbrev pub most_least_bits : ℕ
most_least_bits = 65535

-- so many rows of the width stand in front, and this comes after their runs
pub record StandInFront (width : ℕ) (runs : List ℕ) (n : ℕ) (rest : List ℕ) : Type 0 where
  pub rows : List Elements
  pub front : List ℕ
  pub runs_are : runs ≡ front ++ rest
  pub are_runs : AreRunsOf front rows
  pub so_many : length rows ≡ n
  pub of_width : All (λ row. length row ≡ width) rows

-- the octets hold the text of the page of rows whose runs these are
pub record AreWritten (width : ℕ)
    (coding : Coding) (fine : Bool) (least_bits : ℕ) (runs octets : List ℕ) (n : ℕ) : Type 0 where
  pub rows : List Elements
  pub are_rows : AreRows width rows
  pub so_many : length rows ≡ n
  pub are_runs : AreRunsOf runs rows
  pub text : List Bool
  pub written : WritesPage coding fine least_bits rows text
  pub padded : IsPadded octets text

-- the run lengths of the rows of a page
abbrev pub AreRunsOfPage : ℕ → List ℕ → Type 0
AreRunsOfPage width runs = (rows : List Elements) × AreRows width rows × AreRunsOf runs rows

-- Run lengths of no page: none, those of more rows than a page has, or such as begin with no row's. Want of
-- memory is told of those of a page alone.
abbrev pub RefusesRuns : ℕ → List ℕ → Refusal → Type 0
RefusesRuns width runs (Page page.NoMemory) = AreRunsOfPage width runs
RefusesRuns width runs (Page page.Empty) = runs ≡ []
RefusesRuns width runs (Page page.TooManyRows) =
    (rest : List ℕ) × StandInFront width runs most_rows rest × (rest ≢ [])
RefusesRuns width runs (Runs n) = (n < most_rows)
    × (rest : List ℕ) × StandInFront width runs n rest × ((row : Elements) (first more : List ℕ)
    → length row ≡ width → AreRuns first row → rest ≡ first ++ more → ⊥)
RefusesRuns width runs refusal = ⊥

abbrev pub WritesRuns : ℕ
    → Coding → Bool → ℕ → List ℕ → List ℕ → List ℕ → Result FillCounts Refusal → Type 0
WritesRuns width coding fine least runs old new (Ok filled) =
    AreWritten width coding fine least runs (take filled.items new) filled.rows
WritesRuns width coding fine least runs old new (Err (Room n)) = (octets : List ℕ) × (rows : ℕ)
    × AreWritten width coding fine least runs octets rows × (length octets ≡ n) × (length old < n)
WritesRuns width coding fine least runs old new (Err Width) = IsWidth width → ⊥
WritesRuns width coding fine least runs old new (Err LeastBits) = most_least_bits < least
WritesRuns width coding fine least runs old new (Err refusal) = RefusesRuns width runs refusal
