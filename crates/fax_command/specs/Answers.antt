-- What `faxgate page` answers to an input (this project's profile).
use Rattle.std.specs.Prelude.{◌≡◌, ℕ, ◌<◌, ◌⊎◌, Bool, not, List, [], ◌∷◌, ◌++◌, length, filter, All, codes, decimal, Result, Ok, Err}
use Rattle.std.specs.Char.{is_ascii_whitespace}
use Rattle.fax_bits.specs.Laws.{AreOctets}
use Rattle.fax_bits.specs.Writing.{IsPadded}
use Rattle.fax_runcodes.specs.Rows.{Elements}
use Rattle.fax_runcodes.specs.Widths.{elements_of}
use Rattle.hex.specs.Hex.{decode_of, encode_lower}
use Rattle.hex.specs.declared.error.FromHexError.{FromHexError}
use Rattle.fax_pagestore.specs.declared.fault.PageFault.{PageFault}
use Rattle.fax_pagestore.specs.declared.fault.PageFault.TheVariants as page
use Rattle.fax_command.specs.declared.options.Output.{Output}
use Rattle.fax_command.specs.declared.options.Output.TheVariants.{Runs, Picture, Octets}
use Rattle.fax_command.specs.declared.options.PageOptions.{PageOptions}
use Rattle.fax_command.specs.declared.input_fault.InputFault.{InputFault}
use Rattle.fax_command.specs.declared.input_fault.InputFault.TheVariants.{Hex, Page, Row, NoMemory}
use Rattle.fax_pagestore.specs.PageRows.{AreRows, most_rows}
use Rattle.fax_pagestore.specs.PageTexts.{MeansRows}
use Rattle.fax_pagestore.specs.PageFaults.{FailsPage}
use Rattle.fax_pagestore.specs.WrittenPages.{WritesPage}
use Rattle.fax_command.specs.Pictures.{IsPicture}
use Rattle.fax_command.specs.RowLines.{TellRows, IsRowLine, text_of_lines, lines_of}

-- a text, or what is wrong with the input
abbrev pub Outcome : Type 0
Outcome = Result (List ℕ) InputFault

-- the elements of each row
abbrev pub row_width : PageOptions → ℕ
row_width options = elements_of options.format.width

-- ---- what is printed

abbrev pub page_fault_line : PageFault → List ℕ
page_fault_line page.NoEol = codes "fault 1 NoEol\n"
page_fault_line (page.BadLine n) = codes "fault 2 BadLine " ++ (decimal n ++ codes "\n")
page_fault_line page.NoRtc = codes "fault 3 NoRtc\n"
page_fault_line page.Empty = codes "fault 4 Empty\n"
page_fault_line page.TooManyRows = codes "fault 5 TooManyRows\n"
page_fault_line page.NoMemory = codes "fault memory\n"

abbrev pub fault_line : InputFault → List ℕ
fault_line Hex = codes "fault hex\n"
fault_line (Page fault) = page_fault_line fault
fault_line (Row n) = codes "fault row " ++ (decimal n ++ codes "\n")
fault_line NoMemory = codes "fault memory\n"

abbrev pub fault_status : InputFault → ℕ
fault_status Hex = 1
fault_status (Page fault) = 1
fault_status (Row n) = 1
fault_status NoMemory = 3

abbrev pub text_of : Outcome → List ℕ
text_of (Ok text) = text
text_of (Err fault) = fault_line fault

abbrev pub status_of : Outcome → ℕ
status_of (Ok text) = 0
status_of (Err fault) = fault_status fault

-- ---- from a page to its rows

abbrev pub without_white_space : List ℕ → List ℕ
without_white_space input = filter (λ octet. not (is_ascii_whitespace octet)) input

-- the input is hex text of these octets
abbrev pub IsHexOf : List ℕ → List ℕ → Type 0
IsHexOf input octets = decode_of (without_white_space input) ≡ Ok octets

-- What is wrong with hex text: it is none, or its octets meet a fault. Memory may be wanting at any input.
abbrev pub RefusesPage : PageOptions → List ℕ → InputFault → Type 0
RefusesPage options input Hex =
    (error : FromHexError) × (decode_of (without_white_space input) ≡ Err error)
RefusesPage options input (Page fault) = (octets : List ℕ)
    × IsHexOf input octets × FailsPage (row_width options) options.coding octets fault
RefusesPage options input (Row n) = ⊥
RefusesPage options input NoMemory = Unit {0}

-- the outcome for hex text: the lines of the rows that its octets mean, or what is wrong
abbrev pub AnswersPage : PageOptions → List ℕ → Outcome → Type 0
AnswersPage options input (Ok text) =
    (octets : List ℕ) × (rows : List Elements) × (lines : List (List ℕ))
    × IsHexOf input octets × MeansRows (row_width options) options.coding octets rows
    × TellRows lines rows × (text ≡ text_of_lines lines)
AnswersPage options input (Err fault) = RefusesPage options input fault

-- the outcome for hex text, with `--pbm`: the picture of the rows that its octets mean, or what is wrong
abbrev pub AnswersPicture : PageOptions → List ℕ → Outcome → Type 0
AnswersPicture options input (Ok text) = (octets : List ℕ) × (rows : List Elements)
    × IsHexOf input octets × MeansRows (row_width options) options.coding octets rows
    × IsPicture (row_width options) rows text
AnswersPicture options input (Err fault) = RefusesPage options input fault

-- ---- from rows to their page

-- This line comes after so many lines that tell rows of the width.
pub record ComesAfter (width : ℕ) (input : List ℕ) (n : ℕ) (line : List ℕ) : Type 0 where
  pub before : List (List ℕ)
  pub rest : List (List ℕ)
  pub lines_are : lines_of input ≡ before ++ line ∷ rest
  pub so_many : length before ≡ n
  pub each : All (IsRowLine width) before

-- The octets hold the text in which the page of these rows is written.
pub record HoldPage (options : PageOptions) (octets : List ℕ) (rows : List Elements) : Type 0 where
  pub bits : List Bool
  pub written : WritesPage options.coding options.format.fine options.least_bits rows bits
  pub padded : IsPadded octets bits
  pub are_octets : AreOctets octets

-- What is wrong with lines: there is none, or the first that tells no row, or that comes after as many
-- rows as a page may have. Memory may be wanting at any input.
abbrev pub RefusesLines : ℕ → List ℕ → InputFault → Type 0
RefusesLines width input Hex = ⊥
RefusesLines width input (Page fault) =
    ((fault ≡ page.Empty) × (lines_of input ≡ []))
    ⊎ ((fault ≡ page.TooManyRows) × (line : List ℕ) × ComesAfter width input most_rows line)
RefusesLines width input (Row n) =
    (n < most_rows) × (line : List ℕ) × ComesAfter width input n line × (IsRowLine width line → ⊥)
RefusesLines width input NoMemory = Unit {0}

-- the outcome for lines: the hex text of the page of the rows that they tell, or what is wrong
abbrev pub AnswersRows : PageOptions → List ℕ → Outcome → Type 0
AnswersRows options input (Ok text) = (rows : List Elements)
    × (octets : List ℕ) × AreRows (row_width options) rows × TellRows (lines_of input) rows
    × HoldPage options octets rows × (text ≡ encode_lower octets ++ 10 ∷ [])
AnswersRows options input (Err fault) = RefusesLines (row_width options) input fault

-- ---- each of them

-- what a run may come to, where this is wanted
abbrev pub AllowsOutput : Output → PageOptions → List ℕ → Outcome → Type 0
AllowsOutput Runs options input outcome = AnswersPage options input outcome
AllowsOutput Picture options input outcome = AnswersPicture options input outcome
AllowsOutput Octets options input outcome = AnswersRows options input outcome

-- what a run with these options may come to
abbrev pub Allows : PageOptions → List ℕ → Outcome → Type 0
Allows options input outcome = AllowsOutput options.output options input outcome

-- The exit status and the text that a run may answer to an input, under its options.
pub record Answers (options : PageOptions) (input : List ℕ) (status : ℕ) (text : List ℕ) :
    Type 0 where
  pub outcome : Outcome
  pub allowed : Allows options input outcome
  pub status_is : status ≡ status_of outcome
  pub text_is : text ≡ text_of outcome
