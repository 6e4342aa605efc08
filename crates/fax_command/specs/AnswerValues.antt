-- What the values of the program tell of an answer.
use Rattle.std.specs.Prelude.{◌≡◌, ℕ, List, [], ◌∷◌, ◌++◌, codes}
use Rattle.hex.specs.Hex.{encode_lower}
use Rattle.fax_bits.specs.Laws.{AreOctets}
use Rattle.fax_runcodes.specs.Widths.{elements_of}
use Rattle.fax_command.specs.declared.answer.Answer.{Answer}
use Rattle.fax_command.specs.declared.answer.Answer.TheVariants as answer
use Rattle.fax_command.specs.declared.answer.Product.{Product}
use Rattle.fax_command.specs.declared.answer.Product.TheVariants as product
use Rattle.fax_command.specs.declared.input_fault.InputFault.{InputFault}
use Rattle.fax_command.specs.declared.input_fault.InputFault.TheVariants.{Page, NoMemory}
use Rattle.fax_pagestore.specs.declared.fault.PageFault.{PageFault}
use Rattle.fax_pagestore.specs.declared.fault.PageFault.TheVariants as page
use Rattle.fax_command.specs.Pictures.{IsPicture}
use Rattle.fax_command.specs.RowLines.{TellRows, text_of_lines}

-- the exit status of an answer
abbrev pub status_of_answer : Answer → ℕ
status_of_answer (answer.Done made) = 0
status_of_answer (answer.Fault line) = 1
status_of_answer answer.NoMemory = 3

-- the text is that of what an input came to
abbrev pub IsTextOf : Product → List ℕ → Type 0
IsTextOf (product.Lines of) text =
    (lines : List (List ℕ)) × TellRows lines of.rows × (text ≡ text_of_lines lines)
IsTextOf (product.Picture of) text = IsPicture (elements_of of.format.width) of.rows text
IsTextOf (product.Hex octets) text = AreOctets octets × (text ≡ encode_lower octets ++ 10 ∷ [])

-- the text is that of an answer
abbrev pub IsAnswerText : Answer → List ℕ → Type 0
IsAnswerText (answer.Done made) text = IsTextOf made text
IsAnswerText (answer.Fault line) text = text ≡ line.items
IsAnswerText answer.NoMemory text = text ≡ codes "fault memory\n"

-- what is wrong with an input whose octets meet a fault, or that memory was wanting
abbrev pub input_fault_of : PageFault → InputFault
input_fault_of page.NoEol = Page page.NoEol
input_fault_of (page.BadLine n) = Page (page.BadLine n)
input_fault_of page.NoRtc = Page page.NoRtc
input_fault_of page.Empty = Page page.Empty
input_fault_of page.TooManyRows = Page page.TooManyRows
input_fault_of page.NoMemory = NoMemory
