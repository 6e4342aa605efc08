-- The numbers of the faults of a page (this project's profile).
use Rattle.std.specs.Prelude.{ℕ}
use Rattle.fax_pagestore.specs.declared.fault.PageFault.{PageFault}
use Rattle.fax_pagestore.specs.declared.fault.PageFault.TheVariants.{NoEol, BadLine, NoRtc, Empty, TooManyRows, NoMemory}

abbrev pub page_fault_number : PageFault → ℕ
page_fault_number NoEol = 1
page_fault_number (BadLine n) = 2
page_fault_number NoRtc = 3
page_fault_number Empty = 4
page_fault_number TooManyRows = 5
page_fault_number NoMemory = 6
