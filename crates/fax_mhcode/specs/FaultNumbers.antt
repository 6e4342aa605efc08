-- The numbers of the faults of a line (this project's profile).
use Rattle.std.specs.Prelude.{ℕ}
use Rattle.fax_mhcode.specs.declared.fault.LineFault.{LineFault}
use Rattle.fax_mhcode.specs.declared.fault.LineFault.TheVariants.{Run, PastWidth, NoMode, BadPlace, NoMemory}

abbrev pub line_fault_number : LineFault → ℕ
line_fault_number (Run fault) = 1
line_fault_number PastWidth = 2
line_fault_number NoMode = 3
line_fault_number BadPlace = 4
line_fault_number NoMemory = 5
