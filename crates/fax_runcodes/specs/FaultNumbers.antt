-- The numbers of the faults (this project's profile).
use Rattle.std.specs.Prelude.{ℕ}
use Rattle.fax_runcodes.specs.declared.fault.RunFault.{RunFault}
use Rattle.fax_runcodes.specs.declared.fault.RunFault.TheVariants.{NoWord, TooLong, End}
use Rattle.fax_runcodes.specs.declared.fault.RowFault.{RowFault}
use Rattle.fax_runcodes.specs.declared.fault.RowFault.TheVariants.{BadRuns, NoMemory}

abbrev pub run_fault_number : RunFault → ℕ
run_fault_number NoWord = 1
run_fault_number TooLong = 2
run_fault_number End = 3

abbrev pub row_fault_number : RowFault → ℕ
row_fault_number BadRuns = 1
row_fault_number NoMemory = 2
