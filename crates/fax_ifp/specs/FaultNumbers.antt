-- The numbers of the faults (this project's profile).
use Rattle.std.specs.Prelude.{ℕ}
use Rattle.fax_ifp.specs.declared.fault.IfpFault.{IfpFault}
use Rattle.fax_ifp.specs.declared.fault.IfpFault.TheVariants.{Short, Extension, BadValue, BadCount, NoMemory}

abbrev pub ifp_fault_number : IfpFault → ℕ
ifp_fault_number Short = 1
ifp_fault_number Extension = 2
ifp_fault_number BadValue = 3
ifp_fault_number BadCount = 4
ifp_fault_number NoMemory = 5
