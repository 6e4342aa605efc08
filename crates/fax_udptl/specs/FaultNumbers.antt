-- The numbers of the faults (this project's profile).
use Rattle.std.specs.Prelude.{ℕ}
use Rattle.fax_udptl.specs.declared.fault.UdptlFault.{UdptlFault}
use Rattle.fax_udptl.specs.declared.fault.UdptlFault.TheVariants.{Short, BadLength}

abbrev pub udptl_fault_number : UdptlFault → ℕ
udptl_fault_number Short = 1
udptl_fault_number BadLength = 2
