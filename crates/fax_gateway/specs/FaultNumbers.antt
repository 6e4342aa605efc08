-- The numbers of the faults (this project's profile).
use Rattle.std.specs.Prelude.{ℕ}
use Rattle.fax_gateway.specs.declared.fault.RingFault.{RingFault}
use Rattle.fax_gateway.specs.declared.fault.RingFault.TheVariants.{Busy, NoNumber, NoMemory}

abbrev pub ring_fault_number : RingFault → ℕ
ring_fault_number Busy = 1
ring_fault_number NoNumber = 2
ring_fault_number NoMemory = 3
