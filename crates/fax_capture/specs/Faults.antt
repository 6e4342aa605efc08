-- want of memory
use Rattle.fax_capture.specs.declared.pcap.fault.CaptureFault.TheVariants.{NoMemory}
use Rattle.fax_capture.specs.declared.script_fault.ScriptFault.{ScriptFault}
use Rattle.fax_capture.specs.declared.script_fault.ScriptFault.TheVariants.{Capture}

abbrev pub no_memory : ScriptFault
no_memory = Capture NoMemory
