-- Why a text stops to grow.
use Rattle.std.specs.Prelude.{ℕ, ◌<◌, List, length}
use Rattle.fax_capture.specs.declared.pcap.fault.CaptureFault.TheVariants as capture
use Rattle.fax_capture.specs.declared.script_fault.ScriptFault.{ScriptFault}
use Rattle.fax_capture.specs.declared.script_fault.ScriptFault.TheVariants.{Capture, NoAddress, NoCall, TooLong}
use Rattle.fax_capture.specs.Answers.{most_octets}

-- before it became this text: that is too long, or memory was wanted
abbrev pub Stops : ScriptFault → List ℕ → Type 0
Stops TooLong text = most_octets < length text
Stops (NoAddress counts) text = ⊥
Stops (NoCall counts) text = ⊥
Stops (Capture capture.NoMemory) text = Unit {0}
Stops (Capture fault) text = ⊥
