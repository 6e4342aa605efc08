-- Texts that stop to grow.
use Rattle.std.proofs.Common.{◌≡◌, ℕ, List, ◌++◌, length-append, arith, subst}
use Rattle.fax_capture.specs.declared.pcap.fault.CaptureFault.TheVariants as capture
use Rattle.fax_capture.specs.declared.script_fault.ScriptFault.{ScriptFault}
use Rattle.fax_capture.specs.declared.script_fault.ScriptFault.TheVariants.{Capture, NoAddress, NoCall, TooLong}
use Rattle.fax_capture.specs.Growing.{Stops}

-- what stops a text stops a longer one
pub Stops-more : (fault : ScriptFault) (text more : List ℕ) → Stops fault text → Stops fault (text ++ more)
Stops-more TooLong text more s = omega (arith, length-append text more, s)
Stops-more (NoAddress counts) text more s = absurd s
Stops-more (NoCall counts) text more s = absurd s
Stops-more (Capture capture.NoMemory) text more s = tt
Stops-more (Capture capture.NoCapture) text more s = absurd s
Stops-more (Capture capture.Cut) text more s = absurd s
Stops-more (Capture capture.Snapped) text more s = absurd s
Stops-more (Capture capture.Damaged) text more s = absurd s

pub Stops-same : (fault : ScriptFault) (text same : List ℕ) → text ≡ same → Stops fault text → Stops fault same
Stops-same fault text same is s = subst (λ (t : List ℕ). Stops fault t) is s
