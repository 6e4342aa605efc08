use Rattle.std.proofs.Common.{◌≡◌, ◌-◌, length}
use Rattle.fax_capture.specs.pcap.Captures.{times_in, untold}
use Rattle.fax_capture.proofs.pcap.interface.read_times.Given as goal

-- what the options that are left tell is what all tell
abbrev pub invariant-loop : goal.invariant-loop
invariant-loop l = times_in (length l.options - l.counter) l.order l.rest l.times ≡ times_in (length l.options) l.order l.options untold
