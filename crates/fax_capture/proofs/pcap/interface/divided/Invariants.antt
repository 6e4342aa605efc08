use Rattle.std.proofs.Common.{◌≡◌, ◌≤◌, ◌/◌, ◌^◌}
use Rattle.fax_capture.proofs.pcap.interface.divided.Given as goal

abbrev pub invariant-loop : goal.invariant-loop
invariant-loop l = (l.quotient ≡ l.number / (l.base ^ l.counter))
