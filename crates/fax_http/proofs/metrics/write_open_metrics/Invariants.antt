use Rattle.std.proofs.Common.{◌≡◌, ◌++◌, length}
use Rattle.fax_http.specs.Metrics.{families}
use Rattle.fax_http.proofs.metrics.write_open_metrics.Given as goal

-- what is written, and what is left
abbrev pub invariant-loop-octet : goal.invariant-loop-octet
invariant-loop-octet l = l.octets.items ++ families l.left_out l.rest ≡ families 0 l.text

abbrev pub decreases-loop-octet : goal.decreases-loop-octet
decreases-loop-octet l = length l.rest
