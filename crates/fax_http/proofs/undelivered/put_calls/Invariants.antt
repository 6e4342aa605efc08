use Rattle.std.proofs.Common.{◌≡◌, ◌++◌, flat_map, take}
use Rattle.fax_http.specs.Undelivered.{call_part}
use Rattle.fax_http.proofs.undelivered.put_calls.Given as goal

-- the calls so far are written
abbrev pub invariant-loop-call : goal.invariant-loop-call
invariant-loop-call l = l.octets.items ≡ l.initial.octets.items ++ flat_map call_part (take l.call-index l.calls)
