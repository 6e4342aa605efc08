use Rattle.std.proofs.Common.{◌≡◌, ◌++◌, drop}
use Rattle.fax_undelivered.proofs.call.copies_of.Given as goal

-- the calls so far, and those still to come
abbrev pub invariant-loop-call : goal.invariant-loop-call
invariant-loop-call l = l.copies.items ++ drop l.call-index l.calls ≡ l.calls
