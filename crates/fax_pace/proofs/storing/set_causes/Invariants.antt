use Rattle.std.proofs.Common.{◌≡◌}
use Rattle.fax_pace.proofs.storing.set_causes.Given as goal

-- what is kept is the same so far
abbrev pub invariant-loop-i : goal.invariant-loop-i
invariant-loop-i g l = l.store.storage ≡ l.initial.store.storage
