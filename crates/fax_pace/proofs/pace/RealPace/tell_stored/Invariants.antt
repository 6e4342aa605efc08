use Rattle.std.proofs.Common.{◌≡◌}
use Rattle.fax_pace.proofs.pace.RealPace.tell_stored.Given as goal

abbrev pub invariant-loop-i : goal.invariant-loop-i
invariant-loop-i g l = l.self ≡ l.initial.self
