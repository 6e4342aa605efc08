use Rattle.std.proofs.Common.{◌≡◌}
use Rattle.fax_pace.proofs.pace.RealPace.tell_turned.Given as goal

abbrev pub invariant-loop-round : goal.invariant-loop-round
invariant-loop-round g l = l.self ≡ l.initial.self
