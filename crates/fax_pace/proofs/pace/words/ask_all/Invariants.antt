use Rattle.std.proofs.Common.{◌≡◌}
use Rattle.fax_pace.proofs.pace.words.ask_all.Given as goal

abbrev pub invariant-loop-i : goal.invariant-loop-i
invariant-loop-i g l = l.desk.waits ≡ l.initial.desk.waits
