use Rattle.std.proofs.Common.{◌≡◌}
use Rattle.fax_pace.proofs.pace.close_lines.Given as goal

abbrev pub invariant-loop-i : goal.invariant-loop-i
invariant-loop-i l = l.desk.waits ≡ l.initial.desk.waits
