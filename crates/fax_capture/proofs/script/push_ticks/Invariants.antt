use Rattle.std.proofs.Common.{◌≡◌, ◌-◌, ◌++◌}
use Rattle.fax_command.specs.RowLines.{text_of_lines}
use Rattle.fax_capture.specs.Scripts.{tick_lines}
use Rattle.fax_capture.proofs.script.push_ticks.Given as goal

-- the ticks that are left come after what was told
abbrev pub invariant-loop-tick : goal.invariant-loop-tick
invariant-loop-tick l = l.text.items ++ text_of_lines (tick_lines l.tick (l.to - l.tick)) ≡ l.fn.text.items ++ text_of_lines (tick_lines l.from (l.to - l.from))
