use Rattle.std.proofs.Common.{◌≡◌, take}
use Rattle.fax_config.specs.Configurations.{locals_of_lines}
use Rattle.fax_config.proofs.unlike.locals_of_lines.Given as goal

-- those so far
abbrev pub invariant-loop-line : goal.invariant-loop-line
invariant-loop-line l = l.locals.items ≡ locals_of_lines (take l.line-index l.lines)
