use Rattle.std.proofs.Common.{◌≡◌, map, take}
use Rattle.fax_config.specs.Configurations.{names_of_lines}
use Rattle.fax_config.proofs.unlike.names_of_lines.Given as goal

-- those so far
abbrev pub invariant-loop-line : goal.invariant-loop-line
invariant-loop-line l = map (λ name. name.now) l.names.items ≡ names_of_lines (take l.line-index l.lines)
