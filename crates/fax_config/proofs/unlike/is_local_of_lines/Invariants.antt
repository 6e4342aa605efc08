use Rattle.std.proofs.Common.{take}
use Rattle.fax_config.specs.Configurations.{IsAtNoLegOfLines}
use Rattle.fax_config.proofs.unlike.is_local_of_lines.Given as goal

-- none of the lines so far has a leg there
abbrev pub invariant-loop-line : goal.invariant-loop-line
invariant-loop-line l = IsAtNoLegOfLines (take l.line-index l.lines) l.address
