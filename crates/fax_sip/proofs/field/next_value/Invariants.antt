use Rattle.std.proofs.Common.{◌≡◌, ◌≤◌, length}
use Rattle.fax_sip.specs.Fields.{values_of}
use Rattle.fax_sip.specs.Texts.{lines_of}
use Rattle.fax_sip.proofs.field.next_value.Given as goal

-- the values are those of the lines that are left
abbrev pub invariant-loop-line : goal.invariant-loop-line
invariant-loop-line l = record {
  same : values_of l.name (lines_of l.rest) ≡ values_of l.name (lines_of l.lines);
  within : length l.rest ≤ length l.lines;
}

abbrev pub decreases-loop-line : goal.decreases-loop-line
decreases-loop-line l = length l.rest
