use Rattle.std.proofs.Common.{◌≡◌, length}
use Rattle.std.specs.List.{list_all}
use Rattle.fax_sip.specs.Fields.{is_field}
use Rattle.fax_sip.specs.Texts.{lines_of}
use Rattle.fax_sip.proofs.field.are_fields.Given as goal

-- all lines pass where those that are left do
abbrev pub invariant-loop-line : goal.invariant-loop-line
invariant-loop-line l = list_all is_field (lines_of l.rest) ≡ list_all is_field (lines_of l.lines)

abbrev pub decreases-loop-line : goal.decreases-loop-line
decreases-loop-line l = length l.rest
