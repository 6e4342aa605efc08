use Rattle.std.proofs.Common.{◌≡◌, drop}
use Rattle.fax_sip.specs.Permitted.{fields_fault}
use Rattle.fax_sip.proofs.permitted.fault_of_fields.Given as goal

-- the first that is not told is the first of those that are left
abbrev pub invariant-loop-field : goal.invariant-loop-field
invariant-loop-field l = fields_fault (drop l.field-index l.fields) ≡ fields_fault l.fields
