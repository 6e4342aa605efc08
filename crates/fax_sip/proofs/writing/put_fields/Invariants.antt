use Rattle.std.proofs.Common.{◌≡◌, ◌++◌, flat_map, take}
use Rattle.fax_sip.specs.Written.{field_octets}
use Rattle.fax_sip.proofs.writing.put_fields.Given as goal

-- the header lines so far are written
abbrev pub invariant-loop-field : goal.invariant-loop-field
invariant-loop-field l = l.octets.items ≡ l.initial.octets.items ++ flat_map field_octets (take l.field-index l.fields)
