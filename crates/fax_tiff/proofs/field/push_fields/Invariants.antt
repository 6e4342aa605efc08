use Rattle.std.proofs.Common.{◌≡◌, ◌++◌, drop, flat_map}
use Rattle.fax_tiff.specs.WrittenTiffs.{field_octets}
use Rattle.fax_tiff.proofs.field.push_fields.Given as goal

-- what was added and the fields that are left are all fields
abbrev pub invariant-loop-field : goal.invariant-loop-field
invariant-loop-field l = l.octets.items ++ flat_map field_octets (drop l.field-index l.fields) ≡ l.fn.octets.items ++ flat_map field_octets l.fields
