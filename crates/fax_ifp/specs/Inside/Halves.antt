-- How fields are written one after another.
use Rattle.std.specs.Prelude.{ℕ, ◌+◌, ◌*◌, List, [], ◌∷◌, Option, Some, None, is_some, if◌then◌else◌}
use Rattle.fax_ifp.specs.Packets.{FieldText}
use Rattle.fax_ifp.specs.WrittenPackets.{four_bits, counted}

-- the half octet that is left after a field: its other half is the next field's
abbrev pub half_after : Option ℕ → FieldText → Option ℕ
half_after None field = if is_some field.octets then None else Some field.what
half_after (Some half) field = None

-- the octets that a field adds after a half octet, if one is left
abbrev pub added : Option ℕ → FieldText → List ℕ
added (Some half) field = (16 * half + four_bits field) ∷ counted field.octets
added None field =
    if is_some field.octets then (16 * four_bits field ∷ counted field.octets) else []
