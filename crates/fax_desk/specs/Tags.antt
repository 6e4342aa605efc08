-- Tags by value (this project's profile).
use Rattle.std.specs.Prelude.{ℕ, ◌-◌, min, nat_le, List, ◌++◌, length, take, replicate, Option, None, Some, if◌then◌else◌}
use Rattle.fax_desk.specs.declared.tag.Tag.{Tag}

-- the text, with zeros after it
abbrev pub tag_with : List ℕ → Tag
tag_with text = record { octets = text ++ replicate (64 - length text) 0; length = length text }

-- a text of at most 64 octets has a tag
abbrev pub tag_of_text : List ℕ → Option Tag
tag_of_text text = if nat_le (length text) 64 then Some (tag_with text) else None

abbrev pub tag_text : Tag → List ℕ
tag_text tag = take (min tag.length 64) tag.octets
