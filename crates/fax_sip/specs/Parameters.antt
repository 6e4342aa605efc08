-- What stands in a value (RFC 3261, 7.3.1, 20.10, 20.42 and 25.1): parameters, addresses, hops, challenges.
use Rattle.std.specs.Prelude.{ℕ, ◌-◌, ◌&&◌, ◌||◌, ◌==◌, nat_le, if◌then◌else◌, List, [], length, drop, codes, slice_index, slice_range, Option, None, Some, option_map}
use Rattle.std.specs.List.{filter_map}
use Rattle.std.specs.Option.{option_and_then}
use Rattle.fax_sip.specs.declared.mark.Mark.{Mark}
use Rattle.fax_sip.specs.declared.mark.Mark.TheVariants.{Octet, Outside, Blank}
use Rattle.fax_sip.specs.declared.parts.Via.{Via}
use Rattle.fax_sip.specs.Fields.{first_of}
use Rattle.fax_sip.specs.Texts.{cut, is_word, parts_of, trimmed}

-- what stands before the first such mark; all where there is none
abbrev pub front_of : List ℕ → Option (List ℕ × List ℕ) → List ℕ
front_of text None = text
front_of text (Some parts) = parts.0

abbrev pub before : Mark → List ℕ → List ℕ
before mark text = front_of text (cut mark text)

abbrev pub value_after : List ℕ → List ℕ → Option (List ℕ × List ℕ) → Option (List ℕ)
value_after name part None = if is_word (trimmed part) name then Some [] else None
value_after name part (Some parts) =
    if is_word (trimmed parts.0) name then Some (trimmed parts.1) else None

-- the value of a part that is a parameter of this name: what stands after `=`, or nothing
unfoldable pub parameter_value : List ℕ → List ℕ → Option (List ℕ)
parameter_value name part = value_after name part (cut (Octet 61) part)

-- the first parameter of this name, each after a semicolon outside of quoted strings and of angle brackets
abbrev pub parameter_of : List ℕ → List ℕ → Option (List ℕ)
parameter_of name value = first_of (filter_map (parameter_value name) (drop 1 (parts_of 59 value)))

-- the same of a challenge: commas part its parameters, after the scheme
abbrev pub credential_of : List ℕ → List ℕ → Option (List ℕ)
credential_of name value = option_and_then
    (λ parts. first_of (filter_map (parameter_value name) (parts_of 44 parts.1))) (cut Blank value)

-- a text without the quotation marks at its ends
abbrev pub unquoted : List ℕ → List ℕ
unquoted text = if nat_le 2 (length text) && slice_index text 0 == 34
    && slice_index text (length text - 1) == 34 then slice_range text 1 (length text - 1) else text

abbrev pub uri_in : List ℕ → Option (List ℕ × List ℕ) → List ℕ
uri_in value None = trimmed (before (Outside 59) value)
uri_in value (Some parts) = trimmed (before (Octet 62) parts.1)

-- the address of a value: in angle brackets, or else all before its parameters
abbrev pub uri_of : List ℕ → List ℕ
uri_of value = uri_in value (cut (Outside 60) value)

-- the user of a `sip` or `sips` address: after the scheme, before `@`, a password and its own parameters (RFC 3261, 19.1.1)
abbrev pub user_of : List ℕ → Option (List ℕ)
user_of uri =
    option_and_then (λ parts. if is_word parts.0 (codes "sip") || is_word parts.0 (codes "sips")
    then option_map (λ user. before (Octet 59) (before (Octet 58) user.0)) (cut (Octet 64) parts.1)
    else None) (cut (Octet 58) uri)

-- a hop, apart from where its texts lie
pub record ViaText : Type 0 where
  pub transport : List ℕ
  pub sent_by : List ℕ

abbrev pub via_text : Via → ViaText
via_text via = record { transport = via.transport.now; sent_by = via.sent_by.now }

-- a hop: the protocol, its version and a transport, with a slash between each, white space, and who sent it
abbrev pub via_of : List ℕ → Option ViaText
via_of value =
    option_and_then (λ protocol. option_and_then (λ version. option_map (λ parts. record {
      transport = parts.0;
      sent_by = trimmed parts.1;
    }) (cut Blank (trimmed version.1)))
    (cut (Octet 47) protocol.1)) (cut (Octet 47) (before (Outside 59) value))
