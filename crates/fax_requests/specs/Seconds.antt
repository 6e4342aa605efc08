-- Seconds that a header line tells (RFC 3261, 20.19; RFC 4028, 4 and 5): the number before its parameters, below 2 ^ 32.
use Rattle.std.specs.Prelude.{ℕ, ◌==◌, List, Option}
use Rattle.std.specs.List.{before_first}
use Rattle.std.specs.Option.{option_and_then}
use Rattle.fax_sip.specs.declared.name.Name.TheVariants.{MinSe}
use Rattle.fax_sip.specs.Fields.{first_of, values_of}
use Rattle.fax_sip.specs.Messages.{MessageText}
use Rattle.fax_sip.specs.Texts.{number, trimmed}

abbrev pub seconds_in : List ℕ → Option ℕ
seconds_in value = number (trimmed (before_first (λ octet. octet == 59) value))

-- the least interval that a message tells
abbrev pub least_in : MessageText → Option ℕ
least_in text = option_and_then seconds_in (first_of (values_of MinSe text.lines))
