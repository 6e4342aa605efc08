-- Who refreshes a session, as `Session-Expires` tells it (RFC 4028, 4).
use Rattle.std.specs.Prelude.{ℕ, if◌then◌else◌, List, codes, Option, None, Some}
use Rattle.std.specs.Option.{option_and_then}
use Rattle.fax_dialogs.specs.declared.agreement.Agent.{Agent}
use Rattle.fax_dialogs.specs.declared.agreement.Agent.TheVariants.{Uac, Uas}
use Rattle.fax_sip.specs.Parameters.{parameter_of}
use Rattle.fax_sip.specs.Texts.{is_word}

abbrev pub agent_named : List ℕ → Option Agent
agent_named word = if is_word word (codes "uac")
    then Some Uac else if is_word word (codes "uas") then Some Uas else None

abbrev pub refresher_in : List ℕ → Option Agent
refresher_in value = option_and_then agent_named (parameter_of (codes "refresher") value)
