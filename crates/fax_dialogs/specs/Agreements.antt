-- What both ends of a session agree on (RFC 4028, 4, 7 and 9).
use Rattle.std.specs.Prelude.{ℕ, nat_lt, Bool, true, false, if◌then◌else◌, Option, unwrap_or}
use Rattle.fax_dialogs.specs.declared.agreement.Agent.{Agent}
use Rattle.fax_dialogs.specs.declared.agreement.Agent.TheVariants.{Uac, Uas}
use Rattle.fax_dialogs.specs.declared.agreement.Agreement.{Agreement}
use Rattle.fax_dialogs.specs.declared.agreement.Agreement.TheVariants.{TooSmall, Without, With}
use Rattle.fax_dialogs.specs.declared.refresher.Refresher.{Refresher}
use Rattle.fax_dialogs.specs.declared.refresher.Refresher.TheVariants.{We, They}

-- 7.2, 9: who refreshes, of a request of ours (true) or of theirs
abbrev pub refresher_by : Agent → Bool → Refresher
refresher_by Uac true = We
refresher_by Uac false = They
refresher_by Uas true = They
refresher_by Uas false = We

-- 9, table 2. An interval below 90 s is refused with 422 where the sender knows of it, and else passed over (this project's profile). Where the sender supports it, who it
-- asks for refreshes, or else it itself (this project's profile); where it does not, we do.
abbrev pub agreement : ℕ → Option Agent → Bool → Agreement
agreement seconds asked supported =
    if nat_lt seconds 90 then (if supported then TooSmall else Without)
    else (if supported then With (unwrap_or asked Uac) else With Uas)
