-- The lines of an INVITE of ours (RFC 3261, 8.1.1, 13.2.1 and 22.3; RFC 4028, 7.1 and 7.4).
use Rattle.std.specs.Prelude.{ℕ, List, [], ◌∷◌, ◌++◌, codes, Option, None, Some}
use Rattle.fax_requests.specs.declared.interval.Interval.{Interval}
use Rattle.fax_requests.specs.Intervals.{interval_lines}
use Rattle.fax_sip.specs.declared.name.Name.{Name}
use Rattle.fax_sip.specs.declared.name.Name.TheVariants.{Allow, Contact, ContentType}
use Rattle.fax_user_agent.specs.declared.offering.Credential.{Credential}

abbrev pub credential_lines : Option Credential → List (Name × List ℕ)
credential_lines None = []
credential_lines (Some credential) = (credential.name, credential.value.items) ∷ []

abbrev pub invite_lines : List ℕ → Interval → Option Credential → List (Name × List ℕ)
invite_lines contact interval credential = (
  Contact,
  contact,
) ∷ (Allow, codes "INVITE, ACK, CANCEL, BYE, OPTIONS") ∷ [] ++ (interval_lines interval
    ++ (credential_lines credential ++ (ContentType, codes "application/sdp") ∷ []))
