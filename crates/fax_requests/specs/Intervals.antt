-- What an INVITE of ours says of its session's interval (RFC 4028, 7.1 and 7.4): at least the least one that was told, and else the one that the session has.
use Rattle.std.specs.Prelude.{ℕ, List, [], ◌∷◌, max, codes, decimal}
use Rattle.fax_sip.specs.declared.name.Name.{Name}
use Rattle.fax_sip.specs.declared.name.Name.TheVariants.{MinSe, SessionExpires, Supported}
use Rattle.fax_requests.specs.declared.interval.Interval.{Interval}

abbrev pub interval_lines : Interval → List (Name × List ℕ)
interval_lines interval = (Supported, codes "timer") ∷ (
  SessionExpires,
  decimal (max interval.current interval.least),
) ∷ (MinSe, decimal interval.least) ∷ []
