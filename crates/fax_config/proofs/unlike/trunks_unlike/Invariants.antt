use Rattle.std.proofs.Common.{◌≡◌, map, take}
use Rattle.fax_config.specs.SipConfigurations.{names_of_trunks}
use Rattle.fax_config.proofs.unlike.trunks_unlike.Given as goal

-- the names so far
abbrev pub invariant-loop-trunk : goal.invariant-loop-trunk
invariant-loop-trunk l = map (λ name. name.now) l.names.items ≡ names_of_trunks (take l.trunk-index l.trunks)
