use Rattle.std.proofs.Common.{◌≡◌, ◌++◌, flat_map, take}
use Rattle.fax_dialogs.specs.Within.{route_part}
use Rattle.fax_dialogs.proofs.asking.put_routes.Given as goal

-- the addresses so far are written
abbrev pub invariant-loop-route : goal.invariant-loop-route
invariant-loop-route l = l.octets.items ≡ l.initial.octets.items ++ flat_map route_part (take l.route-index l.routes)
