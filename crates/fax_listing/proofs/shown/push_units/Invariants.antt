use Rattle.std.proofs.Common.{◌≡◌, ◌++◌, flat_map, take}
use Rattle.fax_listing.specs.Shown.{unit_shown}
use Rattle.fax_listing.proofs.shown.push_units.Given as goal

abbrev pub invariant-loop-unit : goal.invariant-loop-unit
invariant-loop-unit l = l.out.items ≡ l.initial.out.items ++ flat_map unit_shown (take l.unit-index l.units)
