use Rattle.std.proofs.Common.{◌≡◌, take}
use Rattle.std.specs.List.{list_any, IsDistinct}
use Rattle.std.specs.HashSet as bag
use Rattle.fax_config.proofs.unlike.repeated.Given as goal

-- the set has the keys so far, of which no two are alike
abbrev pub invariant-loop-x : goal.invariant-loop-x
invariant-loop-x g l = IsDistinct g.K.PartialEq.eq (take l.x-index l.keys) × ((q : g.row.K.Denot) → bag.contains g.K.PartialEq.eq l.seen q ≡ list_any (g.K.PartialEq.eq q) (take l.x-index l.keys))
