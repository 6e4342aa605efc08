use Rattle.std.proofs.Common.{◌≡◌, ◌≤◌, length, take}
use Rattle.std.specs.List.{list_any}
use Rattle.fax_spool.specs.Torn.{is_previous}
use Rattle.fax_spool.proofs.torn.has_previous.Given as goal

abbrev pub decreases-loop-end : goal.decreases-loop-end
decreases-loop-end l = l.end

-- one of those still to come is, where one is
abbrev pub invariant-loop-end : goal.invariant-loop-end
invariant-loop-end l = (l.end ≤ length l.records) × (list_any (is_previous l.page) (take l.end l.records) ≡ list_any (is_previous l.page) l.records)
