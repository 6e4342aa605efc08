use Rattle.std.proofs.Common.{◌≡◌, drop}
use Rattle.std.specs.List.{list_any}
use Rattle.fax_spool.specs.Torn.{is_of, is_of_any}
use Rattle.fax_spool.proofs.torn.is_torn.Given as goal

-- one of those still to come has the page, where one has
abbrev pub invariant-loop-name : goal.invariant-loop-name
invariant-loop-name l = list_any (is_of l.page) (drop l.name-index l.calls) ≡ is_of_any l.calls l.page
