use Rattle.std.proofs.Common.{◌≡◌, drop}
use Rattle.std.specs.List.{list_any}
use Rattle.fax_spool.specs.Opened.{same_call}
use Rattle.fax_spool.proofs.opening.has_call.Given as goal

-- one of those still to come is, where one is
abbrev pub invariant-loop-other : goal.invariant-loop-other
invariant-loop-other l = list_any (same_call l.page) (drop l.other-index l.pages) ≡ list_any (same_call l.page) l.pages
