use Rattle.std.proofs.Common.{◌≡◌, drop}
use Rattle.std.specs.List.{list_any}
use Rattle.fax_spool.specs.Torn.{same_call}
use Rattle.fax_listing.proofs.job.is_first.Given as goal

-- one of those still to come is of the call, where one is
abbrev pub invariant-loop-other : goal.invariant-loop-other
invariant-loop-other l = list_any (same_call l.page) (drop l.other-index l.before) ≡ list_any (same_call l.page) l.before
