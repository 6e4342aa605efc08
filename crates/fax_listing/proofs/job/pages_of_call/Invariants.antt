use Rattle.std.proofs.Common.{◌≡◌, ◌≤◌, take}
use Rattle.std.specs.List.{count_by}
use Rattle.fax_spool.specs.Torn.{same_call}
use Rattle.fax_listing.proofs.job.pages_of_call.Given as goal

abbrev pub invariant-loop-other : goal.invariant-loop-other
invariant-loop-other l = (l.count ≡ count_by (same_call l.page) (take l.other-index l.pages)) × (l.count ≤ l.other-index)
