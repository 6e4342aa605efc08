use Rattle.std.proofs.Common.{◌≡◌, ◌++◌, drop}
use Rattle.fax_undelivered.proofs.undelivered.records_of.Given as goal

-- the records so far, and those of the pages still to come
abbrev pub invariant-loop-page : goal.invariant-loop-page
invariant-loop-page l = l.records.items ++ drop l.page-index l.pages ≡ l.pages
