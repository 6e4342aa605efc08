use Rattle.std.proofs.Common.{◌≡◌, drop}
use Rattle.fax_spool.specs.StoredPages.{known_without}
use Rattle.fax_spool.proofs.spool.forget_all_ended.Given as goal

-- those that the jobs to come had are to be forgotten still
abbrev pub invariant-loop-job : goal.invariant-loop-job
invariant-loop-job l = known_without (drop l.job-index l.ended) l.pages.items ≡ known_without l.ended l.initial.pages.items
