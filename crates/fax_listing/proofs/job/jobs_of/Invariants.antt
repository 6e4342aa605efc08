use Rattle.std.proofs.Common.{◌≡◌, ◌++◌, drop, take}
use Rattle.fax_listing.specs.Jobs.{jobs_after, jobs_of}
use Rattle.fax_listing.proofs.job.jobs_of.Given as goal

-- the jobs so far, and those of the pages still to come
abbrev pub invariant-loop-i : goal.invariant-loop-i
invariant-loop-i l = l.jobs.items ++ jobs_after l.torn l.whole l.pages (take l.i l.pages) (drop l.i l.pages) ≡ jobs_of l.torn l.whole l.pages
