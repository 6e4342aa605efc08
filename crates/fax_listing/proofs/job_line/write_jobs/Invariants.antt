use Rattle.std.proofs.Common.{◌≡◌, flat_map, take}
use Rattle.fax_listing.specs.Lines.{job_line}
use Rattle.fax_listing.proofs.job_line.write_jobs.Given as goal

abbrev pub invariant-loop-job : goal.invariant-loop-job
invariant-loop-job l = l.text.items ≡ flat_map job_line (take l.job-index l.jobs)
