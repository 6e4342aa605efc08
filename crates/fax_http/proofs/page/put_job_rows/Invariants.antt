use Rattle.std.proofs.Common.{◌≡◌, ◌++◌, flat_map, take}
use Rattle.fax_http.specs.Pages.{job_row}
use Rattle.fax_http.proofs.page.put_job_rows.Given as goal

-- the rows so far are written
abbrev pub invariant-loop-job : goal.invariant-loop-job
invariant-loop-job l = l.octets.items ≡ l.initial.octets.items ++ flat_map job_row (take l.job-index l.jobs)
