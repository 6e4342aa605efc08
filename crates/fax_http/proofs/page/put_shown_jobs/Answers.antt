use Rattle.std.proofs.Common.{flat_map}
use Rattle.fax_http.specs.declared.page.TheConstants.{JOBS, ROWS_END}
use Rattle.fax_http.specs.Pages.{job_row, shown_jobs}
use Rattle.fax_http.proofs.PartLemmas.{three}
use Rattle.fax_http.proofs.page.put_shown_jobs.Goals as goal

pub returns : goal.returns
unfolding shown_jobs
returns c =
    three c.put-2.result c.args.octets.now.items JOBS.now (flat_map job_row c.args.jobs.now) ROWS_END.now
    _ _ _
    c.in_ok-put.ensures c.in_ok-put_job_rows.ensures c.put-2.ensures
