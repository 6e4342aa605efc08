use Rattle.fax_http.specs.declared.page.TheConstants.{SECTION_END}
use Rattle.fax_http.specs.Pages.{jobs_part, jobs_table}
use Rattle.fax_http.proofs.PartLemmas.{two}
use Rattle.fax_http.proofs.page.put_jobs.Goals as goal

pub returns : goal.returns
unfolding jobs_part
returns c =
    two c.put.result c.args.octets.now.items (jobs_table c.args.jobs.now) SECTION_END.now
    _ _
    c.in_ok-put_jobs_table.ensures c.put.ensures
