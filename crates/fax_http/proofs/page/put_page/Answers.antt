use Rattle.fax_http.specs.declared.page.TheConstants.{TOP}
use Rattle.fax_http.specs.Pages.{counts_part, jobs_part, lines_part, page_octets, state_part}
use Rattle.fax_http.specs.Undelivered.{undelivered_part}
use Rattle.fax_http.proofs.PartLemmas.{six}
use Rattle.fax_http.proofs.page.put_page.Goals as goal

pub returns : goal.returns
unfolding page_octets
returns c =
    six c.put_counts.result c.args.octets.now.items TOP.now (state_part c.args.view.now.health) (lines_part c.args.view.now.lines.now c.args.view.now.others) (jobs_part c.args.view.now.jobs.now) (undelivered_part c.args.view.now.undelivered.now) (counts_part c.args.view.now.counts.now)
    _ _ _ _ _ _
    c.in_ok-put.ensures c.in_ok-put_state.ensures c.in_ok-put_lines.ensures c.in_ok-put_jobs.ensures c.in_ok-put_undelivered.ensures c.put_counts.ensures
