use Rattle.std.proofs.Common.{[], codes}
use Rattle.fax_http.specs.Cells.{name_cell, shown_cell, text_cell}
use Rattle.fax_http.specs.Pages.{delivered_cell, job_row}
use Rattle.fax_http.proofs.PartLemmas.{six}
use Rattle.fax_http.proofs.page.put_job.Goals as goal

pub returns : goal.returns
unfolding job_row
returns c =
    six c.put-2.result c.args.octets.now.items (codes "<tr>") (name_cell c.args.job.now.line.now) (shown_cell [] c.args.job.now.call) (delivered_cell c.args.job.now.delivered c.args.job.now.pages) (text_cell c.args.job.now.outcome.now) (codes "</tr>\n")
    _ _ _ _ _ _
    c.in_ok-put.ensures c.in_ok-put_name.ensures c.in_ok-put_call_cell.ensures c.in_ok-put_delivered.ensures c.in_ok-put_text_cell.ensures c.put-2.ensures
