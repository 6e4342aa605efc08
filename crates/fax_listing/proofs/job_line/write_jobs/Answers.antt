use Rattle.std.proofs.Common.{◌∙◌, ◌++◌, List, ℕ, ap, sym, arith}
use Rattle.fax_listing.specs.Lines.{job_line}
use Rattle.fax_listing.proofs.JobTexts.{one_line_more}
use Rattle.fax_listing.proofs.job_line.write_jobs.Goals as goal

pub loop-job-preserved : goal.loop-job-preserved
loop-job-preserved c =
    one_line_more job_line c.args.jobs.now c.loop-job.job-index c.job-item.result c.loop-job.text.items c.in_ok-line.line.items c.extend_from_slice.new.self.items
    (omega arith) (sym c.job-item.is) c.loop-job.invariant c.in_ok-line.ensures
    (c.in_ok-extend_from_slice.ensures.items ∙ ap (λ (l : List ℕ). c.loop-job.text.items ++ l) c.as_slice.ensures.value)
