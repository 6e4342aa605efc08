use Rattle.fax_queue.proofs.Waits.{none_is_forgotten}
use Rattle.fax_queue.proofs.laws.ended_jobs_forget_no_other_page.Goals as goal

pub returns : goal.returns
returns c = none_is_forgotten
