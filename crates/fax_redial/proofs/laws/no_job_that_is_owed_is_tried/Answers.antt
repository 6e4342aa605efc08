use Rattle.fax_redial.proofs.Befalling.{not_owed_along}
use Rattle.fax_redial.proofs.laws.no_job_that_is_owed_is_tried.Goals as goal

pub returns : goal.returns
returns c = not_owed_along
