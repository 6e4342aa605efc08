use Rattle.fax_redial.proofs.Befalling.{apart_along}
use Rattle.fax_redial.proofs.laws.no_job_is_tried_twice.Goals as goal

pub returns : goal.returns
returns c = apart_along
