use Rattle.fax_redial.proofs.Befalling.{begun_along}
use Rattle.fax_redial.proofs.laws.tries_are_of_their_jobs.Goals as goal

pub returns : goal.returns
returns c = begun_along
