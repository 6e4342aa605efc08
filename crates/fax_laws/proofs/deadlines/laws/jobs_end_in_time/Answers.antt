use Rattle.fax_laws.proofs.deadlines.JobsEnd.{jobs_end}
use Rattle.fax_laws.proofs.deadlines.laws.jobs_end_in_time.Goals as goal

pub returns : goal.returns
returns c = jobs_end c.jobs_are_of_their_calls.ensures c.jobs_have_states.ensures
