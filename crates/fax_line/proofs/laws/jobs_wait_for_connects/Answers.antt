use Rattle.fax_line.proofs.Connected.{jobs_wait_for_connects}
use Rattle.fax_line.proofs.laws.jobs_wait_for_connects.Goals as goal

pub returns : goal.returns
returns c = jobs_wait_for_connects c.calls_begin_where_placed.ensures c.gives_in_placed_calls.ensures
