use Rattle.fax_spool.proofs.Passed.{lost_pages_tear_their_call}
use Rattle.fax_spool.proofs.laws.lost_pages_tear_their_call.Goals as goal

pub returns : goal.returns
returns c = lost_pages_tear_their_call
