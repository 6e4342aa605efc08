use Rattle.fax_queue.proofs.Lives.{owed_stays}
use Rattle.fax_queue.proofs.laws.what_is_owed_stays.Goals as goal

pub returns : goal.returns
returns c = owed_stays
