use Rattle.fax_queue.proofs.Lives.{waits_are_owed}
use Rattle.fax_queue.proofs.laws.what_waits_is_owed.Goals as goal

pub returns : goal.returns
returns c = waits_are_owed c.pages_are_unique.ensures
