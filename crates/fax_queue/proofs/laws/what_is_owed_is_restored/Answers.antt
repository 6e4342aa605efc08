use Rattle.fax_queue.proofs.Lives.{owed_is_restored}
use Rattle.fax_queue.proofs.laws.what_is_owed_is_restored.Goals as goal

pub returns : goal.returns
returns c = owed_is_restored c.pages_are_unique.ensures
