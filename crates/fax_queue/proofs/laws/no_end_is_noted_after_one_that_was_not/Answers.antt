use Rattle.fax_queue.proofs.Refusing.{none_is_noted}
use Rattle.fax_queue.proofs.laws.no_end_is_noted_after_one_that_was_not.Goals as goal

pub returns : goal.returns
returns c = none_is_noted
