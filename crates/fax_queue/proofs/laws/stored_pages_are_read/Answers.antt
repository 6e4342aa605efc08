use Rattle.fax_queue.proofs.Lives.{stored_pages_are_read}
use Rattle.fax_queue.proofs.laws.stored_pages_are_read.Goals as goal

pub returns : goal.returns
returns c = stored_pages_are_read c.written_pages_mean.ensures
