use Rattle.fax_queue.proofs.BookLaws.{queue_is_left}
use Rattle.fax_queue.proofs.laws.book.queue_is_left.Goals as goal

pub returns : goal.returns
returns c = queue_is_left c.jobs_are_cut.ensures c.jobs_have_states.ensures
