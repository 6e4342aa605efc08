use Rattle.fax_queue.proofs.BookTurns.{turns_tell_both}
use Rattle.fax_queue.proofs.laws.book.turns_tell_both.Goals as goal

pub returns : goal.returns
returns c = turns_tell_both c.confirms_the_newest.ensures c.jobs_are_of_their_calls.ensures c.written_pages_mean.ensures
