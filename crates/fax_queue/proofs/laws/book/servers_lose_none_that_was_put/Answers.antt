use Rattle.fax_queue.proofs.BookPut.{servers_lose_none_that_was_put}
use Rattle.fax_queue.proofs.laws.book.servers_lose_none_that_was_put.Goals as goal

pub returns : goal.returns
returns c = servers_lose_none_that_was_put c.jobs_are_cut.ensures c.jobs_have_states.ensures
