use Rattle.fax_queue.proofs.BookLaws.{servers_lose_none}
use Rattle.fax_queue.proofs.laws.book.servers_lose_none.Goals as goal

pub returns : goal.returns
returns c = servers_lose_none c.jobs_are_cut.ensures c.jobs_have_states.ensures c.none_is_lost.ensures
