use Rattle.fax_queue.proofs.BookLaws.{servers_are_lives}
use Rattle.fax_queue.proofs.laws.book.servers_are_lives.Goals as goal

pub returns : goal.returns
returns c = servers_are_lives c.jobs_are_cut.ensures c.jobs_have_states.ensures
