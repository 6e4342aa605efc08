use Rattle.fax_queue.proofs.BookGoesOn.{servers_begin, servers_go_on}
use Rattle.fax_queue.proofs.laws.book.servers_go_on.Goals as goal

pub returns-clause-begin : goal.returns-clause-begin
returns-clause-begin c = servers_begin

pub returns-clause-go_on : goal.returns-clause-go_on
returns-clause-go_on c = servers_go_on
