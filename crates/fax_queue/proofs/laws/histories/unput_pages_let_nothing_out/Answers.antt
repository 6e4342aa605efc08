use Rattle.fax_queue.proofs.PastLegs.{unput_pages_let_nothing_out}
use Rattle.fax_queue.proofs.laws.histories.unput_pages_let_nothing_out.Goals as goal

pub returns : goal.returns
returns c = unput_pages_let_nothing_out
