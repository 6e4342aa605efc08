use Rattle.fax_desk.proofs.LawLemmas.{named}
use Rattle.fax_desk.proofs.laws.orders_go_to_the_named_line.Goals as goal

pub returns : goal.returns
returns c = named
