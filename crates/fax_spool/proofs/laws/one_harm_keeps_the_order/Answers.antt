use Rattle.fax_spool.proofs.Harming.{one_harm_keeps_the_order}
use Rattle.fax_spool.proofs.laws.one_harm_keeps_the_order.Goals as goal

pub returns : goal.returns
returns c = one_harm_keeps_the_order
