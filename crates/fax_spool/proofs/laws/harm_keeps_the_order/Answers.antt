use Rattle.fax_spool.proofs.Harming.{harm_keeps_the_order}
use Rattle.fax_spool.proofs.laws.harm_keeps_the_order.Goals as goal

pub returns : goal.returns
returns c = harm_keeps_the_order
