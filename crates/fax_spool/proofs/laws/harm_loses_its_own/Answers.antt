use Rattle.fax_spool.proofs.Harming.{harm_loses_its_own}
use Rattle.fax_spool.proofs.laws.harm_loses_its_own.Goals as goal

pub returns : goal.returns
returns c = harm_loses_its_own
