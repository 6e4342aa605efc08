use Rattle.fax_spool.proofs.Doing.{one_without_an_ok}
use Rattle.fax_spool.proofs.laws.one_call_at_most_is_done_without_an_ok.Goals as goal

pub returns : goal.returns
returns g c = one_without_an_ok _ _ _
