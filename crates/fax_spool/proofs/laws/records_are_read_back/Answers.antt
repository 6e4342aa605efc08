use Rattle.fax_spool.proofs.Told.{tells_one_list}
use Rattle.fax_spool.proofs.laws.records_are_read_back.Goals as goal

pub returns : goal.returns
returns c = tells_one_list
