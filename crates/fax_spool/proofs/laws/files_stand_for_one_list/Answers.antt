use Rattle.fax_spool.proofs.Headers.{unique}
use Rattle.fax_spool.proofs.laws.files_stand_for_one_list.Goals as goal

pub returns : goal.returns
returns c = unique
