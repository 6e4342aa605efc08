use Rattle.fax_mrcode.proofs.WrittenOnce.{row_is_written}
use Rattle.fax_mrcode.proofs.laws.rows_are_written.Goals as goal

pub returns : goal.returns
returns c = row_is_written
