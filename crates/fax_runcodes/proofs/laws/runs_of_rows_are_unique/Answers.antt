use Rattle.fax_runcodes.proofs.RowLaws.{runs_one}
use Rattle.fax_runcodes.proofs.laws.runs_of_rows_are_unique.Goals as goal

pub returns : goal.returns
returns c = runs_one
