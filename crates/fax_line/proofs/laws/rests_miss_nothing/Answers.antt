use Rattle.fax_line.proofs.Missing.{miss_nothing}
use Rattle.fax_line.proofs.laws.rests_miss_nothing.Goals as goal

pub returns : goal.returns
returns c = miss_nothing
