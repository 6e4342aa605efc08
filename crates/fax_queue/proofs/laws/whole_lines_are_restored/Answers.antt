use Rattle.fax_queue.proofs.Calls.{whole_lines_are_restored}
use Rattle.fax_queue.proofs.laws.whole_lines_are_restored.Goals as goal

pub returns : goal.returns
returns c = whole_lines_are_restored
