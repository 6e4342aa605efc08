use Rattle.fax_mrcode.proofs.WrittenOnce.{written_line_one}
use Rattle.fax_mrcode.proofs.laws.written_lines_are_unique.Goals as goal

pub returns : goal.returns
returns c = written_line_one
