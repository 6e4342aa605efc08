use Rattle.fax_mhcode.proofs.WrittenOnce.{written_line_one}
use Rattle.fax_mhcode.proofs.laws.written_lines_are_unique.Goals as goal

pub returns : goal.returns
returns c = written_line_one
