use Rattle.fax_mrcode.proofs.WrittenLaws.{written_line_is_spelt}
use Rattle.fax_mrcode.proofs.laws.written_lines_are_spelt.Goals as goal

pub returns : goal.returns
returns c = written_line_is_spelt
