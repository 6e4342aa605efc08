use Rattle.std.proofs.Common.{arith}
use Rattle.std.proofs.lemmas.List.{get_or_default}
use Rattle.fax_mrcode.specs.declared.reading.verticals.TheConstants.{VERTICAL_WORDS, NOT_VERTICAL}
use Rattle.fax_mrcode.proofs.reading.verticals.word_at.Goals as goal

pub returns : goal.returns
returns c = get_or_default VERTICAL_WORDS c.args.index _ NOT_VERTICAL (omega arith)
