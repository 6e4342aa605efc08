use Rattle.std.proofs.Common.{arith}
use Rattle.fax_mrcode.proofs.VerticalLemmas.{entry_few, entry_says, entry_none, entry_back}
use Rattle.fax_mrcode.proofs.reading.verticals.vertical_word.Goals as goal

pub returns-clause-few : goal.returns-clause-few
returns-clause-few c = entry_few c.args.window (omega arith) c.word_at.result c.word_at.ensures

pub returns-clause-size : goal.returns-clause-size
returns-clause-size c = λ some. (entry_says c.args.window (omega arith) c.word_at.result c.word_at.ensures some).0

pub returns-clause-begins : goal.returns-clause-begins
returns-clause-begins c = λ some. (entry_says c.args.window (omega arith) c.word_at.result c.word_at.ensures some).1

pub returns-clause-back : goal.returns-clause-back
returns-clause-back c = entry_back c.args.window (omega arith) c.word_at.result c.word_at.ensures

pub returns-clause-none : goal.returns-clause-none
returns-clause-none c = λ none offset rest e. entry_none c.args.window (omega arith) c.word_at.result c.word_at.ensures none offset rest e
