use Rattle.std.proofs.Common.{arith}
use Rattle.fax_bits.specs.Bits.{word_bits}
use Rattle.fax_mrcode.proofs.VerticalLemmas.{pass_begins, horizontal_begins}
use Rattle.fax_mrcode.proofs.ModeLemmas.{none_begins}
use Rattle.fax_mrcode.proofs.reading.words.word_of.Goals as goal

pub returns-in-1-clause-begins : goal.returns-in-1-clause-begins
returns-in-1-clause-begins c = (word_bits 60 c.args.window, pass_begins c.args.window (omega arith))

pub returns-in-2-clause-begins : goal.returns-in-2-clause-begins
returns-in-2-clause-begins c = (word_bits 61 c.args.window, horizontal_begins c.args.window (omega arith))

pub returns-in_default-clause-none : goal.returns-in_default-clause-none
returns-in_default-clause-none c = λ none mode rest e.
    none_begins c.args.window (omega arith) (c.vertical_word-vertical.ensures.none (omega arith)) (λ one. omega arith) (λ one. omega arith) mode rest e

pub returns-in_default-2-clause-none : goal.returns-in_default-2-clause-none
returns-in_default-2-clause-none c = λ none mode rest e.
    none_begins c.args.window (omega arith) (c.vertical_word-vertical.ensures.none (omega arith)) (λ one. omega arith) (λ one. omega arith) mode rest e
