use Rattle.std.proofs.Common.{ap, ◌∙◌, ◌++◌, ◌+◌}
use Rattle.fax_bits.specs.Bits.{word_bits}
use Rattle.fax_bits.proofs.WritingLemmas.{joined_sum, word_bits_sum}
use Rattle.fax_bits.proofs.WindowLemmas.{joined_below}
use Rattle.fax_bits.proofs.writer.joined.Goals as goal

pub returns-clause-bits : goal.returns-clause-bits
returns-clause-bits c = λ k.
    ap (word_bits (k + c.args.n)) (joined_sum c.args.n c.args.before c.low_bits.result c.requires.few c.requires.before c.low_bits.ensures.below)
    ∙ word_bits_sum k c.args.n c.args.before c.low_bits.result c.low_bits.ensures.below
    ∙ ap (λ b. word_bits k c.args.before ++ b) (c.low_bits.ensures.bits ∙ ap (word_bits c.args.n) c.from.ensures)

pub returns-clause-below : goal.returns-clause-below
returns-clause-below c = λ k lt.
    rw (joined_sum c.args.n c.args.before c.low_bits.result c.requires.few c.requires.before c.low_bits.ensures.below)
    (joined_below c.args.before k c.args.n c.low_bits.result lt c.low_bits.ensures.below)
