use Rattle.std.proofs.Common.{ap, ◌∙◌}
use Rattle.fax_bits.specs.Bits.{word_bits}
use Rattle.fax_bits.proofs.WritingLemmas.{word_bits_sum}
use Rattle.fax_bits.proofs.WindowLemmas.{joined_below}
use Rattle.fax_runcodes.proofs.WriteLemmas.{then_sum}
use Rattle.fax_runcodes.proofs.tables.written.WrittenWord.then.Goals as goal

pub returns-clause-text : goal.returns-clause-text
returns-clause-text c =
    ap (word_bits _) (then_sum c.args.self.word c.args.self.bits c.args.next.word c.args.next.bits c.requires.few c.requires.below c.requires.next_below)
    ∙ word_bits_sum c.args.self.bits c.args.next.bits c.args.self.word c.args.next.word c.requires.next_below

pub returns-clause-below : goal.returns-clause-below
returns-clause-below c =
    rw (then_sum c.args.self.word c.args.self.bits c.args.next.word c.args.next.bits c.requires.few c.requires.below c.requires.next_below)
    (joined_below c.args.self.word c.args.self.bits c.args.next.bits c.args.next.word c.requires.below c.requires.next_below)
