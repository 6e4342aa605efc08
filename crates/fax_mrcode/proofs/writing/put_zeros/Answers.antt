use Rattle.std.proofs.Common.{◌-◌, ◌++◌, List, Bool, ap, ◌∙◌, arith}
use Rattle.std.proofs.lemmas.Nat.{one_shl}
use Rattle.fax_bits.specs.Bits.{word_bits}
use Rattle.fax_mrcode.proofs.WrittenZeros.{ones_word}
use Rattle.fax_mrcode.proofs.writing.put_zeros.Goals as goal

pub returns-clause-bits : goal.returns-clause-bits
returns-clause-bits c =
    c.put.ensures.bits
    ∙ ap (λ m. c.args.writer.now.bits ++ word_bits c.args.steps (m - 1)) (one_shl c.args.steps 32 (omega (arith, c.requires.few)))
    ∙ ap (λ (b : List Bool). c.args.writer.now.bits ++ b) (ones_word c.args.steps)
