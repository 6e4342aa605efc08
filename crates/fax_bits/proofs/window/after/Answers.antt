use Rattle.std.proofs.Common.{◌*◌, ◌%◌, ◌^◌, ◌∙◌, arith}
use Rattle.fax_bits.proofs.BitsLemmas.{word_bits-mod}
use Rattle.fax_bits.proofs.WindowLemmas.{shifted_bits}
use Rattle.fax_bits.proofs.window.after.Goals as goal

pub returns-clause-bits : goal.returns-clause-bits
returns-clause-bits c =
    word_bits-mod 56 56 (c.args.window * 2 ^ c.args.n % 18446744073709551616) (omega arith)
    ∙ word_bits-mod 56 64 (c.args.window * 2 ^ c.args.n) (omega arith)
    ∙ shifted_bits 56 c.args.window c.args.n c.requires.few
