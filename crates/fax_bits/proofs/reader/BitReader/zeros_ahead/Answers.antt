use Rattle.std.proofs.Common.{ℕ, ◌-◌, min, ap, ◌∙◌}
use Rattle.std.specs.Int.Count.{count_leading_zeros}
use Rattle.fax_bits.proofs.ZerosLemmas.{window_says, zeros_begin, zeros_stop, high_zeros}
use Rattle.fax_bits.proofs.reader.BitReader.zeros_ahead.Goals as goal

pub overflow_sub-zeros : goal.overflow_sub-zeros
overflow_sub-zeros c =
    high_zeros c.window.result c.args.self.now.left (window_says c.window.result c.args.self.now.left c.window.ensures.word c.window.ensures.bits)

pub returns-clause-zeros : goal.returns-clause-zeros
returns-clause-zeros c =
    zeros_begin c.window.result c.min.result c.args.self.now.left (window_says c.window.result c.args.self.now.left c.window.ensures.word c.window.ensures.bits)
    (c.min.ensures ∙ ap (λ (k : ℕ). min (count_leading_zeros 64 c.window.result - 8) k) c.known.ensures)

pub returns-clause-stops : goal.returns-clause-stops
returns-clause-stops c =
    zeros_stop c.window.result c.min.result c.args.self.now.left (window_says c.window.result c.args.self.now.left c.window.ensures.word c.window.ensures.bits)
    (c.min.ensures ∙ ap (λ (k : ℕ). min (count_leading_zeros 64 c.window.result - 8) k) c.known.ensures)
