use Rattle.std.proofs.Common.{inl, inr, arith}
use Rattle.fax_bits.proofs.ZerosLemmas.{window_says, high_zeros}
use Rattle.fax_pagestore.proofs.FrontLemmas.{no_one_in_window}
use Rattle.fax_pagestore.proofs.reading.zeros_in_window.Goals as goal

pub overflow_sub-result-2 : goal.overflow_sub-result-2
overflow_sub-result-2 c =
    high_zeros c.window.result c.args.reader.now.left (window_says c.window.result c.args.reader.now.left c.window.ensures.word c.window.ensures.bits)

pub returns-clause-one : goal.returns-clause-one
returns-clause-one c = λ few. elim (window_says c.window.result c.args.reader.now.left c.window.ensures.word c.window.ensures.bits) [
  | inl none ↦ absurd (omega (arith, none.all, few))
  | inr one ↦ (one.rest, one.bits_are)
]

pub returns-clause-none : goal.returns-clause-none
returns-clause-none c = λ all begins. elim (window_says c.window.result c.args.reader.now.left c.window.ensures.word c.window.ensures.bits) [
  | inl none ↦ no_one_in_window c.args.reader.now.left none.zeros begins
  | inr one ↦ absurd (omega (arith, one.few, all))
]
