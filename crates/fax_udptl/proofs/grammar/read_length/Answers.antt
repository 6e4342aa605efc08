use Rattle.std.proofs.Common.{arith}
use Rattle.fax_udptl.proofs.grammar.read_length.Goals as goal

pub overflow_add-result : goal.overflow_add-result
overflow_add-result c = omega (arith, c.from-2.ensures, c.from-3.ensures, c.if-first-ge192.false)

pub overflow_mul-result : goal.overflow_mul-result
overflow_mul-result c = omega (arith, c.from-2.ensures, c.if-first-ge192.false)
