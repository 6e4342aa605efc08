use Rattle.std.proofs.Common.{◌∙◌, ap, arith}
use Rattle.fax_bits.specs.Bits.{bits_of}
use Rattle.fax_bits.proofs.BitsLemmas.{bits_of-nil}
use Rattle.fax_pagestore.proofs.writer.waiting.Waiting.none.Goals as goal

pub invariant_of-result : goal.invariant_of-result
invariant_of-result c = (omega arith, omega arith, (0, omega arith, ap bits_of c.new.ensures.items ∙ bits_of-nil))
