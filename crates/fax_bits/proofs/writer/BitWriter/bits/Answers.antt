use Rattle.std.proofs.Common.{length-append, arith}
use Rattle.fax_bits.proofs.BitsLemmas.{length-bits_of, length-word_bits}
use Rattle.fax_bits.proofs.writer.BitWriter.bits.Goals as goal

pub returns : goal.returns
returns c = rw (← c.self.view_is) (simp (length-append, length-bits_of, length-word_bits) (omega (arith, c.self.inside.octets.ok.0)))
