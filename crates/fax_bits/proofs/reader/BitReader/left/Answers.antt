use Rattle.std.proofs.Common.{length-drop, arith}
use Rattle.fax_bits.proofs.BitsLemmas.{length-bits_of}
use Rattle.fax_bits.proofs.reader.BitReader.left.Goals as goal

pub returns : goal.returns
returns c = rw (← c.self.view_is) (simp (length-drop, length-bits_of) (omega (arith, c.self.invariant)))
