use Rattle.std.proofs.Common.{append-nil, ap, ◌∙◌}
use Rattle.fax_bits.specs.Bits.{bits_of, word_bits}
use Rattle.fax_bits.proofs.writer.BitWriter.of_octets.Goals as goal

pub returns : goal.returns
unfolding word_bits
returns c = append-nil (bits_of c.into_vec.result.items) ∙ ap bits_of c.into_vec.ensures
