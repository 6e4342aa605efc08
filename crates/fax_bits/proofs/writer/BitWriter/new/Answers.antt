use Rattle.std.proofs.Common.{ap, ◌∙◌}
use Rattle.fax_bits.specs.Bits.{bits_of}
use Rattle.fax_bits.proofs.BitsLemmas.{bits_of-nil}
use Rattle.fax_bits.proofs.writer.BitWriter.new.Goals as goal

pub returns : goal.returns
returns c = c.of_octets.ensures ∙ ap bits_of (c.from_vec.ensures ∙ c.new.ensures.items) ∙ bits_of-nil
