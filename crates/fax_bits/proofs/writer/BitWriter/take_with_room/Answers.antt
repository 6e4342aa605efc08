use Rattle.std.proofs.Common.{refl}
use Rattle.fax_bits.specs.Bits.{bits_of, word_bits}
use Rattle.fax_bits.proofs.writer.BitWriter.take_with_room.Goals as goal

pub returns-clause-empty : goal.returns-clause-empty
unfolding bits_of word_bits
returns-clause-empty c = rw (c.replace.ensures.after, c.new-none.ensures.items) refl
