use Rattle.fax_bits.proofs.BitsLemmas.{bits_of_at}
use Rattle.fax_bits.proofs.laws.bits_stand_in_order.Goals as goal

pub returns : goal.returns
returns c = bits_of_at
