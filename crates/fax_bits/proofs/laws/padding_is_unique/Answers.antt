use Rattle.fax_bits.proofs.PaddingLemmas.{padding_one}
use Rattle.fax_bits.proofs.laws.padding_is_unique.Goals as goal

pub returns : goal.returns
returns c = padding_one
