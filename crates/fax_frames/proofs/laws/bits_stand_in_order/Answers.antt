use Rattle.fax_frames.proofs.BitOrder.{dis_bits_stand_in_order, bits_stand_in_order}
use Rattle.fax_frames.proofs.laws.bits_stand_in_order.Goals as goal

pub returns : goal.returns
returns c = record { dis = dis_bits_stand_in_order; bits = bits_stand_in_order }
