use Rattle.std.proofs.Common.{◌/◌, ◌^◌, nat_eq, ap}
use Rattle.std.proofs.lemmas.Nat.{and_mask}
use Rattle.fax_bits.specs.Bits.{bit}
use Rattle.fax_ifp.proofs.packet.has_bit.Goals as goal

pub returns : goal.returns
unfolding bit
returns c = ap (λ n. nat_eq n 1) (and_mask (c.args.octet / 2 ^ c.args.k) 1)
