use Rattle.std.proofs.Common.{arith}
use Rattle.std.proofs.Math.Pow.{pow-lt}
use Rattle.fax_trunks.proofs.BitLemmas.{none_left}
use Rattle.fax_trunks.proofs.network.first_bits.Goals as goal

pub returns-then-free-ge-BITS : goal.returns-then-free-ge-BITS
returns-then-free-ge-BITS c = none_left c.args.bits c.args.free (omega arith) c.if-free-ge-BITS.true

pub pow-requires : goal.pow-requires
pow-requires c = pow-lt {i = c.args.free} {j = 128} c.if-free-ge-BITS.false
