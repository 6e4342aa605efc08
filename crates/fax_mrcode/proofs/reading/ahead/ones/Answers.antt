use Rattle.std.proofs.Common.{◌-◌, ◌^◌, arith}
use Rattle.fax_mrcode.proofs.ZerosLemmas.{ones_shown}
use Rattle.fax_mrcode.proofs.reading.ahead.ones.Goals as goal

pub returns-clause-ones : goal.returns-clause-ones
returns-clause-ones c = ones_shown c.args.ahead.window (2 ^ 64 - 1 - c.args.ahead.window) (omega arith) c.min.result (omega (arith, c.min.ensures))
