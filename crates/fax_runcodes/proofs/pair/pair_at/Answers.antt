use Rattle.std.proofs.Common.{arith}
use Rattle.fax_runcodes.proofs.PairRules.{pair_at_found, pair_at_none}
use Rattle.fax_runcodes.proofs.pair.pair_at.Goals as goal

pub returns-then-pair-eq0-clause-none : goal.returns-then-pair-eq0-clause-none
returns-then-pair-eq0-clause-none c =
    λ h. pair_at_none c.args.window c.first_eleven-pair.result (omega arith) c.first_eleven-pair.ensures (omega arith)

pub returns-else-pair-eq0-clause-some : goal.returns-else-pair-eq0-clause-some
returns-else-pair-eq0-clause-some c =
    pair_at_found c.args.window c.first_eleven-pair.result (omega arith) c.first_eleven-pair.ensures (omega arith)
