use Rattle.std.proofs.Common.{sym, arith}
use Rattle.fax_undelivered.proofs.CardBack.{no_outcome}
use Rattle.fax_undelivered.proofs.card.outcome_of.Goals as goal

pub returns-in_default : goal.returns-in_default
returns-in_default c = sym (no_outcome c.args.number (omega arith))
