use Rattle.std.proofs.Common.{length, arith}
use Rattle.fax_pagestore.proofs.EndsLemmas.{NoEol-end, none_after}
use Rattle.fax_pagestore.proofs.ends.after_eols.Goals as goal

pub returns-then-len-from-clause-none : goal.returns-then-len-from-clause-none
returns-then-len-from-clause-none c = none_after c.args.octets.now (length c.args.octets.now) (length c.args.octets.now) 255 (omega arith) (omega arith) (NoEol-end c.args.octets.now)
