use Rattle.std.proofs.Common.{arith}
use Rattle.fax_pagestore.proofs.FirstEolLemmas.{none_begins}
use Rattle.fax_pagestore.proofs.ends.bits_before_eol.Goals as goal

pub returns-clause-none : goal.returns-clause-none
returns-clause-none c =
    none_begins c.args.octets.now c.place_of_eol.result c.min.result (omega (arith, c.place_of_eol.ensures.within)) (omega arith) c.place_of_eol.ensures.none
