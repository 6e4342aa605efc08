use Rattle.std.proofs.Common.{drop, sym, subst, arith}
use Rattle.fax_bits.specs.Bits.{bits_of}
use Rattle.fax_pagestore.specs.Readers.{IsReadUpTo}
use Rattle.fax_pagestore.proofs.FirstEolLemmas.{none_passed}
use Rattle.fax_pagestore.proofs.reader.rows.unread_from.Goals as goal

pub returns-in-None-clause-read : goal.returns-in-None-clause-read
returns-in-None-clause-read c = λ coding width all rows read.
    subst (λ t. IsReadUpTo coding width all rows t (drop c.max.result (bits_of c.args.octets.now))) (sym c.in-None.is)
    (none_passed coding width all c.args.octets.now rows c.args.used c.bits_before_eol.result c.max.result (omega (arith, c.max.ensures)) c.bits_before_eol.ensures.none
    (subst (λ t. IsReadUpTo coding width all rows t (drop c.args.used (bits_of c.args.octets.now))) c.in-None.is read))
