use Rattle.std.proofs.Common.{subst}
use Rattle.std.proofs.lemmas.Option.{IfSome_then}
use Rattle.fax_pagestore.specs.Readers.{IsReadUpTo}
use Rattle.fax_pagestore.proofs.ReaderLemmas.{front_read}
use Rattle.fax_pagestore.proofs.reader.rows.begin.Goals as goal

pub returns-in-None-clause-read : goal.returns-in-None-clause-read
returns-in-None-clause-read c =
    IfSome_then c.pass_front.result c.pass_front.ensures.found
    (λ first found width octets rows read.
    front_read c.args.coding width octets rows first c.args.reader.now c.pass_front.new.reader
    (subst (λ t. IsReadUpTo c.args.coding width octets rows t c.args.reader.now.left) c.in-None.is read) found)
