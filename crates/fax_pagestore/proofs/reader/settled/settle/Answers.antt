use Rattle.fax_runcodes.specs.Widths.{elements_of}
use Rattle.fax_pagestore.proofs.ReaderLemmas.{fault_stays}
use Rattle.fax_pagestore.proofs.reader.settled.settle.Goals as goal

pub returns-in-Fault-clause-settled : goal.returns-in-Fault-clause-settled
returns-in-Fault-clause-settled g c = λ octets more read.
    fault_stays c.args.coding (elements_of c.args.width) octets more (g.S.RowStore.rows c.args.rows.now) c.args.halt.now.tag c.args.reader.now.left c.in-Fault.fault c.requires.few read
    (c.stays.ensures.stays c.if-stays.true)
