use Rattle.std.proofs.Common.{Err, ap}
use Rattle.fax_pagestore.specs.declared.fault.PageFault.{PageFault}
use Rattle.fax_pagestore.proofs.ReaderLemmas.{no_page, no_fault, same_fault}
use Rattle.fax_pagestore.proofs.reader.PageReader.check.Goals as goal

pub returns-in-None-clause-fails : goal.returns-in-None-clause-fails
returns-in-None-clause-fails g c = λ octets fault has fails.
    absurd (no_fault c.args.self.now.format c.args.self.now.coding octets fault c.args.self.now.rows (c.in-None.ensures.judged octets has) fails)

pub returns-in-Some-clause-reads : goal.returns-in-Some-clause-reads
returns-in-Some-clause-reads g c = λ octets page has means.
    absurd (no_page c.args.self.now.format c.args.self.now.coding octets c.in-Some.fault page (c.in-Some.ensures.judged octets has) means)

pub returns-in-Some-clause-fails : goal.returns-in-Some-clause-fails
returns-in-Some-clause-fails g c = λ octets fault has fails.
    ap (λ (f : PageFault). Err f) (same_fault c.args.self.now.format c.args.self.now.coding octets c.in-Some.fault fault (c.in-Some.ensures.judged octets has) fails)
