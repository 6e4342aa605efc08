use Rattle.fax_tiff.proofs.MeaningLemmas.{fails_from, reads_from}
use Rattle.fax_tiff.proofs.reading.read_tiff.Goals as goal

pub returns-clause-reads : goal.returns-clause-reads
returns-clause-reads c = reads_from c.read_all.result (λ v. v.items) c.args.octets.now c.read_all.ensures.ok c.read_all.ensures.fault

pub returns-clause-fails : goal.returns-clause-fails
returns-clause-fails c = fails_from c.read_all.result (λ v. v.items) c.args.octets.now c.read_all.ensures.ok c.read_all.ensures.fault
