use Rattle.fax_pagestore.proofs.WrittenLemmas as lemmas
use Rattle.fax_pagestore.proofs.laws.written_pages_mean.Goals as goal

pub returns : goal.returns
returns c = lemmas.written_pages_mean
