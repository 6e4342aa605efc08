use Rattle.fax_pagestore.proofs.WrittenOnce as lemmas
use Rattle.fax_pagestore.proofs.laws.written_pages_are_unique.Goals as goal

pub returns : goal.returns
returns c = lemmas.written_pages_are_unique
