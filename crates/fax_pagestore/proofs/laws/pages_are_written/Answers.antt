use Rattle.fax_pagestore.proofs.WrittenOnce as lemmas
use Rattle.fax_pagestore.proofs.laws.pages_are_written.Goals as goal

pub returns : goal.returns
returns c = lemmas.pages_are_written
