use Rattle.fax_pagestore.proofs.ReadOrFail as lemmas
use Rattle.fax_pagestore.proofs.laws.pages_are_read_or_fail.Goals as goal

pub returns : goal.returns
returns c = lemmas.pages_are_read_or_fail
