use Rattle.fax_pagestore.proofs.FillLaw as laws
use Rattle.fax_pagestore.proofs.laws.fill_is_free.Goals as goal

pub returns : goal.returns
returns c = laws.fill_is_free
