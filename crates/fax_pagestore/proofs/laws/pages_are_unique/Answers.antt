use Rattle.fax_pagestore.proofs.PageLaws.{pages_are_unique}
use Rattle.fax_pagestore.proofs.laws.pages_are_unique.Goals as goal

pub returns : goal.returns
returns c = pages_are_unique
