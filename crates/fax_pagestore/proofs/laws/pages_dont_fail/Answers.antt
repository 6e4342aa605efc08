use Rattle.fax_pagestore.proofs.PageLaws.{pages_dont_fail}
use Rattle.fax_pagestore.proofs.laws.pages_dont_fail.Goals as goal

pub returns : goal.returns
returns c = pages_dont_fail
