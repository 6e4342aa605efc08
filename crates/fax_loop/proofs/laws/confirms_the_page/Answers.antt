use Rattle.fax_loop.proofs.Faithfully as lemmas
use Rattle.fax_loop.proofs.laws.confirms_the_page.Goals as goal

pub returns : goal.returns
returns c = lemmas.confirms_the_page
