use Rattle.fax_loop.proofs.LinkedPages as lemmas
use Rattle.fax_loop.proofs.laws.confirms_the_page_over_links.Goals as goal

pub returns : goal.returns
returns c = lemmas.confirms_the_page_over c.jobs_have_states.ensures
