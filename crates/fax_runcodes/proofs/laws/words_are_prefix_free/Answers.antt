use Rattle.fax_runcodes.proofs.WordLaws.{words_prefix_free}
use Rattle.fax_runcodes.proofs.laws.words_are_prefix_free.Goals as goal

pub returns : goal.returns
returns c = words_prefix_free
