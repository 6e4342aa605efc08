use Rattle.std.proofs.Common.{lit<}
use Rattle.std.proofs.lemmas.Str.Pattern.{split_parts}
use Rattle.fax_control.proofs.SpaceLemmas.{some_part, none_part}
use Rattle.fax_control.proofs.spaces.cut.Goals as goal

pub returns-clause-some : goal.returns-clause-some
returns-clause-some c = some_part c.split_once.result _ _ (split_parts 32 c.args.text.now c.split_once.result c.split_once.ensures.cases (lit< tt))

pub returns-clause-none : goal.returns-clause-none
returns-clause-none c = none_part c.split_once.result _ _ (split_parts 32 c.args.text.now c.split_once.result c.split_once.ensures.cases (lit< tt))
