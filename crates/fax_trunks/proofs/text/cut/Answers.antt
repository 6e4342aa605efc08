use Rattle.std.proofs.lemmas.Str.Pattern.{split_parts}
use Rattle.fax_trunks.proofs.TextLemmas.{cut_at_parts}
use Rattle.fax_trunks.proofs.text.cut.Goals as goal

pub returns : goal.returns
returns c =
    cut_at_parts c.args.mark c.args.text.now c.split_once.result
    (split_parts c.args.mark c.args.text.now c.split_once.result c.split_once.ensures.cases c.requires)
