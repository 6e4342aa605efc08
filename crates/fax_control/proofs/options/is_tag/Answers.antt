use Rattle.std.proofs.Common.{subst}
use Rattle.fax_control.specs.Words.{HasNoSpace}
use Rattle.fax_control.proofs.SpaceLemmas.{has_space}
use Rattle.fax_control.proofs.options.is_tag.Goals as goal

pub returns-in-Some-clause-no : goal.returns-in-Some-clause-no
returns-in-Some-clause-no c = λ _ tag.
    has_space c.in-Some.field-0.0.now c.in-Some.field-0.1.now (subst HasNoSpace c.in-Some.ensures.some.0 tag.2)
