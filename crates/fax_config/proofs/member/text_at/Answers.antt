use Rattle.std.proofs.Common.{Some, ◌∙◌, ap}
use Rattle.fax_config.proofs.MemberLemmas.{seen_none, seen_some, is_string}
use Rattle.fax_config.proofs.member.text_at.Goals as goal

pub returns-in_default-clause-ok : goal.returns-in_default-clause-ok
returns-in_default-clause-ok c = seen_none _ c.value_at.result _ c.in_default.is c.value_at.ensures

pub returns-in-Some-as_str-clause-ok : goal.returns-in-Some-as_str-clause-ok
returns-in-Some-as_str-clause-ok c =
    let here = seen_some _ c.value_at.result _ c.in-Some.value c.in-Some.is c.value_at.ensures in
    let text = seen_some _ c.as_str.result _ c.in-Some-as_str.text c.in-Some-as_str.is c.as_str.ensures in
    here ∙ ap (λ d. Some d) (is_string _ _ text)
