use Rattle.std.proofs.Common.{Some, ◌∙◌, ap}
use Rattle.fax_config.proofs.MemberLemmas.{seen_none, seen_some, is_table}
use Rattle.fax_config.proofs.member.table_if_at.Goals as goal

pub returns-in-Some-as_table-clause-ok : goal.returns-in-Some-as_table-clause-ok
returns-in-Some-as_table-clause-ok c =
    let here = seen_some _ c.value_at.result _ c.in-Some.value c.in-Some.is c.value_at.ensures in
    let inner = seen_some _ c.as_table.result _ c.in-Some-as_table.inner c.in-Some-as_table.is c.as_table.ensures in
    here ∙ ap (λ d. Some d) (is_table _ _ inner)

pub returns-in_default-clause-ok : goal.returns-in_default-clause-ok
returns-in_default-clause-ok c = seen_none _ c.value_at.result _ c.in_default.is c.value_at.ensures
