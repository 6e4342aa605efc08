use Rattle.std.proofs.Common.{rules, arith, ◌≡◌, ◌<◌, length, Some, ◌∙◌, ap}
use Rattle.std.proofs.lemmas.Grind.{common_steps}
use Rattle.toml.specs.View.{array_view}
use Rattle.fax_config.specs.Faults.{count_items}
use Rattle.fax_config.proofs.LineLemmas.{count_view}
use Rattle.fax_config.proofs.MemberLemmas.{seen_some, is_array}
use Rattle.fax_config.proofs.retry.waits_of.Goals as goal

pub returns-in-Some-as_array-clause-fault : goal.returns-in-Some-as_array-clause-fault
returns-in-Some-as_array-clause-fault c =
    let here = seen_some _ c.value_at.result _ c.in-Some.value c.in-Some.is c.value_at.ensures in
    let inner = seen_some _ c.as_array.result _ c.in-Some-as_array.items c.in-Some-as_array.is c.as_array.ensures in
    let long : 16 < length c.in-Some-as_array.items.now.items = first_of (search rules, omega arith, omega (arith, c.in-Some-as_array.items.now.ok.0), grind (arith, common_steps)) in
    let many : count_items (array_view c.in-Some-as_array.items.now) ≡ length c.in-Some-as_array.items.now.items = count_view c.in-Some-as_array.items.now.items in
    (array_view c.in-Some-as_array.items.now, here ∙ ap (λ d. Some d) (is_array _ _ inner), omega (arith, many, long))
