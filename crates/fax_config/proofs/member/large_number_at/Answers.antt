use Rattle.std.proofs.Common.{Some, w64, refl, ◌∙◌, sym, ap, rules}
use mir.Val.{SFits}
use Rattle.std.proofs.lemmas.Int.{to_z-of_z}
use Rattle.toml.specs.Data.{integer}
use Rattle.fax_config.proofs.MemberLemmas.{seen_none, seen_some, is_integer}
use Rattle.fax_config.proofs.member.large_number_at.Goals as goal

pub returns-in_default-clause-ok : goal.returns-in_default-clause-ok
returns-in_default-clause-ok c = seen_none _ c.value_at.result _ c.in_default.is c.value_at.ensures

pub returns-in-Some-in_large_range-clause-ok : goal.returns-in-Some-in_large_range-clause-ok
returns-in-Some-in_large_range-clause-ok c =
    let here = seen_some _ c.value_at.result _ c.in-Some.value c.in-Some.is c.value_at.ensures in
    let n = is_integer _ _ (sym c.as_integer.ensures ∙ c.in-Some-as_integer.is) in
    let fits : SFits w64 c.in-Some-as_integer.number = search rules in
    here ∙ ap (λ d. Some d) n ∙ ap (λ z. Some (integer z)) (sym (to_z-of_z w64 _ fits) ∙ c.in-Some-in_large_range.ensures.same)
