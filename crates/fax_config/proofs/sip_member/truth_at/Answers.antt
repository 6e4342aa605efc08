use Rattle.std.proofs.Common.{Some, refl, ◌∙◌, sym, ap, inl, inr}
use Rattle.fax_config.proofs.MemberLemmas.{seen_none, seen_some}
use Rattle.fax_config.proofs.SipLemmas.{is_boolean}
use Rattle.fax_config.proofs.sip_member.truth_at.Goals as goal

pub returns-in_default-clause-ok : goal.returns-in_default-clause-ok
returns-in_default-clause-ok c = inl (seen_none _ c.value_at.result _ c.in_default.is c.value_at.ensures, refl)

pub returns-in-Some-as_bool-clause-ok : goal.returns-in-Some-as_bool-clause-ok
returns-in-Some-as_bool-clause-ok c =
    let here = seen_some _ c.value_at.result _ c.in-Some.value c.in-Some.is c.value_at.ensures in
    let truth = is_boolean _ _ (sym c.as_bool.ensures ∙ c.in-Some-as_bool.is) in
    inr (here ∙ ap (λ d. Some d) truth)
