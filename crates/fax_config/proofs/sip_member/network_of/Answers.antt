use Rattle.std.proofs.Common.{inl, inr, sym}
use Rattle.fax_config.proofs.MemberLemmas.{seen_none, seen_some, is_string}
use Rattle.fax_config.proofs.sip_member.network_of.Goals as goal

pub returns-in_default-clause-none : goal.returns-in_default-clause-none
returns-in_default-clause-none c = inl (seen_none _ c.as_str.result _ c.in_default.is c.as_str.ensures)

pub returns-in-Ok-clause-some : goal.returns-in-Ok-clause-some
returns-in-Ok-clause-some c =
    let text = seen_some _ c.as_str.result _ c.in-Some.text c.in-Some.is c.as_str.ensures in
    (c.in-Some.text.now, is_string _ _ text, c.in-Ok.ensures.ok)

pub returns-in-Err-clause-none : goal.returns-in-Err-clause-none
returns-in-Err-clause-none c =
    let text = seen_some _ c.as_str.result _ c.in-Some.text c.in-Some.is c.as_str.ensures in
    inr (c.in-Some.text.now, c.in-Err.field-0, is_string _ _ text, c.in-Err.ensures.fault)
