use Rattle.std.proofs.Common.{inl}
use Rattle.fax_sip_service.proofs.ServiceLemmas.{refused_so}
use Rattle.fax_sip_service.proofs.service.SipService.keep.Goals as goal

pub returns-in-None : goal.returns-in-None
returns-in-None c = inl c.in-None.ensures.kept

pub returns-in-Some : goal.returns-in-Some
returns-in-Some c =
    refused_so c.args.now c.args.said c.in-Some.refused c.args.self.now _ _ _ c.in-Some.ensures.refused.0 c.in-Some.ensures.refused.1 c.note.ensures c.refuse.ensures
