use Rattle.std.proofs.Common.{rules, tests}
use Rattle.std.proofs.lemmas.Fn.{filter_same}
use Rattle.fax_sip_service.proofs.service.let_go.Goals as goal

pub returns : goal.returns
returns c = filter_same _ _ _ (λ x b q k. search (rules, tests)) _ _ c.retain.ensures.filtered
