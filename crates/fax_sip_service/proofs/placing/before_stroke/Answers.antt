use Rattle.std.proofs.Common.{sym, ◌∙◌}
use Rattle.fax_sip_service.proofs.NumberLemmas.{before_some, before_none}
use Rattle.fax_sip_service.proofs.placing.before_stroke.Goals as goal

pub returns-in-Some : goal.returns-in-Some
returns-in-Some c = before_some _ c.args.text.now c.in-Some.end (sym c.stroke_in.ensures ∙ c.in-Some.is)

pub returns-in-None : goal.returns-in-None
returns-in-None c = before_none _ c.args.text.now (sym c.stroke_in.ensures ∙ c.in-None.is)
