use Rattle.std.proofs.Common.{List, ◌++◌, ◌∙◌, ap, subst}
use Rattle.fax_command.proofs.PutLemmas.{OnOk-then}
use Rattle.fax_descriptions.specs.Tellings.{Description}
use Rattle.fax_explain.specs.Given.{TellsGiven}
use Rattle.fax_explain.specs.Ladders.{with_why}
use Rattle.fax_explain.proofs.stage.Stage.give_calling.Goals as goal

pub returns-clause-told : goal.returns-clause-told
returns-clause-told c = OnOk-then c.append.result c.append.ensures (λ is ear is_ear arrived h. (
  c.give.new.tale,
  subst (λ (first : List Description). TellsGiven ear arrived c.args.given.now.calling first c.give.new.tale) c.new-after.ensures (c.in_ok-found.ensures.told ear is_ear arrived h),
  is ∙ ap (λ (own : List Description). c.args.scene.now.tale ++ own) (c.in_ok-tell_refusal.ensures ∙ ap (with_why c.args.given.now.refused) c.in_ok-tell_page.ensures),
))
