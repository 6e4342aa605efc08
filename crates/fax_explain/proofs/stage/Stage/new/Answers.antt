use Rattle.std.proofs.Common.{subst}
use Rattle.fax_gateway.specs.declared.settings.Settings.{Settings}
use Rattle.fax_gateway.specs.Setups.{AreSet}
use Rattle.fax_descriptions.specs.declared.lane.Lane.TheVariants.{FromCaller, FromCalled}
use Rattle.fax_explain.proofs.StagedLemmas.{outside_new}
use Rattle.fax_explain.proofs.stage.Stage.new.Goals as goal

pub returns-clause-new : goal.returns-clause-new
returns-clause-new c = λ setup writes set. record {
  reached = c.in_ok-gateway.ensures.reached setup writes (subst (λ (s : Settings). AreSet setup s) c.in_ok-gateway.ensures.settings set);
  hears = tt;
  hears_job = tt;
  caller_outside = outside_new FromCaller _ c.new.ensures.ear c.new.ensures.hearing;
  called_outside = outside_new FromCalled _ c.new-2.ensures.ear c.new-2.ensures.hearing;
  gives = (c.new.ensures.ours, c.new.ensures.giving);
  gives_job = (c.new-2.ensures.ours, c.new-2.ensures.giving);
  pages = c.new.ensures.pages;
}
