use Rattle.fax_config.proofs.UnlikeLemmas.{none_weaker, unlike_from_distinct}
use Rattle.fax_config.proofs.unlike.repeated_value.Goals as goal

pub returns : goal.returns
returns g c = none_weaker c.repeated.result (unlike_from_distinct g.K.PartialEq.eq g.met.K.Eq.laws c.args.keys.now) c.repeated.ensures.distinct
