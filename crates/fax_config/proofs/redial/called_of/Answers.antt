use Rattle.toml.specs.View.{table_view}
use Rattle.fax_config.specs.declared.keys.Level.TheVariants as levels
use Rattle.fax_config.proofs.redial.called_of.Goals as goal

pub returns-in_ok-name_to_tell-in-Err-clause-fault : goal.returns-in_ok-name_to_tell-in-Err-clause-fault
returns-in_ok-name_to_tell-in-Err-clause-fault c = (c.in_ok-name_to_tell-in-Err.ensures, c.in-Err.ensures.fault levels.Redial)

pub returns-in_ok-name_to_tell-in-Err-leg_of-clause-fault : goal.returns-in_ok-name_to_tell-in-Err-leg_of-clause-fault
returns-in_ok-name_to_tell-in-Err-leg_of-clause-fault c =
    (c.in_ok-name_to_tell-in-Err-leg_of.ensures, (table_view c.in-Ok.inner.now, c.in-Ok.ensures.ok, c.in-Err-leg_of.ensures.fault))
