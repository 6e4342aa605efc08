use Rattle.std.proofs.Common.{ℕ, List, subst}
use Rattle.toml.specs.View.{table_view}
use Rattle.fax_config.specs.declared.keys.Level.TheVariants as levels
use Rattle.fax_config.specs.Members.{IsTableAt}
use Rattle.fax_config.proofs.reading.leg_of_line.Goals as goal

pub returns-in_ok-name_to_tell-in-Err-clause-fault : goal.returns-in_ok-name_to_tell-in-Err-clause-fault
returns-in_ok-name_to_tell-in-Err-clause-fault c = (c.in_ok-name_to_tell-in-Err.ensures, c.in-Err.ensures.fault levels.Line)

pub returns-in_ok-name_to_tell-in-Err-leg_of-clause-fault : goal.returns-in_ok-name_to_tell-in-Err-leg_of-clause-fault
returns-in_ok-name_to_tell-in-Err-leg_of-clause-fault c =
    let inner = table_view c.in-Ok.inner.now in
    let there = subst (λ (key : List ℕ). IsTableAt key (table_view c.args.table.now) (table_view c.in-Ok.inner.now)) c.name.ensures c.in-Ok.ensures.ok in
    (c.in_ok-name_to_tell-in-Err-leg_of.ensures, (inner, there, c.in-Err-leg_of.ensures.fault))
