use Rattle.std.proofs.Common.{rules}
use Rattle.fax_config.specs.declared.keys.Level.TheVariants as levels
use Rattle.fax_config.proofs.routes.route_over.Goals as goal

pub returns-in_err-prefix-clause-fault : goal.returns-in_err-prefix-clause-fault
returns-in_err-prefix-clause-fault c = let here = c.in_err-prefix.ensures.fault levels.Route in search rules

pub returns-in_err-strip-clause-fault : goal.returns-in_err-strip-clause-fault
returns-in_err-strip-clause-fault c = let here = c.in_err-strip.ensures.fault levels.Route in search rules

pub returns-in_err-add-clause-fault : goal.returns-in_err-add-clause-fault
returns-in_err-add-clause-fault c = let here = c.in_err-add.ensures.fault levels.Route in search rules
