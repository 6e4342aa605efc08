use Rattle.std.proofs.Common.{rules}
use Rattle.fax_config.specs.declared.keys.Level.TheVariants as levels
use Rattle.fax_config.proofs.trunks.account_of.Goals as goal

pub returns-in_err-user-clause-fault : goal.returns-in_err-user-clause-fault
returns-in_err-user-clause-fault c = let here = c.in_err-user.ensures.fault levels.Trunk in search rules

pub returns-in_err-password_file-clause-fault : goal.returns-in_err-password_file-clause-fault
returns-in_err-password_file-clause-fault c = let here = c.in_err-password_file.ensures.fault levels.Trunk in search rules

pub returns-in_err-registers-clause-fault : goal.returns-in_err-registers-clause-fault
returns-in_err-registers-clause-fault c = let here = c.in_err-registers.ensures.fault levels.Trunk in search rules
