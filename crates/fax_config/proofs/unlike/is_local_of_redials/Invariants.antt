use Rattle.std.proofs.Common.{take}
use Rattle.fax_config.specs.Configurations.{IsAtNoRedial}
use Rattle.fax_config.proofs.unlike.is_local_of_redials.Given as goal

-- none of the redial lines so far is there
abbrev pub invariant-loop-redial : goal.invariant-loop-redial
invariant-loop-redial l = IsAtNoRedial (take l.redial-index l.redials) l.address
