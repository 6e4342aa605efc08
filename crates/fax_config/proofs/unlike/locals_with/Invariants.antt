use Rattle.std.proofs.Common.{◌≡◌, ◌++◌, take}
use Rattle.fax_config.specs.Configurations.{locals_of_redials}
use Rattle.fax_config.proofs.unlike.locals_with.Given as goal

-- those so far
abbrev pub invariant-loop-redial : goal.invariant-loop-redial
invariant-loop-redial l = l.all.items ≡ l.initial.all.items ++ locals_of_redials (take l.redial-index l.redials)
