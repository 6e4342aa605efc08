use Rattle.std.proofs.Common.{◌≡◌, ◌++◌, map, take}
use Rattle.fax_config.specs.Configurations.{names_of_redials}
use Rattle.fax_config.proofs.unlike.names_with.Given as goal

-- those so far
abbrev pub invariant-loop-redial : goal.invariant-loop-redial
invariant-loop-redial l = map (λ name. name.now) l.all.items ≡ map (λ name. name.now) l.initial.all.items ++ names_of_redials (take l.redial-index l.redials)
