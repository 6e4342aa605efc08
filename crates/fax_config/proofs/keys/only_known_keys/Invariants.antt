use Rattle.std.proofs.Common.{All, Contains, string_bytes}
use Rattle.fax_config.specs.Members.{known_keys}
use Rattle.fax_config.proofs.keys.only_known_keys.Given as goal

-- the keys so far are known
abbrev pub invariant-loop-key : goal.invariant-loop-key
invariant-loop-key l = All (λ key. Contains (known_keys l.level) (string_bytes key.now)) l.yielded
