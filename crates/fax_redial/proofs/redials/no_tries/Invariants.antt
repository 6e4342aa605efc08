use Rattle.std.proofs.Common.{◌≡◌, All, None, length}
use Rattle.fax_redial.proofs.redials.no_tries.Given as goal

abbrev pub invariant-loop : goal.invariant-loop
invariant-loop g l = record {
  count : length l.tries.items ≡ l.counter;
  each : All (λ held. held ≡ None) l.tries.items;
}
