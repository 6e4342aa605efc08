use Rattle.std.proofs.Common.{◌≡◌, ◌++◌, flat_map}
use Rattle.fax_listing.specs.Shown.{char_shown}
use Rattle.fax_listing.proofs.shown.write_shown.Given as goal

abbrev pub invariant-loop-c : goal.invariant-loop-c
invariant-loop-c l = l.out.items ≡ l.initial.out.items ++ flat_map char_shown l.yielded
