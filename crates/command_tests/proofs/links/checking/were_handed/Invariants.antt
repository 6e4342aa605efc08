use Rattle.std.proofs.Common.{take}
use Rattle.std.specs.Prelude.{All, Contains}
use Rattle.fax_loop.specs.Links.{handed_called}
use Rattle.command_tests.proofs.links.checking.were_handed.Given as goal

-- each so far was handed over
abbrev pub invariant-loop-octets : goal.invariant-loop-octets
invariant-loop-octets l = All (Contains (handed_called l.handed)) (take l.octets-index l.came)
