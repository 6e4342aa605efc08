use Rattle.std.proofs.Common.{◌≡◌, ◌-◌, false, length, replicate}
use Rattle.fax_bits.specs.Reading.{Passes}
use Rattle.fax_bits.proofs.reader.BitReader.skip_zeros.Given as goal

abbrev pub invariant-loop-self : goal.invariant-loop-self
invariant-loop-self l = record { start : l.start ≡ l.fn.self.passed; passes : Passes l.fn.self l.self (replicate (l.self.passed - l.start) false) }

abbrev pub decreases-loop-self : goal.decreases-loop-self
decreases-loop-self l = length l.self.left
