use Rattle.std.proofs.Common.{◌≡◌, ◌+◌, ◌*◌, ◌≤◌, ◌++◌, length, take, drop, replicate, false}
use Rattle.fax_bits.specs.Bits.{word_bits}
use Rattle.fax_bits.specs.Reading.{Place, Passes}
use Rattle.fax_mhcode.specs.Pairs.{GoesOn}
use Rattle.fax_mhcode.proofs.PairLemmas.{at_top}
use Rattle.fax_mhcode.proofs.pairs.paint_pairs.Given as goal

abbrev pub invariant-loop : goal.invariant-loop
invariant-loop l = record {
  goes_on : (here there : Place) → take 56 here.left ≡ word_bits 56 l.fn.window → Passes here there (take l.bits here.left)
      → GoesOn here l.fn.line l.fn.left there l.line l.left;
  rest_is : word_bits 64 l.rest ≡ drop l.bits (at_top (word_bits 56 l.fn.window)) ++ replicate l.bits false;
  left : length l.line + l.left ≡ length l.fn.line + l.fn.left;
  bits : l.bits ≤ 11 * l.counter;
  fewer : l.left + l.counter ≤ l.fn.left;
}
