use Rattle.std.proofs.Common.{◌≡◌, ◌-◌, ◌++◌, map, length, ◌+◌}
use Rattle.fax_bits.specs.Bits.{word_bits}
use Rattle.fax_pbm.specs.Pictures.{element}
use Rattle.fax_pbm.proofs.painting.paint_bits.Given as goal

-- the elements of the bits so far, and those that are left
abbrev pub invariant-loop-i : goal.invariant-loop-i
invariant-loop-i l = record {
  bits : l.row ++ map element (word_bits (8 - l.i) l.octet) ≡ l.initial.row ++ map element (word_bits 8 l.octet);
  long : length l.row ≡ length l.initial.row + l.i;
}
