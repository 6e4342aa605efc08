use Rattle.std.proofs.Common.{◌≡◌, ◌++◌, take, map}
use Rattle.fax_bits.specs.Bits.{bits_of}
use Rattle.fax_pbm.specs.Pictures.{element}
use Rattle.fax_pbm.proofs.painting.paint_octets.Given as goal

-- the elements of the octets so far
abbrev pub invariant-loop-octet : goal.invariant-loop-octet
invariant-loop-octet l = l.row ≡ l.initial.row ++ map element (bits_of (take l.octet-index l.octets))
