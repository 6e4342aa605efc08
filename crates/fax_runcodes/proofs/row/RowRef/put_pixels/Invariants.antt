use Rattle.std.proofs.Common.{◌≡◌, ◌*◌, length, take, map}
use Rattle.fax_bits.specs.Bits.{bits_of}
use Rattle.fax_runcodes.specs.declared.Colour.TheVariants.{White}
use Rattle.fax_runcodes.specs.Pixels.{pixel}
use Rattle.fax_runcodes.specs.Painted.{painted}
use Rattle.fax_runcodes.proofs.row.RowRef.put_pixels.Given as goal

-- the black runs so far, and all else white
abbrev pub invariant-loop-i : goal.invariant-loop-i
invariant-loop-i l = record {
  so_far : bits_of l.octets ≡ map pixel (painted White 0 (take (2 * l.i) l.self-inside.places.now) l.self-inside.elements);
  same_room : length l.octets ≡ length l.initial.octets;
}
