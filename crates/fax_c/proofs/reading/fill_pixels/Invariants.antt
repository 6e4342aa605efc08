use Rattle.std.proofs.Common.{◌≡◌, ◌++◌, ◌-◌, ◌*◌, ◌≤◌, length, take, drop, replicate}
use Rattle.fax_bits.specs.Bits.{bits_of}
use Rattle.fax_c.specs.Calls.{pixels_of}
use Rattle.fax_c.proofs.reading.fill_pixels.Given as goal

-- The picture elements of the rows so far, where the last of them are white and not put yet. From there on nothing is
-- changed.
abbrev pub invariant-loop-i : goal.invariant-loop-i
invariant-loop-i g l = record {
  bits : bits_of (take l.white l.pixels ++ replicate (l.filled - l.white) 0) ≡ pixels_of (take l.i l.page.rows);
  filled : l.filled ≡ l.octets * l.i;
  order : l.white ≤ l.filled;
  same : length l.pixels ≡ length l.initial.pixels;
  after : drop l.white l.pixels ≡ drop l.white l.initial.pixels;
}
