use Rattle.std.proofs.Common.{◌≡◌, ◌-◌, ◌*◌, ◌++◌, length}
use Rattle.fax_pbm.specs.Pictures.{rows_of}
use Rattle.fax_pbm.proofs.reading.read_rows.Given as goal

-- the rows so far, and those that are left
abbrev pub invariant-loop : goal.invariant-loop
invariant-loop l = record {
  rows : l.rows ++ rows_of l.size (l.height - l.counter) l.rest ≡ rows_of l.size l.height l.raster;
  left : length l.rest ≡ (l.height - l.counter) * l.size;
}
