use Rattle.std.proofs.Common.{◌≡◌, ℕ, List, ◌*◌, ◌++◌, length, take, All}
use Rattle.fax_pbm.specs.Pictures.{IsRaster}
use Rattle.fax_pbm.proofs.writing.push_rows.Given as goal

-- the raster of the rows so far
abbrev pub invariant-loop-i : goal.invariant-loop-i
invariant-loop-i g l = record {
  raster : List ℕ;
  octets : l.octets.items ≡ l.fn.octets.items ++ raster;
  of_rows : (size : ℕ) → All (λ row. length row ≡ 8 * size) (g.S.RowStore.rows l.rows) → IsRaster size (take l.i (g.S.RowStore.rows l.rows)) raster;
}
