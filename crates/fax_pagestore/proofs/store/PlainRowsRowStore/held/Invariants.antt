use Rattle.std.proofs.Common.{◌≡◌, ◌*◌, ◌≤◌, take}
use Rattle.fax_pagestore.specs.Octets.{octets_of_rows}
use Rattle.fax_pagestore.proofs.store.PlainRowsRowStore.held.Given as goal

-- the rows so far are counted
abbrev pub invariant-loop-row : goal.invariant-loop-row
invariant-loop-row l = record {
  counted : l.held ≡ octets_of_rows (take l.row-index l.self.rows.items);
  few : l.held ≤ 4880 * l.row-index;
}
