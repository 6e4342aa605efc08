use Rattle.std.proofs.Common.{◌≡◌, ◌+◌, ◌++◌, take, vec_len, vec_capacity}
use Rattle.fax_runcodes.proofs.row.turning.push_all.Given as goal

abbrev pub invariant-loop-place : goal.invariant-loop-place
invariant-loop-place l = record {
  items : l.changes.items ≡ l.fn.changes.items ++ take l.place-index l.places;
  count : vec_len l.changes ≡ vec_len l.fn.changes + l.place-index;
  room : vec_capacity l.changes ≡ vec_capacity l.fn.changes;
}
