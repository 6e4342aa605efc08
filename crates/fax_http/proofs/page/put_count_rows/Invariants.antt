use Rattle.std.proofs.Common.{◌≡◌, ◌++◌, flat_map, take}
use Rattle.fax_http.specs.Pages.{count_row}
use Rattle.fax_http.proofs.page.put_count_rows.Given as goal

-- the rows so far are written
abbrev pub invariant-loop-count : goal.invariant-loop-count
invariant-loop-count l = l.octets.items ≡ l.initial.octets.items ++ flat_map count_row (take l.count-index l.counts)
