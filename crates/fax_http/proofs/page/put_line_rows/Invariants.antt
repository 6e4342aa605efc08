use Rattle.std.proofs.Common.{◌≡◌, ◌++◌, flat_map, take}
use Rattle.fax_http.specs.Pages.{line_row}
use Rattle.fax_http.proofs.page.put_line_rows.Given as goal

-- the rows so far are written
abbrev pub invariant-loop-line : goal.invariant-loop-line
invariant-loop-line l = l.octets.items ≡ l.initial.octets.items ++ flat_map line_row (take l.line-index l.lines)
