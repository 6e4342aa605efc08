use Rattle.std.proofs.Common.{◌≡◌, ◌++◌, take}
use Rattle.fax_explain.proofs.copies.add_rows.Given as goal

-- so many rows were added
abbrev pub invariant-loop-i : goal.invariant-loop-i
invariant-loop-i l = l.rows ≡ l.fn.rows ++ take l.i l.others
