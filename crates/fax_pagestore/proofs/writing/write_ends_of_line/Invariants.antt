use Rattle.std.proofs.Common.{◌≡◌, ◌++◌}
use Rattle.fax_pagestore.specs.WrittenPages.{ends_of_line}
use Rattle.fax_pagestore.proofs.writing.write_ends_of_line.Given as goal

abbrev pub invariant-loop : goal.invariant-loop
invariant-loop l = l.writer ≡ l.initial.writer ++ ends_of_line l.coding l.counter
