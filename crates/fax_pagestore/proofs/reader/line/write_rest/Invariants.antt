use Rattle.std.proofs.Common.{◌≡◌, ◌++◌, length}
use Rattle.fax_pagestore.proofs.reader.line.write_rest.Given as goal

abbrev pub invariant-loop-reader : goal.invariant-loop-reader
invariant-loop-reader l = l.writer ++ l.reader.left ≡ l.fn.writer ++ l.fn.reader.left

abbrev pub decreases-loop-reader : goal.decreases-loop-reader
decreases-loop-reader l = length l.reader.left
