use Rattle.std.proofs.Common.{length}
use Rattle.fax_pagestore.proofs.FrontLemmas.{FrontSoFar}
use Rattle.fax_pagestore.proofs.reading.pass_front.Given as goal

abbrev pub invariant-loop-coding : goal.invariant-loop-coding
invariant-loop-coding l = FrontSoFar l.fn.reader l.reader

abbrev pub decreases-loop-coding : goal.decreases-loop-coding
decreases-loop-coding l = length l.reader.left
