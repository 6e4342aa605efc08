use Rattle.std.proofs.Common.{length}
use Rattle.fax_runcodes.proofs.RunLemmas.{RunSoFar}
use Rattle.fax_runcodes.proofs.run.read_words.Given as goal

abbrev pub invariant-loop-word : goal.invariant-loop-word
invariant-loop-word l = RunSoFar l.colour l.fn.reader l.reader l.run

abbrev pub decreases-loop-word : goal.decreases-loop-word
decreases-loop-word l = length l.reader.left
