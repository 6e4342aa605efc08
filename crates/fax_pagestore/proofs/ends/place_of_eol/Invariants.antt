use Rattle.fax_pagestore.proofs.FirstEolLemmas.{NoneSoFar}
use Rattle.fax_pagestore.proofs.ends.place_of_eol.Given as goal

abbrev pub invariant-loop-place : goal.invariant-loop-place
invariant-loop-place l = NoneSoFar l.octets l.place l.zeros
