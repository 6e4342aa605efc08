use Rattle.std.proofs.Common.{◌<◌, ◌≤◌, drop, get_or, length}
use Rattle.fax_pagestore.proofs.EndsLemmas.{NoEol}
use Rattle.fax_pagestore.proofs.ends.after_counted.Given as goal

-- no EOL stands from here on
abbrev pub invariant-loop-place : goal.invariant-loop-place
invariant-loop-place l = (l.from ≤ l.place) × (l.place < length l.octets) × NoEol (drop l.place l.octets) (get_or l.octets l.place 0)
