use Rattle.std.proofs.Common.{◌≡◌, take, replicate}
use Rattle.fax_pagestore.proofs.reader.fill.zeros_in_front.Given as goal

-- those so far are 0
abbrev pub invariant-loop-place : goal.invariant-loop-place
invariant-loop-place l = take l.place l.octets ≡ replicate l.place 0
