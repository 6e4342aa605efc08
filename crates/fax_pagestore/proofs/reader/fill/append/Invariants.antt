use Rattle.std.proofs.Common.{◌≡◌, ◌-◌, length, take}
use Rattle.std.specs.Vec.{vec_len}
use Rattle.fax_pagestore.proofs.FillLemmas.{AddedUpTo}
use Rattle.fax_pagestore.proofs.reader.fill.append.Given as goal

abbrev pub decreases-loop-place : goal.decreases-loop-place
decreases-loop-place l = length l.piece - l.place

-- those so far are added
abbrev pub invariant-loop-place : goal.invariant-loop-place
invariant-loop-place l = record {
  added : AddedUpTo l.fn.zeros l.piece l.fn.octets.items l.octets.items l.place l.count;
  len : l.len ≡ vec_len l.fn.octets;
  begins : take l.len l.octets.items ≡ l.fn.octets.items;
}
