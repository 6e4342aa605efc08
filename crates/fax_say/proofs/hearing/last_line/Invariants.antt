use Rattle.std.proofs.Common.{◌≡◌, ℕ, List, ◌++◌, length}
use Rattle.fax_say.specs.Hearings.{HasBegun}
use Rattle.fax_say.proofs.hearing.last_line.Given as goal

-- the lines before the rest go on
abbrev pub invariant-loop-last : goal.invariant-loop-last
invariant-loop-last l = record {
  front : List ℕ;
  all : l.octets ≡ front ++ l.rest;
  begun : (before : List ℕ) → HasBegun l.fn.lines before → HasBegun l.lines (before ++ front);
}

abbrev pub decreases-loop-last : goal.decreases-loop-last
decreases-loop-last l = length l.rest
