use Rattle.std.proofs.Common.{◌≡◌, ◌++◌, length, map}
use Rattle.std.specs.List.{All}
use Rattle.fax_spool.specs.Records.{blocks, body, IsShort}
use Rattle.fax_spool.proofs.file.bodies_of.Given as goal

abbrev pub decreases-loop-item : goal.decreases-loop-item
decreases-loop-item l = length l.rest

-- the octets so far, and the blocks of the records still to come; and where these are short, all are
abbrev pub invariant-loop-item : goal.invariant-loop-item
invariant-loop-item l =
    (l.octets.items ++ blocks (map (λ v. v.items) l.rest) ≡ body l.first ++ blocks (map (λ v. v.items) l.others))
    × (All IsShort (map (λ v. v.items) l.rest) → All IsShort (map (λ v. v.items) l.others))
