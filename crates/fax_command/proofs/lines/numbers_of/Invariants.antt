use Rattle.std.proofs.Common.{◌≡◌, ◌<◌, ◌^◌, map, All}
use Rattle.std.specs.Fmt.{decimal}
use Rattle.fax_command.proofs.lines.numbers_of.Given as goal

-- the numbers so far are those of the parts so far
abbrev pub invariant-loop-part : goal.invariant-loop-part
invariant-loop-part l =
    (goal.iterator-loop-part).can_next l.part-iterator ×
    (goal.iterator-loop-part).is_finite l.part-iterator ×
    (map decimal l.numbers.items ≡ map (λ part. part.now) l.yielded) ×
    All (λ n. n < 2 ^ 16) l.numbers.items
