use Rattle.std.proofs.Common.{◌≡◌, ◌++◌, length}
use Rattle.fax_sip.specs.Answers.{copied}
use Rattle.fax_sip.specs.Texts.{lines_of}
use Rattle.fax_sip.proofs.answering.put_copies.Given as goal

-- what is written, and the header lines of the name that are left
abbrev pub invariant-loop-value : goal.invariant-loop-value
invariant-loop-value l = l.octets.items ++ copied l.name (lines_of l.rest) ≡ l.initial.octets.items ++ copied l.name (lines_of l.lines)

abbrev pub decreases-loop-value : goal.decreases-loop-value
decreases-loop-value l = length l.rest
