use Rattle.std.proofs.Common.{take}
use Rattle.fax_user_agent.specs.Dues.{ComesByAll}
use Rattle.fax_user_agent.proofs.due.due_of_entries.Given as goal

-- the moment so far is no later than what is due in the calls so far
abbrev pub invariant-loop-entry : goal.invariant-loop-entry
invariant-loop-entry l = ComesByAll l.due (take l.entry-index l.entries)
