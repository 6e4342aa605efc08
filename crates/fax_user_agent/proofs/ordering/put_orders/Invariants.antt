use Rattle.std.proofs.Common.{◌≡◌, ◌++◌, map, flat_map, take}
use Rattle.fax_user_agent.specs.Orders.{said_by, word_of}
use Rattle.fax_user_agent.proofs.ordering.put_orders.Given as goal

-- what was said so far is to be done
abbrev pub invariant-loop-entry : goal.invariant-loop-entry
invariant-loop-entry l = map word_of l.orders.items ≡ map word_of l.initial.orders.items ++ flat_map (λ entry. said_by entry.line) (take l.entry-index l.entries)
