use Rattle.std.proofs.Common.{◌≡◌, ◌++◌, drop, take}
use Rattle.fax_spool.specs.Torn.{torn_among}
use Rattle.fax_spool.proofs.torn.push_torn.Given as goal

-- the calls so far, and those of the records still to come
abbrev pub invariant-loop-i : goal.invariant-loop-i
invariant-loop-i l = l.calls.items ++ torn_among (l.before ++ take l.i l.records) (drop l.i l.records) l.after ≡ l.initial.calls.items ++ torn_among l.before l.records l.after
