use Rattle.std.proofs.Common.{◌≡◌}
use Rattle.fax_explain.proofs.run.hand_out.Given as goal

-- no page was lost so far
abbrev pub invariant-loop-found : goal.invariant-loop-found
invariant-loop-found g l = g.K.PageStore.failed l.store ≡ g.K.PageStore.failed l.fn.store
