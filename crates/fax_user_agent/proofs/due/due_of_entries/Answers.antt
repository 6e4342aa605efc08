use Rattle.std.proofs.Common.{Option, ℕ, subst, sym, take, ◌+◌, arith}
use Rattle.fax_user_agent.specs.Dues.{ComesByAll}
use Rattle.fax_user_agent.proofs.DueLemmas.{comes_by_more}
use Rattle.fax_user_agent.proofs.due.due_of_entries.Goals as goal

pub loop-entry-preserved : goal.loop-entry-preserved
loop-entry-preserved c =
    subst (λ (due : Option ℕ). ComesByAll due (take (c.loop-entry.entry-index + 1) c.args.entries.now)) (sym c.earlier-due.ensures)
    (comes_by_more c.args.entries.now c.loop-entry.entry-index _ c.loop-entry.due c.due_of_stage.result (omega arith) c.loop-entry.invariant c.due_of_stage.ensures)
