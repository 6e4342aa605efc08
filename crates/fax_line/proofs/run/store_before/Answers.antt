use Rattle.std.proofs.Common.{inl, refl, sym, ◌∙◌}
use Rattle.fax_line.proofs.Early.{free_line, free_so}
use Rattle.fax_line.proofs.StoredRunning.{stores_none}
use Rattle.fax_line.proofs.run.store_before.Goals as goal

pub returns-then-waits-clause-free : goal.returns-then-waits-clause-free
returns-then-waits-clause-free g c = free_line c.args.store.now c.args.line c.store_waiting.new.lines.lines c.store_waiting.ensures.free

pub returns-else-waits-clause-sees : goal.returns-else-waits-clause-sees
returns-else-waits-clause-sees g c = inl refl

pub returns-else-waits-clause-stores : goal.returns-else-waits-clause-stores
returns-else-waits-clause-stores g c = stores_none g.row.K.Denot g.K.RunStore.is_same g.K.PageStore.puts g.K.RunStore.notes g.K.RunStore.ends c.args.lines.now.lines c.args.store.now

pub returns-else-waits-clause-free : goal.returns-else-waits-clause-free
returns-else-waits-clause-free g c = free_so c.args.store.now c.args.line c.args.lines.now.lines (sym c.waits.ensures ∙ c.if-waits.false)
