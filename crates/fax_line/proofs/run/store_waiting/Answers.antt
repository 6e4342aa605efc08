use Rattle.std.proofs.Common.{Option, Some, inr, refl, sym, subst}
use Rattle.fax_line.specs.Pacing.{SawStored}
use Rattle.fax_line.specs.StoredRuns.{StoresIf}
use Rattle.fax_line.proofs.StoredRunning.{settles_so}
use Rattle.fax_line.proofs.run.store_waiting.Goals as goal

pub returns-then-some_wait-clause-stores : goal.returns-then-some_wait-clause-stores
returns-then-some_wait-clause-stores g c =
    let settles = settles_so g.row.K.Denot g.K.RunStore.is_same g.K.PageStore.puts g.K.RunStore.notes g.K.RunStore.ends (λ (kept : g.row.K.Denot). SawStored g.P.Pace.sees_stored kept c.settle.new.pace) c.args.lines.now.lines
    c.settle.new.lines.lines c.in-Some.store c.settle.new.store c.settle.ensures.settles in
    subst (λ (o : Option g.row.K.Denot). StoresIf g.K.RunStore.is_same g.K.PageStore.puts g.K.RunStore.notes g.K.RunStore.ends c.args.lines.now.lines c.settle.new.lines.lines o (Some c.settle.new.store)) (sym c.in-Some.is)
    (c.settle.new.store, refl, inr settles)
