use Rattle.std.proofs.Common.{inr}
use Rattle.fax_line.specs.Pacing.{SawStored}
use Rattle.fax_line.proofs.StoredRunning.{settles_so}
use Rattle.fax_line.proofs.run.end_stored_turn.Goals as goal

pub returns-then-slot-eq0-clause-ends : goal.returns-then-slot-eq0-clause-ends
returns-then-slot-eq0-clause-ends g c = (
  c.set_aside.new.self.lines,
  c.set_aside.ensures.aside,
  c.set_aside.ensures.went,
  inr (settles_so g.row.K.Denot g.K.RunStore.is_same g.K.PageStore.puts g.K.RunStore.notes g.K.RunStore.ends (λ (kept : g.row.K.Denot). SawStored g.P.Pace.sees_stored kept c.settle.new.pace) c.set_aside.new.self.lines
      c.settle.new.lines.lines c.args.store.now c.settle.new.store c.settle.ensures.settles),
)
