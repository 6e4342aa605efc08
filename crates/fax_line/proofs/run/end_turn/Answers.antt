use Rattle.std.proofs.Common.{Option, Some, refl, sym, subst}
use Rattle.fax_line.specs.Operations.{slot_before}
use Rattle.fax_line.specs.StoredRuns.{TurnEnds}
use Rattle.fax_line.proofs.run.end_turn.Goals as goal

pub returns-in-Some-clause-ends : goal.returns-in-Some-clause-ends
returns-in-Some-clause-ends g c =
    let ends = c.end_stored_turn.ensures.ends in
    subst (λ (o : Option g.row.K.Denot). TurnEnds g.K.RunStore.is_same g.K.PageStore.puts g.K.RunStore.notes g.K.RunStore.ends (slot_before c.args.lines.now.slot) c.args.lines.now.lines
    c.end_stored_turn.new.lines.lines o (Some c.end_stored_turn.new.store)) (sym c.in-Some.is) (c.end_stored_turn.new.store, refl, ends.0, ends.1, ends.2, ends.3)
