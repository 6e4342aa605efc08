use Rattle.std.proofs.Common.{slice_set, ap, ◌∙◌, arith}
use Rattle.std.proofs.lemmas.List.Edits.{map_over_more}
use Rattle.fax_switch.specs.declared.call.Entry.{Entry}
use Rattle.fax_switch.specs.Calls.{call_row}
use Rattle.fax_switch.proofs.switch.step.Goals as goal

pub loop-i-preserved : goal.loop-i-preserved
loop-i-preserved c = record {
  stepped =
      ap (λ (entry : Entry). slice_set c.loop-i.entries.items c.loop-i.i entry) c.after.ensures
      ∙ map_over_more (λ (entry : Entry). call_row entry.call c.args.now c.args.event) c.args.entries.now.items c.loop-i.entries.items c.loop-i.i c.index-entry.result.now
      (omega arith) c.loop-i.invariant.stepped c.index-entry.ensures;
  long = c.loop-i.invariant.long;
}
