use Rattle.std.proofs.Common.{◌≡◌, vec_len}
use Rattle.fax_switch.specs.Tables.{stepped_first}
use Rattle.fax_switch.proofs.switch.step.Given as goal

abbrev pub invariant-loop-i : goal.invariant-loop-i
invariant-loop-i l = record {
  stepped : l.entries.items ≡ stepped_first l.i l.now l.event l.initial.entries.items;
  long : vec_len l.entries ≡ vec_len l.initial.entries;
}
