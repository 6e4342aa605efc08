use Rattle.std.proofs.Common.{◌≡◌, ◌≤◌, ◌*◌, sum, map}
use Rattle.std.specs.List.{range_with_len}
use Rattle.fax_desk.specs.Budgets.{other_may_hold}
use Rattle.fax_desk.proofs.budgets.others_may_hold.Given as goal

abbrev pub invariant-loop-j : goal.invariant-loop-j
invariant-loop-j g l = record {
  held : l.held ≡ sum (map (λ j. other_may_hold l.cards (g.V.View.line l.view) l.i j) (range_with_len 0 l.j));
  few : l.held ≤ l.j * 4294967295;
}
