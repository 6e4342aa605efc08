use Rattle.std.proofs.Common.{ℕ, ◌<◌, ◌≤◌, get_or}
use Rattle.fax_trunks.specs.Routes.{fits_of}
use Rattle.fax_trunks.proofs.ChoiceLemmas.{IsBest}
use Rattle.fax_trunks.proofs.choice.choose.Given as goal

abbrev pub invariant-loop-i : goal.invariant-loop-i
invariant-loop-i l = record {
  best : IsBest (fits_of l.routes l.number) l.i l.longest l.chosen;
  below : (k : ℕ) → k < l.i → get_or (fits_of l.routes l.number) k 0 ≤ l.longest;
}
