use Rattle.std.proofs.Common.{◌≡◌, ℕ, ◌≤◌, nat_le, true, List, ◌∷◌, sym, ◌∙◌, arith}
use Rattle.std.specs.Prelude.{IsSome}
use Rattle.fax_udptl.specs.Datagrams.{DatagramValue}
use Rattle.fax_udptl.specs.Slots.{decision, greatest}
use Rattle.fax_udptl.proofs.SlotLemmas.{decided_below}
use Rattle.fax_udptl.proofs.laws.slots_are_decided.Goals as goal

within : (k n : ℕ) → nat_le k n ≡ true → k ≤ n
within k n h = grind (arith)

tested : (k n : ℕ) → k ≤ n → nat_le k n ≡ true
tested k n h = grind (arith)

only_below : (d : DatagramValue) (arrived : List DatagramValue) (k : ℕ) → IsSome (decision (d ∷ arrived) k) → k ≤ greatest (d ∷ arrived)
only_below d arrived k h = within k (greatest (d ∷ arrived)) (sym (decided_below d arrived k) ∙ h)

all_below : (d : DatagramValue) (arrived : List DatagramValue) (k : ℕ) → k ≤ greatest (d ∷ arrived) → IsSome (decision (d ∷ arrived) k)
all_below d arrived k h = decided_below d arrived k ∙ tested k (greatest (d ∷ arrived)) h

pub returns : goal.returns
returns c d arrived k = (only_below d arrived k, all_below d arrived k)
