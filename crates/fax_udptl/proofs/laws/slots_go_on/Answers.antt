use Rattle.std.proofs.Common.{◌≡◌, List, [], ◌∷◌, ◌++◌, Option, ℕ, refl}
use Rattle.fax_udptl.specs.Datagrams.{DatagramValue}
use Rattle.fax_udptl.specs.Slots.{slots}
use Rattle.fax_udptl.proofs.SlotLemmas.{decided_now, slots_go_on}
use Rattle.fax_udptl.proofs.laws.slots_go_on.Goals as goal

more_slots : (d : DatagramValue) (arrived : List DatagramValue) → (more : List (Option (List ℕ))) × (slots (d ∷ arrived) ≡ slots arrived ++ more)
unfolding slots
more_slots d [] = (slots (d ∷ []), refl)
more_slots d (e ∷ earlier) = (decided_now d (e ∷ earlier), slots_go_on d e earlier)

pub returns : goal.returns
returns c = more_slots
