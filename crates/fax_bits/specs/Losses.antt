-- A list of texts of octets that comes to a receiver with losses: a text that is lost leaves its place. (ITU-T T.38: the packets
-- of a sender, and the slots that datagrams decide.)
-- The texts have the first sent first; what came has the newest first.
use Rattle.std.specs.Prelude.{◌≡◌, ℕ, zero, suc, ◌⊎◌, List, [], ◌∷◌, Option, None, slice_get}

-- a slot is missing, or it is the packet at a place
abbrev pub IsPacketAt : List (List ℕ) → ℕ → Option (List ℕ) → Type 0
IsPacketAt packets place slot = (slot ≡ None) ⊎ (slot ≡ slice_get packets place)

-- these slots are those of the places just before `next`, one after the other
abbrev pub AreSlotsBefore : List (List ℕ) → ℕ → List (Option (List ℕ)) → Type 0
AreSlotsBefore packets next [] = Unit {0}
AreSlotsBefore packets zero (slot ∷ before) = ⊥
AreSlotsBefore packets (suc place) (slot ∷ before) =
    IsPacketAt packets place slot × AreSlotsBefore packets place before
