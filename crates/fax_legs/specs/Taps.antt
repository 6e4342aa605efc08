-- What is copied of the datagrams that a leg hands out (this project's profile).
use Rattle.std.specs.Prelude.{◌≡◌, ◌⊎◌, ℕ, false, List, [], ◌∷◌, ◌++◌}
use Rattle.fax_legs.specs.declared.tap.Tap.{Tap}

-- A datagram is copied after the others of its turn, and none lacks that was there before; or memory was refused, and that is told.
abbrev pub Keeps : List ℕ → Tap → Tap → Type 0
Keeps octets old new = new.is_lacking ≡ false
    → (old.is_lacking ≡ false) × (new.datagrams.items ≡ old.datagrams.items ++ octets ∷ [])

-- It is so while the tap is switched on; else nothing is copied.
abbrev pub Notes : List ℕ → Tap → Tap → Type 0
Notes octets old new = Keeps octets old new ⊎ (new ≡ old)
