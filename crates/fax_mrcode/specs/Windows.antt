-- What a window of 64 bits shows of the bits that are left. Not part of any public clause.
use Rattle.std.specs.Prelude.{◌≡◌, ℕ, ◌-◌, ◌≤◌, Bool, List, ◌++◌, length, take, drop}
use Rattle.fax_bits.specs.Bits.{word_bits}

-- a window shows so many bits of these, whatever stands after them
pub record Shows (window known : ℕ) (bits : List Bool) : Type 0 where
  pub rest : List Bool
  pub front : word_bits 64 window ≡ take known bits ++ rest
  pub there : known ≤ length bits

-- a window shows the last so many bits of those that another shows
pub record ShowsAfter (window known next left : ℕ) : Type 0 where
  pub less : left ≤ known
  pub shows : (bits : List Bool)
      → Shows window known bits → Shows next left (drop (known - left) bits)

-- all but the last so many bits that a window shows are this text
abbrev pub FirstAre : (window known left : ℕ) → List Bool → Type 0
FirstAre window known left text = (bits : List Bool)
    → Shows window known bits → take (known - left) bits ≡ text
