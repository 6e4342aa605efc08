-- The modes of two-dimensional coding and their words (ITU-T T.4, table 4/T.4).
use Rattle.std.specs.Prelude.{◌≡◌, ℕ, ◌+◌, Bool, List}
use Rattle.fax_runcodes.specs.CodeTables.{bits}
use Rattle.fax_mrcode.specs.declared.mode.Mode.{Mode}
use Rattle.fax_mrcode.specs.declared.mode.Mode.TheVariants.{Pass, Horizontal, Vertical}
use Rattle.fax_mrcode.specs.declared.mode.Offset.{Offset}
use Rattle.fax_mrcode.specs.declared.mode.Offset.TheVariants.{Left3, Left2, Left1, Zero, Right1, Right2, Right3}

abbrev pub mode_word : Mode → List Bool
mode_word Pass = bits "0001"
mode_word Horizontal = bits "001"
mode_word (Vertical Zero) = bits "1"
mode_word (Vertical Right1) = bits "011"
mode_word (Vertical Right2) = bits "000011"
mode_word (Vertical Right3) = bits "0000011"
mode_word (Vertical Left1) = bits "010"
mode_word (Vertical Left2) = bits "000010"
mode_word (Vertical Left3) = bits "0000010"

-- a1 lies so far right or left of b1
abbrev pub IsAt : Offset → (a1 b1 : ℕ) → Type 0
IsAt Zero a b = a ≡ b
IsAt Right1 a b = a ≡ b + 1
IsAt Right2 a b = a ≡ b + 2
IsAt Right3 a b = a ≡ b + 3
IsAt Left1 a b = a + 1 ≡ b
IsAt Left2 a b = a + 2 ≡ b
IsAt Left3 a b = a + 3 ≡ b
