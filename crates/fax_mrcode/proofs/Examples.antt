-- Worked examples of two-dimensional lines, on rows of 20 elements.
use Rattle.std.proofs.Common.{◌≡◌, [], ◌∷◌, refl, arith}
use Rattle.fax_runcodes.specs.declared.Colour.TheVariants.{White}
use Rattle.fax_runcodes.specs.CodeTables.{bits}
use Rattle.fax_runcodes.specs.Rows.{Elements, stretches}
use Rattle.fax_mrcode.specs.declared.mode.Mode.TheVariants.{Vertical}
use Rattle.fax_mrcode.specs.declared.mode.Offset.TheVariants.{Zero, Left1, Left2}
use Rattle.fax_mrcode.specs.Places.{a1, a2, b1, b2}
use Rattle.fax_mrcode.specs.Lines.{SpellsLine}

-- 4 white, 1 black, 15 white
abbrev reference : Elements
reference = stretches White (4 ∷ 1 ∷ 15 ∷ [])

-- 2 white, 2 black, 16 white
abbrev row : Elements
row = stretches White (2 ∷ 2 ∷ 16 ∷ [])

-- The second b1 is 5, where the reference turns white, and not 4, where it turns black.
second_b1 : b1 reference row 3 ≡ 5
unfolding b1
second_b1 = refl

-- VL2, VL1, V0
left_two_one_zero : SpellsLine reference (bits "0000100101") row
unfolding a1 b1
left_two_one_zero = record {
  same_width = refl;
  modes = Vertical Left2 ∷ Vertical Left1 ∷ Vertical Zero ∷ [];
  steps = (
    omega arith,
    [],
    bits "0101",
    2,
    refl,
    (refl, refl, refl),
    (
      omega arith,
      [],
      bits "1",
      4,
      refl,
      (refl, refl, refl),
      (
        omega arith,
        [],
        [],
        20,
        refl,
        (refl, refl, refl),
        (refl, refl),
      ),
    ),
  );
}

-- A row of pass: 10 white, 3 black, 7 white, against 2 white, 3 black, 15 white: pass, then V0 at 20 is not allowed, since a1 is 10.
places_of_pass : (b1 (stretches White (2 ∷ 3 ∷ 15 ∷ [])) (stretches White (10 ∷ 3 ∷ 7 ∷ [])) 0 ≡ 2) × (b2 (stretches White (2 ∷ 3 ∷ 15 ∷ [])) (stretches White (10 ∷ 3 ∷ 7 ∷ [])) 0 ≡ 5) × (a1 (stretches White (10 ∷ 3 ∷ 7 ∷ [])) 0 ≡ 10) × (a2 (stretches White (10 ∷ 3 ∷ 7 ∷ [])) 0 ≡ 13)
unfolding a1 a2 b1 b2
places_of_pass = (refl, refl, refl, refl)
