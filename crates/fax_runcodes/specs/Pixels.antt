-- Picture elements as bits.
use Rattle.std.specs.Prelude.{Bool, true, false}
use Rattle.fax_runcodes.specs.declared.Colour.{Colour}
use Rattle.fax_runcodes.specs.declared.Colour.TheVariants.{White, Black}

-- the bit of an element: 1 is black
abbrev pub pixel : Colour → Bool
pixel White = false
pixel Black = true
