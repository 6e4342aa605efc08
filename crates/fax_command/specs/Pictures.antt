-- A page as a picture: a PBM in its raw form (`P4` of netpbm's pbm(5)).
use Rattle.std.specs.Prelude.{◌≡◌, ℕ, List, [], ◌∷◌, ◌++◌, length, map, codes, decimal}
use Rattle.fax_bits.specs.Laws.{AreOctets}
use Rattle.fax_bits.specs.Writing.{IsPadded}
use Rattle.fax_runcodes.specs.Pixels.{pixel}
use Rattle.fax_runcodes.specs.Rows.{Elements}

-- the head: the name of the form, how many elements each row has, and how many rows there are
abbrev pub picture_head : ℕ → ℕ → List ℕ
picture_head width rows =
    codes "P4\n" ++ (decimal width ++ (codes " " ++ (decimal rows ++ codes "\n")))

-- the octets of rows, one row after the other: a bit an element, 1 for black, and zeros up to a whole octet
abbrev pub AreRowsOctets : List ℕ → List Elements → Type 0
AreRowsOctets octets [] = octets ≡ []
AreRowsOctets octets (row ∷ rows) = (first : List ℕ) × (rest : List ℕ)
    × (octets ≡ first ++ rest) × IsPadded first (map pixel row) × AreRowsOctets rest rows

-- The text is the picture of rows of this width.
pub record IsPicture (width : ℕ) (rows : List Elements) (text : List ℕ) : Type 0 where
  pub octets : List ℕ
  pub of_rows : AreRowsOctets octets rows
  pub are_octets : AreOctets octets
  pub text_is : text ≡ picture_head width (length rows) ++ octets
