-- Pictures of pages, row by row.
use Rattle.std.proofs.Common.{ℕ, List, [], ◌∷◌, ◌++◌, map, refl, sym, ◌∙◌, ap, append_assoc, append-nil}
use Rattle.fax_bits.specs.Writing.{IsPadded}
use Rattle.fax_runcodes.specs.Pixels.{pixel}
use Rattle.fax_runcodes.specs.Rows.{Elements}
use Rattle.fax_command.specs.Pictures.{AreRowsOctets}

-- one more row
pub AreRowsOctets-push : (octets : List ℕ) (rows : List Elements) (more : List ℕ) (row : Elements) → AreRowsOctets octets rows → IsPadded more (map pixel row)
    → AreRowsOctets (octets ++ more) (rows ++ row ∷ [])
AreRowsOctets-push octets [] more row are padded = (more, [], ap (λ xs. xs ++ more) are ∙ sym (append-nil more), padded, refl)
AreRowsOctets-push octets (r ∷ rows) more row are padded =
    let (first, rest, is, here, others) = are in
    (first, rest ++ more, ap (λ xs. xs ++ more) is ∙ append_assoc first rest more, here, AreRowsOctets-push rest rows more row others padded)
