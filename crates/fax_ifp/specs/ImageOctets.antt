-- The octets of an image. (ITU-T T.38; where an image begins and ends is said with the pieces.)
-- Each list has the newest first, and `before` is what came before; octets are in the order of time.
use Rattle.std.specs.Prelude.{ℕ, List, [], ◌∷◌, ◌++◌, Option, Some, None, if◌then◌else◌}
use Rattle.fax_ifp.specs.Elements.{Element, Missing, Signal, Field}
use Rattle.fax_ifp.specs.Pieces.{Piece, Start, Octets, Image, is_training, is_image_field, open_image}

-- those of a field's octets that are the open image's
abbrev pub octets_in_image : Option Image → ℕ → ℕ → List ℕ → List ℕ
octets_in_image None kind what octets = []
octets_in_image (Some image) kind what octets =
    if is_image_field image.kind kind what then octets else []

-- the octets of the last high-speed signal: of the fields of types 6 and 7 in data of its training
-- indicator's type, since that indicator, while its image is open: up to and with its sig-end, or until
-- the next indicator. What stands after is in no image
abbrev pub image_octets : List Element → List ℕ
image_octets [] = []
image_octets (Missing ∷ before) = image_octets before
image_octets (Signal code ∷ before) = if is_training code then [] else image_octets before
image_octets (Field kind what octets ∷ before) =
    image_octets before ++ octets_in_image (open_image before) kind what octets

-- the octets of the pieces since the last start, joined
abbrev pub octets_since : List Piece → List ℕ
octets_since [] = []
octets_since (Start kind ∷ before) = []
octets_since (Octets octets ∷ before) = octets_since before ++ octets
octets_since (other ∷ before) = octets_since before
