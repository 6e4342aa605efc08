-- A core that hears element after element, for the steps by which a slot is taken.
use Rattle.std.specs.Prelude.{◌≡◌, ℕ, false, List, ◌++◌, reverse, Option, Some, None}
use Rattle.fax_ifp.specs.Elements.{Element}
use Rattle.fax_ifp.specs.Pieces.{Piece, Image, pieces_of}
use Rattle.fax_ifp.specs.Tracked.{TrackState, IsLeftBy}

-- these elements leave this, and their pieces are earlier ones and then those given
pub record HasGiven (heard : List Element) (tracked : TrackState) (earlier given : List Piece) :
    Type 0 where
  pub left : IsLeftBy heard tracked
  pub pieces : pieces_of heard ≡ earlier ++ given

-- what is kept, and the pieces given so far
abbrev pub Stand : Type 0
Stand = TrackState × List Piece

-- these elements, in the order of time, lead from the old stand to the new, whatever came before
abbrev pub Hears : List Element → Stand → Stand → Type 0
Hears told old new = (heard : List Element) (earlier : List Piece)
    → HasGiven heard old.0 earlier old.1 → HasGiven (reverse told ++ heard) new.0 earlier new.1

-- an image that is not whole
abbrev pub spoilt : Option Image → Option Image
spoilt None = None
spoilt (Some image) = Some (record image { whole = false })

-- how many images are open
abbrev pub images_in : Option Image → ℕ
images_in None = 0
images_in (Some image) = 1
