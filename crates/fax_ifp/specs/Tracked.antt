-- What is kept of the slots of a call.
use Rattle.std.specs.Prelude.{◌≡◌, ℕ, ◌≤◌, nat_le, List, ◌∷◌, ◌++◌, length, replicate, true, Option, Some, None, option_map, Result, Ok, ⊤, if◌then◌else◌}
use Rattle.fax_ifp.specs.declared.fault.IfpFault.{IfpFault}
use Rattle.fax_ifp.specs.Packets.{Packet, Message, packet_of}
use Rattle.fax_ifp.specs.Elements.{Slot, Element, elements}
use Rattle.fax_ifp.specs.Pieces.{Piece, Image, hdlc_since, open_image, pieces}

-- the octets of hdlc-data since the last boundary (None: something is missing since, or they are too
-- many for a frame), and the image that has not ended
pub record TrackState : Type 0 where
  pub frame : Option (List ℕ)
  pub image : Option Image

-- the octets where they are not too many for a frame
abbrev pub kept : Option (List ℕ) → Option (List ℕ)
kept None = None
kept (Some octets) = if nat_le (length octets) 256 then Some octets else None

-- these elements, of which the newest is first, leave this
pub record IsLeftBy (heard : List Element) (tracked : TrackState) : Type 0 where
  pub frame : tracked.frame ≡ kept (hdlc_since heard)
  pub image : tracked.image ≡ open_image heard

-- these slots, of which the newest is first, leave this
abbrev pub IsTracked : List Slot → TrackState → Type 0
IsTracked slots tracked = IsLeftBy (elements slots) tracked

-- whatever slots left the old, with this one after them they leave the new
abbrev pub Tracks : Slot → TrackState → TrackState → Type 0
Tracks slot old new = (before : List Slot) → IsTracked before old → IsTracked (slot ∷ before) new

-- whatever slots left this, the slot after them adds these pieces to theirs
abbrev pub Gives : Slot → TrackState → List Piece → Type 0
Gives slot old given = (before : List Slot)
    → IsTracked before old → pieces (slot ∷ before) ≡ pieces before ++ given

-- the open image, if one is, has an octet
abbrev pub with_octets : TrackState → TrackState
with_octets tracked = record tracked {
  image = option_map (λ (image : Image). record image { started = true }) tracked.image;
}

-- so many lost slots in a row
abbrev pub lost_slots : ℕ → List Slot
lost_slots count = replicate count None

-- whatever slots left the old, with these after them they leave the new
abbrev pub TracksRun : List Slot → TrackState → TrackState → Type 0
TracksRun later old new = (before : List Slot)
    → IsTracked before old → IsTracked (later ++ before) new

-- whatever slots left this, these after them add these pieces to theirs
abbrev pub GivesRun : List Slot → TrackState → List Piece → Type 0
GivesRun later old given = (before : List Slot)
    → IsTracked before old → pieces (later ++ before) ≡ pieces before ++ given

-- it is no message of more than four fields
abbrev pub HasFewFields : Result Packet IfpFault → Type 0
HasFewFields (Ok (Message kind fields)) = length fields ≤ 4
HasFewFields packet = ⊤

-- slots that take no memory: a lost one, one that is refused, an indicator, and data of at most four fields
abbrev pub TakesNoMemory : Slot → Type 0
TakesNoMemory None = ⊤
TakesNoMemory (Some octets) = HasFewFields (packet_of octets)
