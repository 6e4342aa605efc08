-- What holds of the pieces of slots.
use Rattle.std.specs.Prelude.{◌≡◌, ℕ, List, ◌∷◌, ◌++◌, reverse, replicate, Some, Err}
use Rattle.fax_ifp.specs.declared.fault.IfpFault.TheVariants.{Extension}
use Rattle.fax_ifp.specs.Packets.{packet_of}
use Rattle.fax_ifp.specs.Elements.{Slot, Element}
use Rattle.fax_ifp.specs.Pieces.{Piece, Gap, Image, has_octet, open_image, pieces_of, pieces}
use Rattle.fax_ifp.specs.ImageOctets.{image_octets, octets_since}
use Rattle.fax_ifp.specs.Tracked.{TrackState, IsTracked, lost_slots}

-- slots that come later add pieces after those of the slots before
abbrev pub PiecesGoOn : Type 0
PiecesGoOn = (later before : List Slot)
    → (more : List Piece) × (pieces (later ++ before) ≡ pieces before ++ more)

-- each of so many lost slots gives a gap and nothing else
abbrev pub LostSlotsAreGaps : Type 0
LostSlotsAreGaps = (count : ℕ) (before : List Slot)
    → pieces (lost_slots count ++ before) ≡ pieces before ++ replicate count Gap

-- a packet refused as an extension is as if it had not come
abbrev pub ExtensionsSayNothing : Type 0
ExtensionsSayNothing = (later before : List Slot) (octets : List ℕ)
    → packet_of octets ≡ Err Extension
    → pieces (later ++ Some octets ∷ before) ≡ pieces (later ++ before)

-- slots leave one thing alone to be kept
abbrev pub TrackedIsUnique : Type 0
TrackedIsUnique = (slots : List Slot) (a b : TrackState)
    → IsTracked slots a → IsTracked slots b → a ≡ b

-- the octets of the pieces since the last start are those of the last high-speed signal
abbrev pub ImageOctetsArePieces : Type 0
ImageOctetsArePieces = (heard : List Element)
    → octets_since (reverse (pieces_of heard)) ≡ image_octets heard

-- of the image that is open it is kept whether it has an octet
abbrev pub StartedIsAnOctet : Type 0
StartedIsAnOctet = (heard : List Element) (image : Image)
    → open_image heard ≡ Some image → image.started ≡ has_octet (image_octets heard)
