-- What contracts see of slots, of pieces, and of what is kept.
use Rattle.std.specs.Prelude.{ℕ, List, [], ◌∷◌, map, Option, Some, None, option_map}
use Rattle.arrayvec.specs.ArrayVec.{ArrayVec}
use Rattle.fax_ifp.specs.declared.piece.Slot as code_slots
use Rattle.fax_ifp.specs.declared.piece.Slot.TheVariants as slots
use Rattle.fax_ifp.specs.declared.piece.Piece as code_pieces
use Rattle.fax_ifp.specs.declared.piece.Piece.TheVariants as pieces
use Rattle.fax_ifp.specs.declared.signals.OpenImage.{OpenImage}
use Rattle.fax_ifp.specs.Elements.{Slot}
use Rattle.fax_ifp.specs.Pieces.{Piece, Frame, Start, Octets, End, Gap, Image}

abbrev pub slot_of : code_slots.Slot → Slot
slot_of slots.Lost = None
slot_of (slots.Packet octets) = Some octets.now

abbrev pub piece_of : code_pieces.Piece → Piece
piece_of (pieces.Frame octets) = Frame octets.items
piece_of (pieces.Start kind) = Start kind
piece_of (pieces.Octets octets) = Octets octets.now
piece_of (pieces.End whole) = End whole
piece_of pieces.Gap = Gap

abbrev pub pieces_shown : List code_pieces.Piece → List Piece
pieces_shown ps = map piece_of ps

-- a frame that may be answered, as a piece
abbrev pub frames_shown : Option (ArrayVec ℕ) → List Piece
frames_shown None = []
frames_shown (Some octets) = Frame octets.items ∷ []

abbrev pub image_shown : Option OpenImage → Option Image
image_shown =
    option_map (λ image. record { kind = image.kind; started = image.started; whole = image.whole })
