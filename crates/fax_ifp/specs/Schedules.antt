-- What of the packets of one sender a call hears where some of them are lost: image signals and frames of the sender's list.
-- (ITU-T T.38; which images are whole, and what counts as missing, is this project's profile.)
-- Lists of slots and pieces have the newest first, where nothing else is said; a sender's packets have the first sent first.
use Rattle.std.specs.Prelude.{◌≡◌, ℕ, zero, suc, ◌<◌, ◌⊎◌, Bool, true, false, List, [], ◌∷◌, ◌++◌, map, reverse, drop, length, slice_get, Contains, Option, Some, None, option_map, Result, Ok, Err, if◌then◌else◌}
use Rattle.fax_bits.specs.Losses.{AreSlotsBefore}
use Rattle.fax_ifp.specs.declared.fault.IfpFault.{IfpFault}
use Rattle.fax_ifp.specs.Packets.{FieldText, Packet, Indicator, Message, packet_of}
use Rattle.fax_ifp.specs.Elements.{Slot, Element, Signal, elements_in}
use Rattle.fax_ifp.specs.Pieces.{Piece, Frame, Start, Octets, End, Gap, is_training, is_boundary, pieces}

-- the slots of packets of which none is lost
abbrev pub slots_of : List (List ℕ) → List Slot
slots_of packets = reverse (map Some packets)

-- IMAGE SIGNALS. A training indicator begins one
abbrev pub is_training_alone : List Element → Bool
is_training_alone (Signal code ∷ []) = is_training code
is_training_alone elements = false

abbrev pub begins_signal : Option (List ℕ) → Bool
begins_signal None = false
begins_signal (Some packet) = is_training_alone (elements_in (packet_of packet))

-- the octets of pieces in the order of time, up to the end of a whole image, where nothing else stands between
abbrev pub octets_to_end : List ℕ → List Piece → Option (List ℕ)
octets_to_end octets (Octets more ∷ later) = octets_to_end (octets ++ more) later
octets_to_end octets (End true ∷ later) = Some octets
octets_to_end octets later = None

abbrev pub first_signal : List Piece → Option (List ℕ)
first_signal (Start kind ∷ later) = octets_to_end [] later
first_signal later = None

-- The octets of the image signal at a place of the list, if one stands there: the packets from that place on, heard as a call
-- of their own, begin with one whole image.
abbrev pub signal_at : List (List ℕ) → ℕ → Option (List ℕ)
signal_at packets place = if begins_signal (slice_get packets place)
    then first_signal (pieces (slots_of (drop place packets))) else None

-- the octets since an image's start, where nothing else stands between
abbrev pub octets_alone : List Piece → Option (List ℕ)
octets_alone [] = None
octets_alone (Start kind ∷ before) = Some []
octets_alone (Octets octets ∷ before) = option_map (λ front. front ++ octets) (octets_alone before)
octets_alone (Frame octets ∷ before) = None
octets_alone (End whole ∷ before) = None
octets_alone (Gap ∷ before) = None

-- An image that ends after these pieces is the signal at a place, octet for octet: so it is joined of no two.
pub record IsSignalAt (packets : List (List ℕ)) (before : List Piece) (place : ℕ) : Type 0 where
  pub octets : List ℕ
  pub heard : octets_alone before ≡ Some octets
  pub sent : signal_at packets place ≡ Some octets

-- Each whole image is the signal at a place before `bound`, and those before it stand at earlier places.
abbrev pub AreSignals : List (List ℕ) → List Piece → (bound : ℕ) → Type 0
AreSignals packets [] bound = Unit {0}
AreSignals packets (End true ∷ before) bound = (place : ℕ)
    × (place < bound) × IsSignalAt packets before place × AreSignals packets before place
AreSignals packets (piece ∷ before) bound = AreSignals packets before bound

abbrev pub ImagesAreSignals : Type 0
ImagesAreSignals = (packets : List (List ℕ)) (next : ℕ) (slots : List Slot)
    → AreSlotsBefore packets next slots → AreSignals packets (reverse (pieces slots)) next

-- FRAMES. A packet that can be read, which ends at a boundary where it is V.21 data with fields
abbrev pub ends_at_boundary : List FieldText → Bool
ends_at_boundary [] = true
ends_at_boundary (field ∷ []) = is_boundary 0 field.what
ends_at_boundary (field ∷ next ∷ fields) = ends_at_boundary (next ∷ fields)

abbrev pub is_closed : Result Packet IfpFault → Bool
is_closed (Ok (Indicator code)) = true
is_closed (Ok (Message zero fields)) = ends_at_boundary fields
is_closed (Ok (Message (suc kind) fields)) = true
is_closed (Err fault) = false

abbrev pub AreClosed : List (List ℕ) → Type 0
AreClosed [] = Unit {0}
AreClosed (packet ∷ packets) = (is_closed (packet_of packet) ≡ true) × AreClosed packets

-- Where the slots begin at the first packet of the list, or each packet of it is closed, each frame that is heard is one of the
-- list. (Else a frame of which the first packets lie before the first slot would be heard without them.)
abbrev pub FramesAreSent : Type 0
FramesAreSent = (packets : List (List ℕ)) (next : ℕ) (slots : List Slot)
    → AreSlotsBefore packets next slots
    → (next ≡ length slots) ⊎ AreClosed packets → (octets : List ℕ)
    → Contains (pieces slots) (Frame octets) → Contains (pieces (slots_of packets)) (Frame octets)
