-- OPENINGS: what a datagram brings, a line for each thing, by what the line begins with, or is. What is a lost slot, a packet, a
-- frame and an image is said by the crates below. (The words are this project's profile.)
-- `before` has the slots or pieces that came before, the newest first.
use Rattle.std.specs.Prelude.{ℕ, ◌+◌, ◌-◌, ◌%◌, ◌^◌, min, nat_lt, Bool, true, false, List, [], ◌∷◌, ◌++◌, length, drop, reverse, Option, None, Some, Result, Ok, Err, if◌then◌else◌, ◌==◌, codes, decimal}
use Rattle.fax_frames.specs.declared.frame.Frame.{Frame}
use Rattle.fax_frames.specs.declared.frame.Frame.TheVariants.{Dis}
use Rattle.fax_frames.specs.Frames.{frame_of}
use Rattle.fax_udptl.specs.Taking.{DecidedValue, slots_in}
use Rattle.fax_ifp.specs.declared.codes.Indicator as code_indicators
use Rattle.fax_ifp.specs.declared.codes.Indicator.TheVariants.{Cng, Ced}
use Rattle.fax_ifp.specs.declared.fault.IfpFault.{IfpFault}
use Rattle.fax_ifp.specs.declared.packet.Head.{Head}
use Rattle.fax_ifp.specs.declared.packet.Head.TheVariants as heads
use Rattle.fax_ifp.specs.Codes.{indicator_at}
use Rattle.fax_ifp.specs.Elements.{Slot}
use Rattle.fax_ifp.specs.ImageOctets.{octets_since}
use Rattle.fax_ifp.specs.Packets.{Packet, Indicator, Message, packet_of}
use Rattle.fax_ifp.specs.Pieces.{Piece, Frame as FramePiece, Start, Octets, End, Gap, pieces}
use Rattle.fax_ifp.specs.Tracked.{lost_slots}
use Rattle.fax_descriptions.specs.declared.lane.Lane.{Lane}
use Rattle.fax_descriptions.specs.Words.{frame_text, numbers_text}
use Rattle.fax_explain.specs.declared.mark.Mark.{Mark}
use Rattle.fax_explain.specs.Listening.{Ear, first_mark, later_marks, marked_end, marked_start, marks_after, taken_text}
use Rattle.fax_explain.specs.FrameEnds.{ends_in, ends_rightly, ends_wrongly, frames_in}

-- the texts of which a line begins with one, and whether it ends there
pub record Opening : Type 0 where
  pub texts : List (List ℕ)
  pub ends : Bool

-- a line that begins so, and goes on; and one that is just this
abbrev pub begins : (text : List ℕ) → Opening
begins text = record { texts = text ∷ []; ends = false }

abbrev pub says : (text : List ℕ) → Opening
says text = record { texts = text ∷ []; ends = true }

-- a line, where there is something to tell
abbrev pub line_if : Bool → Opening → List Opening
line_if true opening = opening ∷ []
line_if false opening = []

-- ---- pieces

-- a frame, in words, and after them what it was taken as; a DIS may be told as the one before
abbrev pub frame_texts : (octets why : List ℕ) → Option Frame → List (List ℕ)
frame_texts octets why (Some (Dis dis)) =
    (frame_text octets ++ why) ∷ (codes "DIS as before" ++ why) ∷ []
frame_texts octets why frame = (frame_text octets ++ why) ∷ []

-- the line of a frame, of a signal that begins, and of one of so many octets that ends, by what each was taken as
abbrev pub frame_opening : Mark → Lane → (octets : List ℕ) → Opening
frame_opening mark lane octets =
    record {
      texts = frame_texts octets (taken_text mark lane (frame_of octets)) (frame_of octets);
      ends = true;
    }

abbrev pub start_opening : Mark → (kind : ℕ) → Opening
start_opening mark kind = says (marked_start mark kind)

abbrev pub end_opening : Mark → Lane → (is_outside : Bool) → (octets : ℕ) → (whole : Bool) → Opening
end_opening mark lane is_outside octets whole =
    begins (marked_end mark lane is_outside octets whole)

-- the octets since the last start, as far as they can be counted
abbrev pub octets_counted : List Piece → ℕ
octets_counted before = min (length (octets_since before)) (2 ^ 64 - 1)

-- a piece that was taken as this: octets and gaps have no line of their own
abbrev pub piece_openings : Ear → Mark → (before : List Piece) → Piece → List Opening
piece_openings ear mark before (FramePiece octets) = frame_opening mark ear.lane octets ∷ []
piece_openings ear mark before (Start kind) = start_opening mark kind ∷ []
piece_openings ear mark before (Octets octets) = []
piece_openings ear mark before (End whole) =
    end_opening mark ear.lane ear.is_outside (octets_counted before) whole ∷ []
piece_openings ear mark before Gap = []

-- pieces, of which each was taken as its mark says
abbrev pub pieces_openings : Ear → List Mark → (before : List Piece) → List Piece → List Opening
pieces_openings ear marks before [] = []
pieces_openings ear marks before (piece ∷ pieces) =
    piece_openings ear (first_mark ear.usual marks) before piece
    ++ pieces_openings ear (marks_after piece marks) (piece ∷ before) pieces

-- ---- packets

-- a tone
abbrev pub tone_openings : Option code_indicators.Indicator → List Opening
tone_openings (Some Cng) = begins (codes "CNG") ∷ []
tone_openings (Some Ced) = begins (codes "CED") ∷ []
tone_openings indicator = []

abbrev pub tone_at : Head → Option code_indicators.Indicator
tone_at (heads.Indicator code) = indicator_at code
tone_at (heads.Message kind) = None

-- the packet in the slot of a number, before its pieces: a tone, or that it cannot be read
abbrev pub head_openings : (number : ℕ) → Result Packet IfpFault → List Opening
head_openings number (Ok (Indicator code)) = tone_openings (indicator_at code)
head_openings number (Ok (Message kind fields)) = []
head_openings number (Err fault) =
    begins (codes "packet " ++ (decimal number ++ codes " cannot be read: ")) ∷ []

-- and after its pieces: that frames end in it of which something is missing, or whose check sequence is wrong
abbrev pub tail_openings : Result Packet IfpFault → List Piece → List Opening
tail_openings (Ok packet) given = line_if (nat_lt 0 (ends_in ends_rightly packet - frames_in given))
    (begins (codes "a frame in which something is missing, passed over"))
    ++ line_if (nat_lt 0 (ends_in ends_wrongly packet))
    (begins (codes "a frame with a wrong check sequence, passed over"))
tail_openings (Err fault) given = []

-- the pieces that a packet gives
abbrev pub pieces_after : (before : List Slot) → List ℕ → List Piece
pieces_after before packet = drop (length (pieces before)) (pieces (Some packet ∷ before))

abbrev pub packet_openings : Ear
    → List Mark → (before : List Slot) → (number : ℕ) → List ℕ → List Opening
packet_openings ear marks before number packet =
    let given = pieces_after before packet in head_openings number (packet_of packet)
    ++ (pieces_openings ear marks (reverse (pieces before)) given
    ++ tail_openings (packet_of packet) given)

-- the marks that are left after one
abbrev pub marks_past : (before : List Slot) → List ℕ → List Mark → List Mark
marks_past before packet marks = later_marks (pieces_after before packet) marks

abbrev pub packets_openings : Ear
    → List Mark → (before : List Slot) → (number : ℕ) → List (List ℕ) → List Opening
packets_openings ear marks before number [] = []
packets_openings ear marks before number (packet ∷ packets) =
    packet_openings ear marks before (number % 65536) packet
    ++ packets_openings ear (marks_past before packet marks) (Some packet
    ∷ before) (number + 1) packets

-- the pieces that packets in a row give
abbrev pub pieces_in : (before : List Slot) → List (List ℕ) → List Piece
pieces_in before [] = []
pieces_in before (packet ∷ packets) =
    pieces_after before packet ++ pieces_in (Some packet ∷ before) packets

-- ---- datagrams

-- so many that are lost from a number on; and so many that are lost, but whose packets came with the datagram of a number
abbrev pub lost_openings : (from count : ℕ) → List Opening
lost_openings from count =
    line_if (nat_lt 0 count) (begins (codes "lost: " ++ numbers_text from count))

abbrev pub back_openings : (from number : ℕ) → List Opening
back_openings from number = if from == number
    then [] else begins (codes "lost: " ++ (numbers_text from ((number + (65536 - from)) % 65536)
    ++ (codes ", brought back by " ++ decimal number))) ∷ []

-- one that decides no slot: it came late, or again, which is not told
abbrev pub late_openings : (number expected : ℕ) → List Opening
late_openings number expected = if (number + 1) % 65536 == expected
    then [] else begins (codes "datagram " ++ (decimal number ++ codes " came late")) ∷ []

-- the slots that the datagram of a number decides: those that are lost, and the packets of those that it brings
abbrev pub decided_openings : Ear
    → List Mark → (before : List Slot) → (number : ℕ) → DecidedValue → List Opening
decided_openings ear marks before number decided = let first = (decided.from + decided.lost) % 65536
    in lost_openings decided.from decided.lost ++ (back_openings first number
    ++ packets_openings ear marks (lost_slots decided.lost ++ before) first decided.packets)

abbrev pub slots_openings : Ear
    → List Mark → (before : List Slot) → (number : ℕ) → DecidedValue → List Slot → List Opening
slots_openings ear marks before number decided [] = late_openings number decided.from
slots_openings ear marks before number decided (slot ∷ slots) =
    decided_openings ear marks before number decided

abbrev pub datagram_openings : Ear
    → List Mark → (before : List Slot) → (number : ℕ) → DecidedValue → List Opening
datagram_openings ear marks before number decided =
    slots_openings ear marks before number decided (slots_in decided)

-- octets that are no datagram
abbrev pub unread_opening : Opening
unread_opening = begins (codes "a datagram that cannot be read: ")
