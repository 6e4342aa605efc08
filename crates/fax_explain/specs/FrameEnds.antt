-- FRAME ENDS: how many frames end in a packet (ITU-T T.38 of 1998, field types 2 to 5 of V.21 data).
use Rattle.std.specs.Prelude.{◌≡◌, ℕ, ◌==◌, ◌||◌, Bool, true, false, List, Result, Ok, Err, if◌then◌else◌, count_by}
use Rattle.fax_ifp.specs.declared.fault.IfpFault.{IfpFault}
use Rattle.fax_ifp.specs.Packets.{Packet, Indicator, Message}
use Rattle.fax_ifp.specs.Pieces.{Piece, Frame}
use Rattle.fax_explain.specs.declared.frame_ends.FrameEnds.{FrameEnds}

-- a field type that ends a frame whose check sequence is right, or is wrong, where the signal may end too
abbrev pub ends_rightly : ℕ → Bool
ends_rightly what = (what == 2) || (what == 4)

abbrev pub ends_wrongly : ℕ → Bool
ends_wrongly what = (what == 3) || (what == 5)

-- so many fields of V.21 data in a packet end a frame so
abbrev pub ends_in : (ℕ → Bool) → Packet → ℕ
ends_in ends (Indicator code) = 0
ends_in ends (Message kind fields) =
    if kind == 0 then count_by (λ field. ends field.what) fields else 0

-- the ends of frames in a packet, none in one that cannot be read
abbrev pub AreEnds : Result Packet IfpFault → FrameEnds → Type 0
AreEnds (Ok packet) ends =
    (ends.good ≡ ends_in ends_rightly packet) × (ends.bad ≡ ends_in ends_wrongly packet)
AreEnds (Err fault) ends = (ends.good ≡ 0) × (ends.bad ≡ 0)

-- so many of these pieces are whole frames
abbrev pub is_frame : Piece → Bool
is_frame (Frame octets) = true
is_frame piece = false

abbrev pub frames_in : List Piece → ℕ
frames_in pieces = count_by is_frame pieces
