-- The packets that the caller gives, each by itself. (ITU-T T.38.)
use Rattle.std.specs.Prelude.{◌≡◌, ℕ, Bool, true, false, List, [], ◌∷◌, map, Contains, Option, Some, None, IfSome}
use Rattle.std.specs.List.{list_any}
use Rattle.fax_runcodes.specs.declared.format.Coding.{Coding}
use Rattle.fax_runcodes.specs.declared.format.Format.{Format}
use Rattle.fax_frames.specs.declared.dcs.Dcs.{Dcs}
use Rattle.fax_frames.specs.declared.frame.Frame.{Frame}
use Rattle.fax_frames.specs.declared.frame.Frame.TheVariants as frames
use Rattle.fax_frames.specs.Capabilities.{format_of, coding_of}
use Rattle.fax_frames.specs.Frames.{frame_of}
use Rattle.fax_ifp.specs.Packets.{packet_of}
use Rattle.fax_ifp.specs.Pieces as pieces
use Rattle.fax_ifp.specs.Schedules.{is_closed}
use Rattle.fax_jobs.specs.Jobs.{JobValue, IsJob}
use Rattle.fax_call.specs.Writings.{Writing, IsWriting}
use Rattle.fax_call.specs.Replies.{Packet, Tells, written}
use Rattle.fax_call.specs.Calls.{CallerCore, started, ticked, CallEvent, Comes, Ticks, after_events}

-- In every call each packet that a tick gives can be read, and one of V.21 data ends at a boundary: so who hears some of them
-- hears no frame but those that were given.
abbrev pub GivesClosedPackets : Type 0
GivesClosedPackets = (writes : Writing) (job : JobValue) (core : CallerCore)
    (start now : ℕ) (events : List CallEvent) (packet : Packet) → IsWriting writes → IsJob job
    → (ticked writes job (after_events writes job (started core job start) events) now).given
    ≡ Some packet → is_closed (packet_of (written packet)) ≡ true

-- the packets that a call gave, the newest first
abbrev pub packets_with : Option Packet → List Packet → List Packet
packets_with None packets = packets
packets_with (Some packet) packets = packet ∷ packets

abbrev pub packets_given : Writing → JobValue → CallerCore → List CallEvent → List Packet
packets_given writes job a [] = []
packets_given writes job a (Comes piece now ∷ before) = packets_given writes job a before
packets_given writes job a (Ticks now ∷ before) =
    packets_with (ticked writes job (after_events writes job a before) now).given
    (packets_given writes job a before)

-- the DCS that a packet tells
abbrev pub dcs_in : Option Frame → Option Dcs
dcs_in (Some (frames.Dcs dcs)) = Some dcs
dcs_in frame = None

abbrev pub told_dcs : Packet → Option Dcs
told_dcs (Tells frame) = dcs_in (frame_of frame)
told_dcs packet = None

abbrev pub EachDcs : (Dcs → Type 0) → List Packet → Type 0
EachDcs P [] = Unit {0}
EachDcs P (packet ∷ packets) = IfSome (told_dcs packet) P × EachDcs P packets

pub record IsOfKind (format : Format) (coding : Coding) (dcs : Dcs) : Type 0 where
  pub format_is : format_of dcs ≡ format
  pub coding_is : coding_of dcs ≡ coding

-- EOM: after it a call goes on with another format, and the DIS and DCS are exchanged again (ITU-T T.30, 5.3.6.1.6)
abbrev pub is_eom : Option Frame → Bool
is_eom (Some frames.Eom) = true
is_eom frame = false

abbrev pub tells_eom : Packet → Bool
tells_eom (Tells frame) = is_eom (frame_of frame)
tells_eom packet = false

-- In every call that tells no EOM each DCS that is given has the format of the job, and all have one coding: so it is no matter
-- under which of them an image is read.
abbrev pub GivesOneKind : Type 0
GivesOneKind =
    (writes : Writing) (job : JobValue) (core : CallerCore) (start : ℕ) (events : List CallEvent)
    → let given : List Packet = packets_given writes job (started core job start) events
    in list_any tells_eom given ≡ false
    → (coding : Coding) × EachDcs (IsOfKind job.format coding) given

-- Who hears all packets of a call, and no EOM among them, hears no DCS of another kind.
abbrev pub is_eom_frame : pieces.Piece → Bool
is_eom_frame (pieces.Frame octets) = is_eom (frame_of octets)
is_eom_frame piece = false

abbrev pub TellsOneKind : Type 0
TellsOneKind =
    (writes : Writing) (job : JobValue) (core : CallerCore) (start : ℕ) (events : List CallEvent)
    → let heard : List pieces.Piece = pieces.pieces
    (map Some (map written (packets_given writes job (started core job start) events)))
    in IsWriting writes → IsJob job → list_any is_eom_frame heard ≡ false
    → (coding : Coding) × ((octets : List ℕ) (dcs : Dcs) → Contains heard (pieces.Frame octets)
    → frame_of octets ≡ Some (frames.Dcs dcs) → IsOfKind job.format coding dcs)
