-- The packets of a reply (ITU-T T.30, 5.3 and 5.2, as packets of T.38; our DIS is this project's profile).
use Rattle.std.specs.Prelude.{ℕ, nat_eq, Bool, true, false, List, [], ◌∷◌, Option, Some, None}
use Rattle.std.specs.Cmp.Lexicographic.{pointwise}
use Rattle.fax_frames.specs.declared.writing.Plain.{Plain}
use Rattle.fax_frames.specs.declared.writing.Plain.TheVariants.{Cfr, Ftt, Mcf, Rtn}
use Rattle.fax_frames.specs.Written.{written_plain}
use Rattle.fax_pagestore.specs.Pages.{PageValue}
use Rattle.fax_ifp.specs.declared.codes.Indicator.TheVariants.{Ced, V21Preamble}
use Rattle.fax_ifp.specs.Codes.{indicator_code}
use Rattle.fax_ifp.specs.WrittenPackets.{written_indicator, written_message, frame_fields}
use Rattle.fax_answer.specs.declared.command.Command.{Command}
use Rattle.fax_answer.specs.declared.command.Command.TheVariants.{Eom, Mps, Eop}
use Rattle.fax_answer.specs.History.{Decision, PassesOver, Trains, HangsUp, GivesCfr, GivesFtt, GivesMcf, GivesRtn}

-- no page follows after EOP
abbrev pub is_last : Command → Bool
is_last Eom = false
is_last Mps = false
is_last Eop = true

-- a page that is confirmed, and whether its command was EOP
pub record ConfirmedPage : Type 0 where
  pub page : PageValue
  pub closes : Bool

-- a packet that waits. The data packet of an MCF to a new page carries what it confirms.
pub record WaitingPacket : Type 0 where
  pub packet : List ℕ
  pub confirmed : Option ConfirmedPage

abbrev pub silent : List ℕ → WaitingPacket
silent packet = record { packet = packet; confirmed = None }

-- the tone of a called terminal, CED, and the preamble before a frame (T30_INDICATOR)
abbrev pub called_tone : List ℕ
called_tone = written_indicator (indicator_code Ced)

abbrev pub preamble : List ℕ
preamble = written_indicator (indicator_code V21Preamble)

-- whether a packet is the preamble
abbrev pub is_preamble : List ℕ → Bool
is_preamble packet = pointwise nat_eq packet preamble

-- a frame as a packet of V.21 data
abbrev pub frame_packet : List ℕ → List ℕ
frame_packet frame = written_message 0 (frame_fields frame)

-- a frame as a reply: the preamble, and then its data packet
abbrev pub frame_reply : List ℕ → Option ConfirmedPage → List WaitingPacket
frame_reply frame confirmed =
    silent preamble ∷ record { packet = frame_packet frame; confirmed = confirmed } ∷ []

abbrev pub plain_reply : Plain → Option ConfirmedPage → List WaitingPacket
plain_reply plain confirmed = frame_reply (written_plain plain false) confirmed

-- the packet of the MCF frame
abbrev pub mcf_packet : List ℕ
mcf_packet = frame_packet (written_plain Mcf false)

abbrev pub confirmed_if : Command → Option PageValue → Option ConfirmedPage
confirmed_if command None = None
confirmed_if command (Some page) = Some (record { page = page; closes = is_last command })

-- what is answered at a decision
abbrev pub reply_to : Decision → List WaitingPacket
reply_to (GivesCfr dcs) = plain_reply Cfr None
reply_to GivesFtt = plain_reply Ftt None
reply_to (GivesMcf command page) = plain_reply Mcf (confirmed_if command page)
reply_to GivesRtn = plain_reply Rtn None
reply_to PassesOver = []
reply_to (Trains dcs) = []
reply_to HangsUp = []

abbrev pub is_waiting : List WaitingPacket → Bool
is_waiting [] = false
is_waiting (w ∷ waiting) = true
