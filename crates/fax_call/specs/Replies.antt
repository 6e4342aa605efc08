-- The packets that the caller gives (ITU-T T.30, 5.3 and 5.2, as packets of T.38).
use Rattle.std.specs.Prelude.{ℕ, zero, suc, ◌+◌, ◌*◌, ◌/◌, nat_eq, nat_le, Bool, true, false, not, ◌&&◌, List, [], ◌∷◌, length, take, drop, replicate, slice_get, Option, Some, None, if◌then◌else◌}
use Rattle.fax_runcodes.specs.declared.format.Format.{Format}
use Rattle.fax_runcodes.specs.declared.Width.{Width}
use Rattle.fax_runcodes.specs.declared.Width.TheVariants.{W1728, W2048, W2432}
use Rattle.fax_frames.specs.declared.dcs.Dcs.{Dcs}
use Rattle.fax_frames.specs.declared.writing.Plain.{Plain}
use Rattle.fax_frames.specs.declared.writing.Plain.TheVariants.{Eom, Mps, Eop, Dcn}
use Rattle.fax_frames.specs.Rates.{bits_a_second, kind_of, training_of}
use Rattle.fax_frames.specs.Written.{written_plain, written_dcs}
use Rattle.fax_ifp.specs.declared.codes.Indicator.TheVariants.{Cng, V21Preamble}
use Rattle.fax_ifp.specs.Codes.{indicator_code}
use Rattle.fax_ifp.specs.WrittenPackets.{written_indicator, written_message, frame_fields, image_fields}

-- a packet: an indicator, a frame, or a part of a high-speed signal
pub data Packet : Type 0 where
  Signals : (code : ℕ) → Packet
  Tells : (frame : List ℕ) → Packet
  Part : (kind : ℕ) → (last : Bool) → (octets : List ℕ) → Packet

abbrev pub written : Packet → List ℕ
written (Signals code) = written_indicator code
written (Tells frame) = written_message 0 (frame_fields frame)
written (Part kind last octets) = written_message kind (image_fields last octets)

-- what waits: a packet, or the text of a page of the job under a DCS, from some octet on
pub data Due : Type 0 where
  One : (packet : Packet) → Due
  Text : (page : ℕ) → (dcs : Dcs) → (from : ℕ) → Due

abbrev pub waits : List Due → Bool
waits [] = false
waits (d ∷ due) = true

-- High-speed signals go in packets of 40 ms (this project's profile): so many octets in each but the last
abbrev pub part_length : Dcs → ℕ
part_length dcs = bits_a_second dcs.rate / 200

-- octets in packets of n, the last of them ending the signal; there are no more packets than `most`
abbrev pub parts_of : (most : ℕ) → (kind : ℕ) → (n : ℕ) → List ℕ → List Due
parts_of zero kind n octets = []
parts_of (suc most) kind n octets =
    if nat_le (length octets) n then One (Part kind true octets) ∷ []
    else One (Part kind false (take n octets)) ∷ parts_of most kind n (drop n octets)

-- the training check: 1.5 seconds of zeros (ITU-T T.30, 5.3.6.1.3)
abbrev pub check_length : Dcs → ℕ
check_length dcs = bits_a_second dcs.rate * 3 / 16

unfoldable pub training_check : Dcs → List Due
training_check dcs = parts_of (check_length dcs)
    (kind_of dcs.rate) (part_length dcs) (replicate (check_length dcs) 0)

-- whether a packet is the preamble before a frame
abbrev pub signals_preamble : Packet → Bool
signals_preamble (Signals code) = nat_eq code (indicator_code V21Preamble)
signals_preamble (Tells frame) = false
signals_preamble (Part kind last octets) = false

-- the tone of a calling terminal
abbrev pub calling_tone : List Due
calling_tone = One (Signals (indicator_code Cng)) ∷ []

-- a frame after its preamble
abbrev pub frame_reply : List ℕ → List Due
frame_reply frame = One (Signals (indicator_code V21Preamble)) ∷ One (Tells frame) ∷ []

-- a training: the DCS, the long training indicator and the training check
abbrev pub training : Dcs → List Due
training dcs = One (Signals (indicator_code V21Preamble))
    ∷ One (Tells (written_dcs dcs)) ∷ One (Signals (training_of dcs.rate true)) ∷ training_check dcs

abbrev pub is_last_page : (pages : ℕ) → (page : ℕ) → Bool
is_last_page pages page = nat_eq (page + 1) pages

-- whether two formats are one
abbrev pub same_width : Width → Width → Bool
same_width W1728 W1728 = true
same_width W2048 W2048 = true
same_width W2432 W2432 = true
same_width v w = false

abbrev pub same_bool : Bool → Bool → Bool
same_bool true b = b
same_bool false b = not b

abbrev pub same_format : Format → Format → Bool
same_format f g = same_width f.width g.width && same_bool f.fine g.fine

-- the format of the page after one, where there is such a page and its format is another
abbrev pub turn_if : Option Format → Option Format → Option Format
turn_if (Some format) (Some next) = if same_format format next then None else Some next
turn_if format next = None

abbrev pub turn_after : List Format → (page : ℕ) → Option Format
turn_after formats page = turn_if (slice_get formats page) (slice_get formats (page + 1))

-- the command after a page (ITU-T T.30, 5.3.6.1.5): EOP after the last one, EOM where the next one is of another format,
-- else MPS
abbrev pub command_by : (is_last : Bool) → (turn : Option Format) → Plain
command_by true turn = Eop
command_by false (Some format) = Eom
command_by false None = Mps

abbrev pub command_after : List Format → (pages : ℕ) → (page : ℕ) → Plain
command_after formats pages page = command_by (is_last_page pages page) (turn_after formats page)

abbrev pub command : Plain → List Due
command plain = frame_reply (written_plain plain true)

-- an image: the short training indicator, the text of the page, and the command
abbrev pub image : Plain → (page : ℕ) → Dcs → List Due
image plain page dcs = One (Signals (training_of dcs.rate false)) ∷ Text page dcs 0 ∷ command plain

abbrev pub goodbye : List Due
goodbye = frame_reply (written_plain Dcn true)
