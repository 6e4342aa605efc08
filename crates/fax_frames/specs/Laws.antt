-- What holds of frames.
use Rattle.std.specs.Prelude.{◌≡◌, ℕ, ◌+◌, ◌*◌, ◌%◌, ◌^◌, ◌<◌, ◌≤◌, Bool, List, ◌∷◌, All, Some, map, if◌then◌else◌}
use Rattle.fax_frames.specs.declared.dis.Dis.{Dis}
use Rattle.fax_frames.specs.declared.dcs.Dcs.{Dcs}
use Rattle.fax_frames.specs.declared.dcs.Length.TheVariants.{A4}
use Rattle.fax_frames.specs.declared.frame.Frame.{Frame}
use Rattle.fax_frames.specs.declared.frame.Frame.TheVariants as frames
use Rattle.fax_frames.specs.declared.writing.Plain.{Plain}
use Rattle.fax_frames.specs.declared.writing.Plain.TheVariants as plain
use Rattle.fax_frames.specs.FieldBits.{bit_of, bits_of_octets, code_at, has_bit, put_at}
use Rattle.fax_frames.specs.Capabilities.{IsScanTime}
use Rattle.fax_frames.specs.Frames.{frame_of}
use Rattle.fax_frames.specs.Written.{written_dis, written_dcs, written_plain}

-- the masks of these bits
abbrev pub masks_of : List ℕ → List ℕ
masks_of bits = map (λ n. put_at n 1) bits

-- a written DCS is read as it stands, but for the length of a page, which is not read
abbrev pub WrittenDcsAreRead : Type 0
WrittenDcsAreRead = (dcs : Dcs) → IsScanTime dcs.scan_ms
    → frame_of (written_dcs dcs) ≡ Some (frames.Dcs (record dcs { length = A4 }))

-- a written DIS is read as its bits 1 to 24
abbrev pub WrittenDisAreRead : Type 0
WrittenDisAreRead = (dis : Dis) → frame_of (written_dis dis)
    ≡ Some (frames.Dis (record { caps = record { 0 = dis.caps.0 % 2 ^ 24 } }))

-- so one of no other bits is read as itself
abbrev pub WrittenDisAreThemselves : Type 0
WrittenDisAreThemselves = (dis : Dis)
    → dis.caps.0 < 2 ^ 24 → frame_of (written_dis dis) ≡ Some (frames.Dis dis)

-- a DIS that is read has these 24 bits alone
abbrev pub ReadDisHas24Bits : Type 0
ReadDisHas24Bits = (octets : List ℕ) (dis : Dis) → All (λ octet. octet < 256) octets
    → frame_of octets ≡ Some (frames.Dis dis) → dis.caps.0 < 2 ^ 24

-- the frame of the same name
abbrev pub frame_named : Plain → Frame
frame_named plain.Cfr = frames.Cfr
frame_named plain.Ftt = frames.Ftt
frame_named plain.Eom = frames.Eom
frame_named plain.Mps = frames.Mps
frame_named plain.Eop = frames.Eop
frame_named plain.Mcf = frames.Mcf
frame_named plain.Rtn = frames.Rtn
frame_named plain.Dcn = frames.Dcn

-- a written frame with no information field is read as itself
abbrev pub WrittenPlainAreRead : Type 0
WrittenPlainAreRead = (written : Plain) (got_dis : Bool)
    → frame_of (written_plain written got_dis) ≡ Some (frame_named written)

-- bit n of a DIS is bit n of its information field (ITU-T T.30, 5.3.6.2 and Table 2)
abbrev pub DisBitsStandInOrder : Type 0
DisBitsStandInOrder = (info : List ℕ) (dis : Dis) (n : ℕ)
    → All (λ octet. octet < 256) info → frame_of (0xFF ∷ 0xC8 ∷ 0x01 ∷ info) ≡ Some (frames.Dis dis)
    → 0 < n → n ≤ 24 → has_bit n dis.caps.0 ≡ bit_of n info

-- bits 1 to 24 of three octets are those of an information field that begins with them
abbrev pub BitsStandInOrder : Type 0
BitsStandInOrder = (first second third : ℕ) (more : List ℕ) (n : ℕ)
    → first < 256 → second < 256 → third < 256 → 0 < n → n ≤ 24
    → has_bit n (bits_of_octets first second third) ≡ bit_of n (first ∷ second ∷ third ∷ more)

-- a code is spelt by its bits: each further one doubles it and adds the bit
abbrev pub CodesAreSpelt : Type 0
CodesAreSpelt = (bits first last : ℕ)
    → 0 < first → first ≤ last → last < 24 → code_at first (last + 1) bits
    ≡ 2 * code_at first last bits + (if has_bit (last + 1) bits then 1 else 0)
