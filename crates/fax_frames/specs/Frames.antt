-- What octets are as a frame (ITU-T T.30, 5.3; where marked (own), this project's profile).
use Rattle.std.specs.Prelude.{ℕ, ◌%◌, ◌==◌, ◌&&◌, ◌||◌, List, [], ◌∷◌, Option, Some, None, if◌then◌else◌, unwrap_or}
use Rattle.fax_runcodes.specs.declared.Width.{Width}
use Rattle.fax_frames.specs.declared.rate.Rate.{Rate}
use Rattle.fax_frames.specs.declared.dcs.Length.TheVariants.{A4}
use Rattle.fax_frames.specs.declared.frame.Frame.{Frame}
use Rattle.fax_frames.specs.declared.frame.Frame.TheVariants as frames
use Rattle.fax_frames.specs.FieldBits.{bit_of, bits_of_octets, code_at, has_bit, look_up}
use Rattle.fax_frames.specs.Capabilities.{rate_of, width_of, time_of}

-- the DIS that an information field says: with fewer than three octets it says none (own)
abbrev pub dis_in : List ℕ → Frame
dis_in (first ∷ second ∷ third ∷ more) =
    frames.Dis (record { caps = record { 0 = bits_of_octets first second third } })
dis_in short = frames.Other

-- the DCS of bits 1 to 24 (Table 2), of the rate and the width that its codes name: none where one of
-- them names nothing (own). The length of a page is not read (own)
abbrev pub dcs_by : ℕ → Option Rate → Option Width → Frame
dcs_by bits (Some rate) (Some width) =
    frames.Dcs (record {
      rate = rate;
      fine = has_bit 15 bits;
      two_d = has_bit 16 bits;
      width = width;
      length = A4;
      scan_ms = time_of (code_at 21 23 bits);
    })
dcs_by bits rate width = frames.Other

-- the DCS of bits 1 to 24, by its codes
abbrev pub dcs_of : ℕ → Frame
dcs_of bits = dcs_by bits (rate_of (code_at 11 14 bits)) (width_of (code_at 17 18 bits))

-- the DCS that an information field says: none with fewer than three octets, or where the extend bit
-- and bit 27, error correction, are set (own)
abbrev pub dcs_in : List ℕ → Frame
dcs_in (first ∷ second ∷ third ∷ more) =
    if bit_of 24 (first ∷ second ∷ third ∷ more) && bit_of 27 (first ∷ second ∷ third ∷ more)
    then frames.Other else dcs_of (bits_of_octets first second third)
dcs_in short = frames.Other

-- the facsimile control fields (5.3.6.1) that are read as they stand
abbrev pub exact_fields : List ℕ → List (ℕ × Frame)
exact_fields info = (0x01, dis_in info) ∷ (0x02, frames.Csi) ∷ (0x04, frames.Nsf) ∷ []

-- those whose first bit, which tells who sends, is not looked at (own)
abbrev pub fields : List ℕ → List (ℕ × Frame)
fields info =
    (0x41, dcs_in info) ∷ (0x42, frames.Tsi) ∷
    (0x21, frames.Cfr) ∷ (0x22, frames.Ftt) ∷
    (0x71, frames.Eom) ∷ (0x72, frames.Mps) ∷ (0x74, frames.Eop) ∷
    (0x31, frames.Mcf) ∷ (0x32, frames.Rtn) ∷ (0x33, frames.Rtp) ∷
    (0x5F, frames.Dcn) ∷ (0x58, frames.Crp) ∷ []

-- the frame of a control field and an information field: one that stands in neither table is Other (own)
abbrev pub frame_by : ℕ → List ℕ → Frame
frame_by field info = unwrap_or (look_up (exact_fields info) field)
    (unwrap_or (look_up (fields info) (field % 128)) frames.Other)

-- the frame that octets are: the address FF (5.3.4), the control C0 or C8 (5.3.5), the facsimile
-- control field, and the information field after it
abbrev pub frame_of : List ℕ → Option Frame
frame_of (address ∷ control ∷ field ∷ info) =
    if (address == 0xFF) && ((control == 0xC0) || (control == 0xC8))
    then Some (frame_by field info) else None
frame_of short = None
