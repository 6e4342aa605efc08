-- The octets of a written frame (ITU-T T.30, 5.3). That each is written as a last frame, and a DIS and a
-- DCS with bits 1 to 24 alone, is this project's profile.
use Rattle.std.specs.Prelude.{ℕ, ◌+◌, Bool, List, [], ◌∷◌, ◌++◌, if◌then◌else◌}
use Rattle.fax_frames.specs.declared.dis.Dis.{Dis}
use Rattle.fax_frames.specs.declared.dcs.Dcs.{Dcs}
use Rattle.fax_frames.specs.declared.writing.Plain.{Plain}
use Rattle.fax_frames.specs.declared.writing.Plain.TheVariants.{Cfr, Ftt, Eom, Mps, Eop, Mcf, Rtn, Dcn}
use Rattle.fax_frames.specs.FieldBits.{octets_of, put_at}
use Rattle.fax_frames.specs.Capabilities.{rate_code, width_code, length_code, time_code}

-- the address, the control of a last frame, and then the facsimile control field
abbrev pub front : ℕ → List ℕ
front field = 0xFF ∷ 0xC8 ∷ field ∷ []

-- The control fields of frames with no information field (5.3.6.1). The first bit is 1 where the sender
-- got a DIS: it is 0 in CFR, FTT, MCF and RTN, which the answerer writes, and 1 in EOM, MPS and EOP,
-- which the caller writes. Both write DCN.
abbrev pub field_of : Plain → Bool → ℕ
field_of Cfr got_dis = 0x21
field_of Ftt got_dis = 0x22
field_of Eom got_dis = 0xF1
field_of Mps got_dis = 0xF2
field_of Eop got_dis = 0xF4
field_of Mcf got_dis = 0x31
field_of Rtn got_dis = 0x32
field_of Dcn got_dis = if got_dis then 0xDF else 0x5F

-- a frame with no information field
abbrev pub written_plain : Plain → Bool → List ℕ
written_plain plain got_dis = front (field_of plain got_dis)

-- a DIS: its control field has the first bit 0, and bits 1 to 24 stand after it
abbrev pub written_dis : Dis → List ℕ
written_dis dis = front 0x01 ++ octets_of dis.caps.0

-- bits 1 to 24 of a DCS (Table 2). Bit 10 is 1, and all that is not named 0
abbrev pub dcs_bits : Dcs → ℕ
dcs_bits dcs =
    put_at 10 1
    + put_at 14 (rate_code dcs.rate)
    + put_at 15 (if dcs.fine then 1 else 0)
    + put_at 16 (if dcs.two_d then 1 else 0)
    + put_at 18 (width_code dcs.width)
    + put_at 20 (length_code dcs.length)
    + put_at 23 (time_code dcs.scan_ms)

-- a DCS, as the caller writes it: its control field has the first bit 1
abbrev pub written_dcs : Dcs → List ℕ
written_dcs dcs = front 0xC1 ++ octets_of (dcs_bits dcs)
