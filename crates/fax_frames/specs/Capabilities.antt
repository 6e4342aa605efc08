-- What a DIS and a DCS say (ITU-T T.30, Table 2; where marked (own), this project's profile).
use Rattle.std.specs.Prelude.{ℕ, ◌*◌, ◌/◌, ◌==◌, nat_le, Bool, List, [], ◌∷◌, ◌++◌, Option, if◌then◌else◌, find, map, unwrap_or, Contains}
use Rattle.fax_runcodes.specs.declared.Width.{Width}
use Rattle.fax_runcodes.specs.declared.Width.TheVariants.{W1728, W2048, W2432}
use Rattle.fax_runcodes.specs.declared.format.Format.{Format}
use Rattle.fax_runcodes.specs.declared.format.Coding.{Coding}
use Rattle.fax_runcodes.specs.declared.format.Coding.TheVariants.{Mh, Mr}
use Rattle.fax_runcodes.specs.Widths.{elements_of}
use Rattle.fax_frames.specs.declared.rate.Rate.{Rate}
use Rattle.fax_frames.specs.declared.rate.Rate.TheVariants.{V27At2400, V27At4800, V29At7200, V29At9600, V17At7200, V17At9600, V17At12000, V17At14400}
use Rattle.fax_frames.specs.declared.dis.Dis.{Dis}
use Rattle.fax_frames.specs.declared.dcs.Dcs.{Dcs}
use Rattle.fax_frames.specs.declared.dcs.Length.{Length}
use Rattle.fax_frames.specs.declared.dcs.Length.TheVariants.{A4, A4AndB4, Unlimited}
use Rattle.fax_frames.specs.FieldBits.{bits_of_octets, code_at, look_up}
use Rattle.fax_frames.specs.Rates.{bits_a_second}

-- bits 11 to 14 of a DIS: the rates, the fastest of a modulation first, in the order in which they are
-- tried (own). 0000 is the fallback of V.27ter
abbrev pub dis_rates : List (ℕ × List Rate)
dis_rates =
    (0b0000, V27At2400 ∷ []) ∷
    (0b0100, V27At4800 ∷ V27At2400 ∷ []) ∷
    (0b1000, V29At9600 ∷ V29At7200 ∷ []) ∷
    (0b1100, V29At9600 ∷ V29At7200 ∷ V27At4800 ∷ V27At2400 ∷ []) ∷
    (0b1101, V17At14400 ∷ V17At12000 ∷ V17At9600 ∷ V17At7200 ∷ V27At4800 ∷ V27At2400 ∷ []) ∷ []

-- another code is read as 1100 where it has bits 11 and 12, else as 0000 (own)
abbrev pub read_as : ℕ → ℕ
read_as code = if nat_le 0b1100 code then 0b1100 else 0b0000

-- the rates of a DIS, by its bits 1 to 24
abbrev pub rates_in : ℕ → List Rate
rates_in caps =
    let code = code_at 11 14 caps in
    unwrap_or (look_up dis_rates code) (unwrap_or (look_up dis_rates (read_as code)) [])

-- bits 17 and 18 of a DIS: the elements of the widest row; the rows of each smaller width come with it
abbrev pub dis_widths : List (ℕ × ℕ)
dis_widths = (0b00, 1728) ∷ (0b10, 2048) ∷ (0b01, 2432) ∷ (0b11, 2432) ∷ []

-- a DIS has the widths up to its widest
abbrev pub has_width : Width → ℕ → Bool
has_width width caps =
    nat_le (elements_of width) (unwrap_or (look_up dis_widths (code_at 17 18 caps)) 1728)

-- bits 19 and 20 of a DIS: the greatest length of a page. 11 is read as 00 (own)
abbrev pub dis_lengths : List (ℕ × Length)
dis_lengths = (0b00, A4) ∷ (0b10, A4AndB4) ∷ (0b01, Unlimited) ∷ []

-- the greatest length of a page of a DIS
abbrev pub length_in : ℕ → Length
length_in caps = unwrap_or (look_up dis_lengths (code_at 19 20 caps)) A4

-- bits 21 to 23 of a DIS: the least time of a line, in milliseconds, at 3.85 and at 7.7 lines per mm
abbrev pub dis_times : List (ℕ × (ℕ × ℕ))
dis_times =
    (0b000, (20, 20)) ∷ (0b001, (40, 40)) ∷ (0b010, (10, 10)) ∷ (0b100, (5, 5)) ∷
    (0b011, (10, 5)) ∷ (0b110, (20, 10)) ∷ (0b101, (40, 20)) ∷ (0b111, (0, 0)) ∷ []

-- the least time of a line of a DIS at the standard or the fine resolution
abbrev pub scan_time : ℕ → Bool → ℕ
scan_time caps fine =
    let times = unwrap_or (look_up dis_times (code_at 21 23 caps)) (0, 0) in
    if fine then times.1 else times.0

-- bits 11 to 14 of a DCS
abbrev pub rate_code : Rate → ℕ
rate_code V27At2400 = 0b0000
rate_code V27At4800 = 0b0100
rate_code V29At9600 = 0b1000
rate_code V29At7200 = 0b1100
rate_code V17At14400 = 0b0001
rate_code V17At12000 = 0b0101
rate_code V17At9600 = 0b1001
rate_code V17At7200 = 0b1101

-- the rates of a DCS
abbrev pub all_rates : List Rate
all_rates = V27At2400
    ∷ V27At4800 ∷ V29At9600 ∷ V29At7200 ∷ V17At14400 ∷ V17At12000 ∷ V17At9600 ∷ V17At7200 ∷ []

-- the rate that has this code
abbrev pub rate_of : ℕ → Option Rate
rate_of code = find (λ rate. rate_code rate == code) all_rates

-- bits 17 and 18 of a DCS
abbrev pub width_code : Width → ℕ
width_code W1728 = 0b00
width_code W2048 = 0b10
width_code W2432 = 0b01

-- the width that has this code
abbrev pub width_of : ℕ → Option Width
width_of code = find (λ width. width_code width == code) (W1728 ∷ W2048 ∷ W2432 ∷ [])

-- bits 19 and 20 of a DCS
abbrev pub length_code : Length → ℕ
length_code A4 = 0b00
length_code A4AndB4 = 0b10
length_code Unlimited = 0b01

-- bits 21 to 23 of a DCS, and the time of a line in milliseconds
abbrev pub dcs_times : List (ℕ × ℕ)
dcs_times = (0b000, 20) ∷ (0b001, 40) ∷ (0b010, 10) ∷ (0b100, 5) ∷ (0b111, 0) ∷ []

-- codes that are not written, and read all the same (own)
abbrev pub other_dcs_times : List (ℕ × ℕ)
other_dcs_times = (0b011, 10) ∷ (0b110, 20) ∷ (0b101, 40) ∷ []

-- the time that a code says, and the code that is written for a time
abbrev pub time_of : ℕ → ℕ
time_of code = unwrap_or (look_up (dcs_times ++ other_dcs_times) code) 0

abbrev pub time_code : ℕ → ℕ
time_code ms = unwrap_or (look_up (map (λ entry. (entry.1, entry.0)) dcs_times) ms) 0

-- a time that a DCS can say
abbrev pub IsScanTime : ℕ → Type 0
IsScanTime ms = Contains (map (λ entry. entry.1) dcs_times) ms

-- what a DCS says of a page: its format, its coding, and the least bits of a line, its EOL included
abbrev pub format_of : Dcs → Format
format_of dcs = record { width = dcs.width; fine = dcs.fine }

abbrev pub coding_of : Dcs → Coding
coding_of dcs = if dcs.two_d then Mr else Mh

abbrev pub least_bits_of : Dcs → ℕ
least_bits_of dcs = bits_a_second dcs.rate * dcs.scan_ms / 1000

-- our own DIS, of the octets 00 77 5E (own)
abbrev pub our_dis : Dis
our_dis = record { caps = record { 0 = bits_of_octets 0x00 0x77 0x5E } }
