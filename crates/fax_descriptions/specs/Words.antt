-- WORDS: what a frame, a rate, a format and a run of datagrams are called in the lines of a ladder: frames by ITU-T T.30, 5.3.6.1,
-- types of data by T.38 of 1998, T30_DATA. (The words are this project's profile.)
use Rattle.std.specs.Prelude.{ℕ, ◌+◌, ◌-◌, ◌/◌, ◌%◌, ◌==◌, ◌||◌, Bool, true, false, List, [], ◌∷◌, ◌++◌, Option, Some, None, if◌then◌else◌, codes, decimal, slice_index}
use Rattle.std.specs.Fmt.{digit_glyph}
use Rattle.fax_runcodes.specs.declared.Width.TheVariants.{W2048, W2432}
use Rattle.fax_runcodes.specs.declared.format.Format.{Format}
use Rattle.fax_runcodes.specs.Widths.{elements_of}
use Rattle.fax_frames.specs.declared.dcs.Dcs.{Dcs}
use Rattle.fax_frames.specs.declared.frame.Frame.{Frame}
use Rattle.fax_frames.specs.declared.frame.Frame.TheVariants as frames
use Rattle.fax_frames.specs.declared.rate.Rate.{Rate}
use Rattle.fax_frames.specs.declared.rate.Rate.TheVariants.{V27At2400, V27At4800, V29At7200, V29At9600, V17At7200, V17At9600, V17At12000, V17At14400}
use Rattle.fax_frames.specs.FieldBits.{has_bit}
use Rattle.fax_frames.specs.Capabilities.{has_width, rates_in, scan_time}
use Rattle.fax_frames.specs.Frames.{frame_of}
use Rattle.fax_frames.specs.Rates.{bits_a_second}
use Rattle.fax_jobs.specs.ReportTexts.{resolution_name}

-- ---- rates

-- the recommendation of the V series that a rate's modulation has
abbrev pub recommendation_of : Rate → ℕ
recommendation_of V27At2400 = 27
recommendation_of V27At4800 = 27
recommendation_of V29At7200 = 29
recommendation_of V29At9600 = 29
recommendation_of V17At7200 = 17
recommendation_of V17At9600 = 17
recommendation_of V17At12000 = 17
recommendation_of V17At14400 = 17

-- the name of a rate's modulation
abbrev pub modulation_name : Rate → List ℕ
modulation_name V27At2400 = codes "V.27ter"
modulation_name V27At4800 = codes "V.27ter"
modulation_name V29At7200 = codes "V.29"
modulation_name V29At9600 = codes "V.29"
modulation_name V17At7200 = codes "V.17"
modulation_name V17At9600 = codes "V.17"
modulation_name V17At12000 = codes "V.17"
modulation_name V17At14400 = codes "V.17"

-- rates after one of this recommendation: each by its bits a second, those of a modulation after its name
abbrev pub modulation_text : (last : ℕ) → Rate → List ℕ
modulation_text last rate =
    if recommendation_of rate == last then [] else codes ", " ++ modulation_name rate

abbrev pub rate_text : (last : ℕ) → Rate → List ℕ
rate_text last rate = modulation_text last rate ++ (codes " " ++ decimal (bits_a_second rate))

abbrev pub rates_text : (last : ℕ) → List Rate → List ℕ
rates_text last [] = []
rates_text last (rate ∷ rates) = rate_text last rate ++ rates_text (recommendation_of rate) rates

-- ---- frames

-- what a DIS of these bits offers
abbrev pub receives_text : Bool → List ℕ
receives_text true = codes "receives"
receives_text false = codes "does not receive"

abbrev pub widths_text : (b4 a3 : Bool) → List ℕ
widths_text b4 true = codes "1728 2048 2432"
widths_text true false = codes "1728 2048"
widths_text false false = codes "1728"

abbrev pub resolutions_text : Bool → List ℕ
resolutions_text true = codes "standard fine"
resolutions_text false = codes "standard"

abbrev pub codings_text : Bool → List ℕ
codings_text true = codes "MH MR"
codings_text false = codes "MH"

abbrev pub offer_text : ℕ → List ℕ
offer_text caps = codes "DIS " ++ (receives_text (has_bit 10 caps)
    ++ (codes ", " ++ (widths_text (has_width W2048 caps) (has_width W2432 caps) ++ (codes ", "
    ++ (resolutions_text (has_bit 15 caps) ++ (codes ", " ++ codings_text (has_bit 16 caps)))))))

abbrev pub times_text : ℕ → List ℕ
times_text caps = codes ", " ++ (decimal (scan_time caps false)
    ++ (codes " ms a row, fine " ++ (decimal (scan_time caps true) ++ codes " ms")))

abbrev pub dis_text : ℕ → List ℕ
dis_text caps = offer_text caps ++ (rates_text 0 (rates_in caps) ++ times_text caps)

-- what a DCS chose
abbrev pub coding_name : (two_d : Bool) → List ℕ
coding_name true = codes "MR"
coding_name false = codes "MH"

abbrev pub choice_text : Dcs → List ℕ
choice_text dcs = codes "DCS " ++ (decimal (elements_of dcs.width)
    ++ (codes ", " ++ (resolution_name dcs.fine ++ (codes ", " ++ coding_name dcs.two_d))))

abbrev pub dcs_text : Dcs → List ℕ
dcs_text dcs = choice_text dcs
    ++ (codes ", " ++ (modulation_name dcs.rate ++ (codes " " ++ (decimal (bits_a_second dcs.rate)
    ++ (codes ", " ++ (decimal dcs.scan_ms ++ codes " ms a row"))))))

-- a frame that this project does not read, by its facsimile control field, which is told in hex
abbrev pub field_text : ℕ → List ℕ
field_text field = codes "a frame that is not read: "
    ++ (digit_glyph false (field / 16) ∷ digit_glyph false (field % 16) ∷ [])

abbrev pub other_text : ℕ → List ℕ
other_text field = if field == 0x01 then codes "DIS that is not read: fewer than three octets"
    else if (field == 0x41) || (field == 0xC1)
    then codes "DCS that is not read: error correction, or no rate or width of ours"
    else field_text field

-- the name of a frame
abbrev pub frame_name : Frame → List ℕ
frame_name (frames.Dis dis) = codes "DIS"
frame_name frames.Csi = codes "CSI"
frame_name frames.Nsf = codes "NSF"
frame_name (frames.Dcs dcs) = codes "DCS"
frame_name frames.Tsi = codes "TSI"
frame_name frames.Cfr = codes "CFR"
frame_name frames.Ftt = codes "FTT"
frame_name frames.Eom = codes "EOM"
frame_name frames.Mps = codes "MPS"
frame_name frames.Eop = codes "EOP"
frame_name frames.Mcf = codes "MCF"
frame_name frames.Rtn = codes "RTN"
frame_name frames.Rtp = codes "RTP"
frame_name frames.Dcn = codes "DCN"
frame_name frames.Crp = codes "CRP"
frame_name frames.Other = codes "another frame"

-- what the frame says that octets are
abbrev pub text_as : (octets : List ℕ) → Option Frame → List ℕ
text_as octets None = codes "octets that are no frame"
text_as octets (Some (frames.Dis dis)) = dis_text dis.caps.0
text_as octets (Some (frames.Dcs dcs)) = dcs_text dcs
text_as octets (Some frames.Other) = other_text (slice_index octets 2)
text_as octets (Some frame) = frame_name frame

abbrev pub frame_text : List ℕ → List ℕ
frame_text octets = text_as octets (frame_of octets)

-- ---- formats, types of data, numbers

-- a format as a job's line has it
abbrev pub format_text : Format → List ℕ
format_text format =
    decimal (elements_of format.width) ++ (codes " " ++ resolution_name format.fine)

-- the modulation and the rate of a type of data
abbrev pub kind_name : ℕ → List ℕ
kind_name kind =
    if kind == 1 then codes "V.27ter 2400" else if kind == 2 then codes "V.27ter 4800"
    else if kind == 3 then codes "V.29 7200" else if kind == 4 then codes "V.29 9600"
    else if kind == 5 then codes "V.17 7200" else if kind == 6 then codes "V.17 9600"
    else if kind == 7 then codes "V.17 12000" else if kind == 8 then codes "V.17 14400"
    else codes "no modulation of ours"

-- the numbers of so many datagrams in a row, which go on with 0 after 65535 (ITU-T T.38, annex C)
abbrev pub last_number : (first count : ℕ) → ℕ
last_number first count = (first + (count - 1)) % 65536

abbrev pub numbers_text : (first count : ℕ) → List ℕ
numbers_text first count = if last_number first count == first
    then decimal first else decimal first ++ (codes "-" ++ decimal (last_number first count))

-- whether an image is whole, and which datagrams are missing in it if it is not
abbrev pub wholeness_text : Bool → (missing : List ℕ) → List ℕ
wholeness_text true missing = codes "whole"
wholeness_text false [] = codes "not whole, something else stands in it"
wholeness_text false (octet ∷ missing) = codes "not whole, missing" ++ octet ∷ missing
