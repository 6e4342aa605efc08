-- Written frames are read back.
use Rattle.std.proofs.Common.{◌≡◌, ℕ, zero, suc, ◌+◌, ◌*◌, ◌/◌, ◌%◌, ◌^◌, ◌<◌, ◌==◌, ◌&&◌, ◌||◌, Bool, true, false, List, [], ◌∷◌, All, Option, Some, None, unwrap_or, slice_index_or, refl, ap, ◌∙◌, subst, arith, if◌then◌else◌}
use Rattle.fax_runcodes.specs.declared.Width.{Width}
use Rattle.fax_runcodes.specs.declared.Width.TheVariants.{W1728, W2048, W2432}
use Rattle.fax_frames.specs.declared.rate.Rate.{Rate}
use Rattle.fax_frames.specs.declared.rate.Rate.TheVariants.{V27At2400, V27At4800, V29At7200, V29At9600, V17At7200, V17At9600, V17At12000, V17At14400}
use Rattle.fax_frames.specs.declared.dcs.Dcs.{Dcs}
use Rattle.fax_frames.specs.declared.dcs.Length.{Length}
use Rattle.fax_frames.specs.declared.dcs.Length.TheVariants.{A4, A4AndB4, Unlimited}
use Rattle.fax_frames.specs.declared.frame.Frame.{Frame}
use Rattle.fax_frames.specs.declared.frame.Frame.TheVariants as frames
use Rattle.fax_frames.specs.declared.writing.Plain.TheVariants as plain
use Rattle.fax_frames.specs.FieldBits.{bit_of, bits_of_octets, octets_of, code_at, has_bit, look_up}
use Rattle.fax_frames.specs.Capabilities.{rate_code, rate_of, width_code, width_of, length_code, time_code, time_of, IsScanTime}
use Rattle.fax_frames.specs.Frames.{frame_by, exact_fields, fields, dis_in, dcs_in, dcs_of, dcs_by}
use Rattle.std.proofs.Math.Nat.{mod-eq_of_lt}
use Rattle.fax_frames.specs.Written.{dcs_bits}
use Rattle.fax_frames.specs.Laws.{WrittenDcsAreRead, WrittenDisAreRead, WrittenDisAreThemselves, ReadDisHas24Bits, WrittenPlainAreRead}

pub written_plain_are_read : WrittenPlainAreRead
written_plain_are_read plain.Cfr got_dis = refl
written_plain_are_read plain.Ftt got_dis = refl
written_plain_are_read plain.Eom got_dis = refl
written_plain_are_read plain.Mps got_dis = refl
written_plain_are_read plain.Eop got_dis = refl
written_plain_are_read plain.Mcf got_dis = refl
written_plain_are_read plain.Rtn got_dis = refl
written_plain_are_read plain.Dcn true = refl
written_plain_are_read plain.Dcn false = refl

-- three octets make the 24 bits that they are of
octets_make : (bits : ℕ) → bits_of_octets (bits / 0x1_00_00 % 256) (bits / 0x1_00 % 256) (bits % 256) ≡ bits % 2 ^ 24
octets_make bits = omega arith

pub written_dis_are_read : WrittenDisAreRead
written_dis_are_read dis = ap (λ (bits : ℕ). Some (frames.Dis (record { caps = record { 0 = bits } }))) (octets_make dis.caps.0)

pub written_dis_are_themselves : WrittenDisAreThemselves
written_dis_are_themselves dis small =
    written_dis_are_read dis ∙ ap (λ (bits : ℕ). Some (frames.Dis (record { caps = record { 0 = bits } }))) (mod-eq_of_lt small)

-- a DIS has its 24 bits alone
abbrev Has24Bits : Frame → Type 0
Has24Bits (frames.Dis dis) = dis.caps.0 < 2 ^ 24
Has24Bits frame = Unit {0}

abbrev AllHave24Bits : List (ℕ × Frame) → Type 0
AllHave24Bits [] = Unit {0}
AllHave24Bits (entry ∷ table) = Has24Bits entry.1 × AllHave24Bits table

-- what is found in a table of such frames, or else such a frame
found_has_24_bits : (table : List (ℕ × Frame)) (code : ℕ) (frame : Frame) → AllHave24Bits table → Has24Bits frame → Has24Bits (unwrap_or (look_up table code) frame)
found_has_24_bits [] code frame all rest = rest
found_has_24_bits (entry ∷ table) code frame all rest = by (entry.0 == code) (found_has_24_bits table code frame all.1 rest)
  where
    by : (same : Bool) → Has24Bits (unwrap_or (look_up table code) frame) → Has24Bits (unwrap_or (if same then Some entry.1 else look_up table code) frame)
    by true later = all.0
    by false later = later

dis_has_24_bits : (info : List ℕ) → All (λ octet. octet < 256) info → Has24Bits (dis_in info)
dis_has_24_bits [] are_octets = tt
dis_has_24_bits (first ∷ []) are_octets = tt
dis_has_24_bits (first ∷ second ∷ []) are_octets = tt
dis_has_24_bits (first ∷ second ∷ third ∷ more) are_octets =
    let first_below : first < 256 = are_octets 0 0 (omega arith) in
    let second_below : second < 256 = are_octets 1 0 (omega arith) in
    let third_below : third < 256 = are_octets 2 0 (omega arith) in
    omega arith

dcs_has_24_bits : (bits : ℕ) (rate : Option Rate) (width : Option Width) → Has24Bits (dcs_by bits rate width)
dcs_has_24_bits bits None width = tt
dcs_has_24_bits bits (Some rate) None = tt
dcs_has_24_bits bits (Some rate) (Some width) = tt

no_dis_in_dcs : (info : List ℕ) → Has24Bits (dcs_in info)
no_dis_in_dcs [] = tt
no_dis_in_dcs (first ∷ []) = tt
no_dis_in_dcs (first ∷ second ∷ []) = tt
no_dis_in_dcs (first ∷ second ∷ third ∷ more) =
    let info : List ℕ = first ∷ second ∷ third ∷ more in
    let bits : ℕ = bits_of_octets first second third in
    by (bit_of 24 info && bit_of 27 info) bits (dcs_has_24_bits bits (rate_of (code_at 11 14 bits)) (width_of (code_at 17 18 bits)))
  where
    by : (refused : Bool) (bits : ℕ) → Has24Bits (dcs_of bits) → Has24Bits (if refused then frames.Other else dcs_of bits)
    by true bits has = tt
    by false bits has = has

frame_has_24_bits : (field : ℕ) (info : List ℕ) → All (λ octet. octet < 256) info → Has24Bits (frame_by field info)
frame_has_24_bits field info are_octets =
    found_has_24_bits (exact_fields info) field _ (dis_has_24_bits info are_octets, (tt, (tt, tt)))
    (found_has_24_bits (fields info) (field % 128) frames.Other
    (no_dis_in_dcs info, (tt, (tt, (tt, (tt, (tt, (tt, (tt, (tt, (tt, (tt, (tt, tt)))))))))))) tt)

pub read_dis_has_24_bits : ReadDisHas24Bits
read_dis_has_24_bits [] dis are_octets reads = absurd cc
read_dis_has_24_bits (address ∷ []) dis are_octets reads = absurd cc
read_dis_has_24_bits (address ∷ control ∷ []) dis are_octets reads = absurd cc
read_dis_has_24_bits (address ∷ control ∷ field ∷ info) dis are_octets reads =
    by ((address == 0xFF) && ((control == 0xC0) || (control == 0xC8))) (frame_by field info) (frame_has_24_bits field info (λ k d h. are_octets (suc (suc (suc k))) d (omega arith))) reads
  where
    by : (is_frame : Bool) (frame : Frame) → Has24Bits frame → (if is_frame then Some frame else None) ≡ Some (frames.Dis dis) → dis.caps.0 < 2 ^ 24
    by true frame has e = let same : frame ≡ frames.Dis dis = cc in subst Has24Bits same has
    by false frame has e = absurd cc

-- a rate's code is read as the rate, and has four bits
rate_back : (rate : Rate) → (rate_of (rate_code rate) ≡ Some rate) × (rate_code rate < 16)
rate_back V27At2400 = (refl, omega arith)
rate_back V27At4800 = (refl, omega arith)
rate_back V29At7200 = (refl, omega arith)
rate_back V29At9600 = (refl, omega arith)
rate_back V17At7200 = (refl, omega arith)
rate_back V17At9600 = (refl, omega arith)
rate_back V17At12000 = (refl, omega arith)
rate_back V17At14400 = (refl, omega arith)

-- a width's code is read as the width, and has two bits
width_back : (width : Width) → (width_of (width_code width) ≡ Some width) × (width_code width < 4)
width_back W1728 = (refl, omega arith)
width_back W2048 = (refl, omega arith)
width_back W2432 = (refl, omega arith)

-- a length's code has two bits
length_below : (length : Length) → length_code length < 4
length_below A4 = omega arith
length_below A4AndB4 = omega arith
length_below Unlimited = omega arith

-- a bit as a number is read as the bit
bit_back : (bit : Bool) → (((if bit then 1 else 0) == 1) ≡ bit) × ((if bit then 1 else 0) < 2)
bit_back true = (refl, omega arith)
bit_back false = (refl, omega arith)

-- the code of a time is read as the time, and has three bits
abbrev IsTimeBack : ℕ → Type 0
IsTimeBack ms = (time_of (time_code ms) ≡ ms) × (time_code ms < 8)

time_back : (ms : ℕ) → IsScanTime ms → IsTimeBack ms
time_back ms is_time = by is_time.0 is_time.1 is_time.2
  where
    by : (i : ℕ) → i < 5 → slice_index_or (20 ∷ 40 ∷ 10 ∷ 5 ∷ 0 ∷ []) i ms ≡ ms → IsTimeBack ms
    by zero h e = subst IsTimeBack e (refl, omega arith)
    by (suc zero) h e = subst IsTimeBack e (refl, omega arith)
    by (suc (suc zero)) h e = subst IsTimeBack e (refl, omega arith)
    by (suc (suc (suc zero))) h e = subst IsTimeBack e (refl, omega arith)
    by (suc (suc (suc (suc zero)))) h e = subst IsTimeBack e (refl, omega arith)
    by (suc (suc (suc (suc (suc i))))) h e = absurd (omega arith)

-- the bits of a DCS of these codes, and each code in them
record AreCodes (bits rate fine two_d width time : ℕ) : Type 0 where
  small : bits < 2 ^ 24
  rate_is : code_at 11 14 bits ≡ rate
  fine_is : code_at 15 15 bits ≡ fine
  two_d_is : code_at 16 16 bits ≡ two_d
  width_is : code_at 17 18 bits ≡ width
  time_is : code_at 21 23 bits ≡ time

codes_back : (rate fine two_d width length time : ℕ) → rate < 16 → fine < 2 → two_d < 2 → width < 4 → length < 4 → time < 8
    → AreCodes (1 * 2 ^ 14 + rate * 2 ^ 10 + fine * 2 ^ 9 + two_d * 2 ^ 8 + width * 2 ^ 6 + length * 2 ^ 4 + time * 2) rate fine two_d width time
codes_back rate fine two_d width length time h1 h2 h3 h4 h5 h6 = record {
  small = omega arith;
  rate_is = omega arith;
  fine_is = omega arith;
  two_d_is = omega arith;
  width_is = omega arith;
  time_is = omega arith;
}

-- a test whose second part fails
and_false : (b : Bool) → (b && false) ≡ false
and_false true = refl
and_false false = refl

-- bits that hold the codes of a DCS are read as it stands, but for the length
dcs_back : (bits : ℕ) (dcs : Dcs) → rate_of (code_at 11 14 bits) ≡ Some dcs.rate → width_of (code_at 17 18 bits) ≡ Some dcs.width
    → has_bit 15 bits ≡ dcs.fine → has_bit 16 bits ≡ dcs.two_d → time_of (code_at 21 23 bits) ≡ dcs.scan_ms
    → dcs_of bits ≡ frames.Dcs (record dcs { length = A4 })
dcs_back bits dcs rate width fine two_d time =
    ap (λ (x : Option Rate). dcs_by bits x (width_of (code_at 17 18 bits))) rate
    ∙ ap (λ (x : Option Width). dcs_by bits (Some dcs.rate) x) width
    ∙ ap (λ (x : Bool). frames.Dcs (record { rate = dcs.rate; fine = x; two_d = has_bit 16 bits; width = dcs.width; length = A4; scan_ms = time_of (code_at 21 23 bits) })) fine
    ∙ ap (λ (x : Bool). frames.Dcs (record { rate = dcs.rate; fine = dcs.fine; two_d = x; width = dcs.width; length = A4; scan_ms = time_of (code_at 21 23 bits) })) two_d
    ∙ ap (λ (x : ℕ). frames.Dcs (record { rate = dcs.rate; fine = dcs.fine; two_d = dcs.two_d; width = dcs.width; length = A4; scan_ms = x })) time

pub written_dcs_are_read : WrittenDcsAreRead
written_dcs_are_read dcs is_time =
    let bits : ℕ = dcs_bits dcs in
    let rate = rate_back dcs.rate in
    let fine = bit_back dcs.fine in
    let two_d = bit_back dcs.two_d in
    let width = width_back dcs.width in
    let time = time_back dcs.scan_ms is_time in
    let codes : AreCodes bits (rate_code dcs.rate) (if dcs.fine then 1 else 0) (if dcs.two_d then 1 else 0) (width_code dcs.width) (time_code dcs.scan_ms) =
    codes_back _ _ _ _ (length_code dcs.length) _ rate.1 fine.1 two_d.1 width.1 (length_below dcs.length) time.1 in
    let info : List ℕ = octets_of bits in
    ap (λ (x : Bool). Some (if x then frames.Other else dcs_of (bits_of_octets (bits / 65536 % 256) (bits / 256 % 256) (bits % 256)))) (and_false (bit_of 24 info))
    ∙ ap (λ (x : ℕ). Some (dcs_of x)) (octets_make bits ∙ mod-eq_of_lt codes.small)
    ∙ ap (λ (x : Frame). Some x) (dcs_back bits dcs
    (ap rate_of codes.rate_is ∙ rate.0)
    (ap width_of codes.width_is ∙ width.0)
    (ap (λ (x : ℕ). x == 1) codes.fine_is ∙ fine.0)
    (ap (λ (x : ℕ). x == 1) codes.two_d_is ∙ two_d.0)
    (ap time_of codes.time_is ∙ time.0))
