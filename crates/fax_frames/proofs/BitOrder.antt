-- The bits of an information field stand where the standard counts them.
use Rattle.std.proofs.Common.{◌≡◌, ℕ, zero, suc, ◌+◌, ◌-◌, ◌*◌, ◌/◌, ◌%◌, ◌^◌, ◌<◌, ◌==◌, Bool, nat_lt, List, [], ◌∷◌, slice_index, refl, ap, sym, ◌∙◌, subst, arith, if◌then◌else◌}
use Rattle.std.specs.Int.{bit_at}
use Rattle.std.specs.Int.RustNames.{bit_and}
use Rattle.fax_frames.specs.declared.dis.Dis.{Dis}
use Rattle.fax_frames.specs.FieldBits.{bit_of, bits_of_octets, code_at, has_bit}
use Rattle.fax_frames.proofs.BitLemmas.{mask_hit}
use Rattle.std.proofs.Math.Nat.{div-div-eq-div-mul, mul_comm}
use Rattle.std.proofs.lemmas.Nat.{mod-pow-add, pow-add}
use Rattle.std.proofs.lemmas.Nat.Bits.{bit_at_cat_low, bit_at_cat_high, bit_at-lt}
use Rattle.fax_frames.specs.Laws.{DisBitsStandInOrder, BitsStandInOrder, CodesAreSpelt}

-- the place of bit 8 q + j + 1 of an information field
mask_shifted : (j : ℕ) → j < 8 → 0x80 / 2 ^ j ≡ 2 ^ (7 - j)
mask_shifted zero h = refl
mask_shifted (suc zero) h = refl
mask_shifted (suc (suc zero)) h = refl
mask_shifted (suc (suc (suc zero))) h = refl
mask_shifted (suc (suc (suc (suc zero)))) h = refl
mask_shifted (suc (suc (suc (suc (suc zero))))) h = refl
mask_shifted (suc (suc (suc (suc (suc (suc zero)))))) h = refl
mask_shifted (suc (suc (suc (suc (suc (suc (suc zero))))))) h = refl
mask_shifted (suc (suc (suc (suc (suc (suc (suc (suc j)))))))) h = absurd (omega arith)

-- bit n of an information field, by its octet and its place there
bit_of_octet : (q j : ℕ) (info : List ℕ) → j < 8 → bit_of (8 * q + j + 1) info ≡ (bit_at (slice_index info q) (7 - j) == 1)
bit_of_octet q j info h =
    let octet_is : (8 * q + j + 1 - 1) / 8 ≡ q = omega arith in
    let place_is : (8 * q + j + 1 - 1) % 8 ≡ j = omega arith in
    ap (λ (x : ℕ). nat_lt 0 (bit_and (slice_index info x) (0x80 / 2 ^ ((8 * q + j + 1 - 1) % 8)))) octet_is
    ∙ ap (λ (x : ℕ). nat_lt 0 (bit_and (slice_index info q) (0x80 / 2 ^ x))) place_is
    ∙ ap (λ (x : ℕ). nat_lt 0 (bit_and (slice_index info q) x)) (mask_shifted j h)
    ∙ mask_hit (slice_index info q) (7 - j)

-- bit n of 24 bits, by its place from the end
has_bit_at : (n bits : ℕ) → has_bit n bits ≡ (bit_at bits (24 - n) == 1)
has_bit_at n bits =
    let one : n + 1 - n ≡ 1 = omega arith in
    ap (λ (x : ℕ). bits / 2 ^ (24 - n) % 2 ^ x == 1) one

-- the bits of three octets as one number, octet by octet
in_first : (first second third j : ℕ) → second < 256 → third < 256 → j < 8 → bit_at (bits_of_octets first second third) (23 - j) ≡ bit_at first (7 - j)
in_first first second third j h2 h3 hj =
    let cat : bits_of_octets first second third ≡ first * 2 ^ 16 + (second * 2 ^ 8 + third) = omega arith in
    let place : 23 - j - 16 ≡ 7 - j = omega arith in
    ap (λ (x : ℕ). bit_at x (23 - j)) cat
    ∙ bit_at_cat_high first 16 (second * 2 ^ 8 + third) (23 - j) (omega arith) (omega arith)
    ∙ ap (λ (x : ℕ). bit_at first x) place

in_second : (first second third j : ℕ) → third < 256 → j < 8 → bit_at (bits_of_octets first second third) (15 - j) ≡ bit_at second (7 - j)
in_second first second third j h3 hj =
    let cat : bits_of_octets first second third ≡ first * 2 ^ 16 + (second * 2 ^ 8 + third) = omega arith in
    let place : 15 - j - 8 ≡ 7 - j = omega arith in
    ap (λ (x : ℕ). bit_at x (15 - j)) cat
    ∙ bit_at_cat_low first 16 (second * 2 ^ 8 + third) (15 - j) (omega arith)
    ∙ bit_at_cat_high second 8 third (15 - j) (omega arith) (omega arith)
    ∙ ap (λ (x : ℕ). bit_at second x) place

in_third : (first second third j : ℕ) → j < 8 → bit_at (bits_of_octets first second third) (7 - j) ≡ bit_at third (7 - j)
in_third first second third j hj =
    let cat : bits_of_octets first second third ≡ first * 2 ^ 16 + (second * 2 ^ 8 + third) = omega arith in
    ap (λ (x : ℕ). bit_at x (7 - j)) cat
    ∙ bit_at_cat_low first 16 (second * 2 ^ 8 + third) (7 - j) (omega arith)
    ∙ bit_at_cat_low second 8 third (7 - j) (omega arith)

-- bit 8 q + j + 1 of three octets
in_order : (q j first second third : ℕ) (more : List ℕ) → q < 3 → j < 8 → second < 256 → third < 256
    → has_bit (8 * q + j + 1) (bits_of_octets first second third) ≡ bit_of (8 * q + j + 1) (first ∷ second ∷ third ∷ more)
in_order zero j first second third more hq hj h2 h3 =
    let bits : ℕ = bits_of_octets first second third in
    let place : 24 - (8 * 0 + j + 1) ≡ 23 - j = omega arith in
    has_bit_at (8 * 0 + j + 1) bits
    ∙ ap (λ (x : ℕ). bit_at bits x == 1) place
    ∙ ap (λ (x : ℕ). x == 1) (in_first first second third j h2 h3 hj)
    ∙ sym (bit_of_octet 0 j (first ∷ second ∷ third ∷ more) hj)
in_order (suc zero) j first second third more hq hj h2 h3 =
    let bits : ℕ = bits_of_octets first second third in
    let place : 24 - (8 * 1 + j + 1) ≡ 15 - j = omega arith in
    has_bit_at (8 * 1 + j + 1) bits
    ∙ ap (λ (x : ℕ). bit_at bits x == 1) place
    ∙ ap (λ (x : ℕ). x == 1) (in_second first second third j h3 hj)
    ∙ sym (bit_of_octet 1 j (first ∷ second ∷ third ∷ more) hj)
in_order (suc (suc zero)) j first second third more hq hj h2 h3 =
    let bits : ℕ = bits_of_octets first second third in
    let place : 24 - (8 * 2 + j + 1) ≡ 7 - j = omega arith in
    has_bit_at (8 * 2 + j + 1) bits
    ∙ ap (λ (x : ℕ). bit_at bits x == 1) place
    ∙ ap (λ (x : ℕ). x == 1) (in_third first second third j hj)
    ∙ sym (bit_of_octet 2 j (first ∷ second ∷ third ∷ more) hj)
in_order (suc (suc (suc q))) j first second third more hq hj h2 h3 = absurd (omega arith)

pub bits_stand_in_order : BitsStandInOrder
bits_stand_in_order first second third more n below1 below2 below3 low high =
    let counted : 8 * ((n - 1) / 8) + (n - 1) % 8 + 1 ≡ n = omega arith in
    subst (λ (x : ℕ). has_bit x (bits_of_octets first second third) ≡ bit_of x (first ∷ second ∷ third ∷ more)) counted
    (in_order ((n - 1) / 8) ((n - 1) % 8) first second third more (omega arith) (omega arith) below2 below3)

pub dis_bits_stand_in_order : DisBitsStandInOrder
dis_bits_stand_in_order [] dis n are_octets reads low high = absurd cc
dis_bits_stand_in_order (first ∷ []) dis n are_octets reads low high = absurd cc
dis_bits_stand_in_order (first ∷ second ∷ []) dis n are_octets reads low high = absurd cc
dis_bits_stand_in_order (first ∷ second ∷ third ∷ more) dis n are_octets reads low high =
    let read : Dis = record { caps = record { 0 = bits_of_octets first second third } } in
    let same : read ≡ dis = cc in
    subst (λ (x : Dis). has_bit n x.caps.0 ≡ bit_of n (first ∷ second ∷ third ∷ more)) same
    (bits_stand_in_order first second third more n (are_octets 0 0 (omega arith)) (are_octets 1 0 (omega arith)) (are_octets 2 0 (omega arith)) low high)

-- the value of a bit that is a number
bit_value : (bit : ℕ) → bit < 2 → (if bit == 1 then 1 else 0) ≡ bit
bit_value zero below = refl
bit_value (suc zero) below = refl
bit_value (suc (suc n)) below = absurd (omega arith)

-- the low bits of a number: those of its half, and its last bit
low_bits : (bits count : ℕ) → bits % 2 ^ (count + 1) ≡ 2 * (bits / 2 % 2 ^ count) + bits % 2
low_bits bits count =
    let spelt : bits % 2 ^ (count + 1) ≡ bits / 2 % 2 ^ count * 2 + bits % 2 = mod-pow-add bits count 1 in
    spelt ∙ ap (λ (x : ℕ). x + bits % 2) (mul_comm (bits / 2 % 2 ^ count) 2)

half_of : (bits place : ℕ) → bits / 2 ^ place / 2 ≡ bits / 2 ^ (place + 1)
half_of bits place = div-div-eq-div-mul bits (2 ^ place) 2 ∙ ap (λ (x : ℕ). bits / x) (sym (pow-add 2 place 1))

-- a code and its next bit, by the places of the two
code_grows : (bits place next count : ℕ) → next + 1 ≡ place → bits / 2 ^ next % 2 ^ (count + 1) ≡ 2 * (bits / 2 ^ place % 2 ^ count) + bits / 2 ^ next % 2
code_grows bits place next count e =
    low_bits (bits / 2 ^ next) count
    ∙ ap (λ (x : ℕ). 2 * (x % 2 ^ count) + bits / 2 ^ next % 2) (half_of bits next ∙ ap (λ (x : ℕ). bits / 2 ^ x) e)

bit_number : (n bits : ℕ) → (if has_bit n bits then 1 else 0) ≡ bit_at bits (24 - n)
bit_number n bits = ap (λ (x : Bool). if x then 1 else 0) (has_bit_at n bits) ∙ bit_value (bit_at bits (24 - n)) (bit_at-lt bits (24 - n))

pub codes_are_spelt : CodesAreSpelt
codes_are_spelt bits first last low ordered high =
    let next : ℕ = 24 - (last + 1) in
    let count_is : last + 1 + 1 - first ≡ last + 1 - first + 1 = omega arith in
    let place_is : next + 1 ≡ 24 - last = omega arith in
    ap (λ (x : ℕ). bits / 2 ^ next % 2 ^ x) count_is
    ∙ code_grows bits (24 - last) next (last + 1 - first) place_is
    ∙ ap (λ (x : ℕ). 2 * code_at first last bits + x) (sym (bit_number (last + 1) bits))
