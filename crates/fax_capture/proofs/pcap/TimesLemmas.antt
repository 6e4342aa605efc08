-- Options of interfaces, one after the other.
use Rattle.std.proofs.Common.{◌≡◌, ◌≢◌, ℕ, zero, suc, ◌-◌, ◌<◌, ◌≤◌, nat_lt, true, false, List, length, Result, Ok, Err, refl, sym, ◌∙◌, ap, arith, ◌==◌, if◌then◌else◌}
use Rattle.fax_capture.specs.declared.pcap.fields.ByteOrder.{ByteOrder}
use Rattle.fax_capture.specs.declared.pcap.fault.CaptureFault.{CaptureFault}
use Rattle.fax_capture.specs.declared.pcap.interface.Times.{Times}
use Rattle.fax_capture.specs.pcap.Fields.{◌>>=◌}
use Rattle.fax_capture.specs.pcap.Captures.{OptionValue, option_at, times_in, times_with}

-- what one option and those after it tell
abbrev told_by : ByteOrder → ℕ → Times → OptionValue → Result Times CaptureFault
told_by order most times option = if option.code == 0 then Ok times else (times_with order option times >>= λ told. times_in most order option.after told)

abbrev told_at : ByteOrder → ℕ → Times → Result OptionValue CaptureFault → Result Times CaptureFault
told_at order most times read = read >>= told_by order most times

-- or only those after it
abbrev told_after : ByteOrder → ℕ → OptionValue → Result Times CaptureFault → Result Times CaptureFault
told_after order most option read = read >>= λ told. times_in most order option.after told

pub none_left : (order : ByteOrder) (octets : List ℕ) (times : Times) → times_in 0 order octets times ≡ Ok times
unfolding times_in
none_left order octets times = refl

pub end_of_options : (most : ℕ) (order : ByteOrder) (octets : List ℕ) (times : Times) → length octets < 4 → times_in most order octets times ≡ Ok times
unfolding times_in
end_of_options zero order octets times l = refl
end_of_options (suc most) order octets times l = grind (arith, l)

one_more : (most : ℕ) (order : ByteOrder) (octets : List ℕ) (times : Times) → 4 ≤ length octets
    → times_in (suc most) order octets times ≡ told_at order most times (option_at order octets)
unfolding times_in
one_more most order octets times l = grind (arith, l)

pub first_option : (most : ℕ) (order : ByteOrder) (octets : List ℕ) (times : Times) → 0 < most → 4 ≤ length octets
    → times_in most order octets times ≡ told_at order (most - 1) times (option_at order octets)
first_option most order octets times some l =
    let is : most ≡ suc (most - 1) = omega arith in
    ap (λ (n : ℕ). times_in n order octets times) is ∙ one_more (most - 1) order octets times l

pub last_option : (most : ℕ) (order : ByteOrder) (octets : List ℕ) (times : Times) (option : OptionValue) → 0 < most → 4 ≤ length octets
    → option_at order octets ≡ Ok option → option.code ≡ 0 → times_in most order octets times ≡ Ok times
last_option most order octets times option some l read zero_is =
    first_option most order octets times some l ∙ ap (told_at order (most - 1) times) read
    ∙ (let told : told_by order (most - 1) times option ≡ Ok times = rw zero_is refl in told)

-- an option that is not the last tells something, and those after it go on
more_options : (most : ℕ) (order : ByteOrder) (octets : List ℕ) (times : Times) (option : OptionValue) → 0 < most → 4 ≤ length octets
    → option_at order octets ≡ Ok option → option.code ≢ 0
    → times_in most order octets times ≡ told_after order (most - 1) option (times_with order option times)
more_options most order octets times option some l read no_zero =
    first_option most order octets times some l ∙ ap (told_at order (most - 1) times) read
    ∙ (let told : told_by order (most - 1) times option ≡ told_after order (most - 1) option (times_with order option times) = grind (arith, no_zero) in told)

pub other_option : (most : ℕ) (order : ByteOrder) (octets : List ℕ) (times told : Times) (option : OptionValue) → 0 < most → 4 ≤ length octets
    → option_at order octets ≡ Ok option → option.code ≢ 0 → times_with order option times ≡ Ok told
    → times_in most order octets times ≡ times_in (most - 1) order option.after told
other_option most order octets times told option some l read no_zero tells =
    more_options most order octets times option some l read no_zero ∙ ap (told_after order (most - 1) option) tells

pub bad_times : (most : ℕ) (order : ByteOrder) (octets : List ℕ) (times : Times) (option : OptionValue) (fault : CaptureFault) → 0 < most → 4 ≤ length octets
    → option_at order octets ≡ Ok option → option.code ≢ 0 → times_with order option times ≡ Err fault
    → times_in most order octets times ≡ Err fault
bad_times most order octets times option fault some l read no_zero tells =
    more_options most order octets times option some l read no_zero ∙ ap (told_after order (most - 1) option) tells

pub bad_option : (most : ℕ) (order : ByteOrder) (octets : List ℕ) (times : Times) (fault : CaptureFault) → 0 < most → 4 ≤ length octets
    → option_at order octets ≡ Err fault → times_in most order octets times ≡ Err fault
bad_option most order octets times fault some l read = first_option most order octets times some l ∙ ap (told_at order (most - 1) times) read
