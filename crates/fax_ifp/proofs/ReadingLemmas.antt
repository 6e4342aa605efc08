-- What the grammar says at the front of octets. A rest of octets is written as the code's slice of it.
use Rattle.std.proofs.Common.{◌≡◌, ◌≢◌, ℕ, ◌+◌, ◌-◌, ◌*◌, ◌/◌, ◌%◌, ◌<◌, ◌≤◌, nat_eq, nat_lt, Bool, true, false, List, [], ◌∷◌, length, take, drop, get_or, Some, None, Result, Ok, Err, refl, sym, ◌∙◌, ap, arith, take_all, length-drop, if◌then◌else◌}
use Rattle.fax_ifp.specs.declared.fault.IfpFault.{IfpFault}
use Rattle.fax_ifp.specs.declared.fault.IfpFault.TheVariants.{Short, BadCount}
use Rattle.fax_bits.specs.Bits.{bit}
use Rattle.fax_ifp.specs.Packets.{octets_by, octets_at, field_of, field_at, fields_at, counted_fields, fields_after}

-- octets from one on
abbrev pub rest_from : ℕ → List ℕ → List ℕ
rest_from k xs = take (length xs - k) (drop k xs)

pub rest_from-drop : (k : ℕ) (xs : List ℕ) → rest_from k xs ≡ drop k xs
rest_from-drop k xs = take_all (length xs - k) (drop k xs) (omega (arith, length-drop k xs))

pub octets_at_few : (xs : List ℕ) → length xs < 2 → octets_at xs ≡ Err Short
unfolding octets_at
octets_at_few [] h = refl
octets_at_few (x ∷ []) h = refl
octets_at_few (x ∷ y ∷ xs) h = absurd (omega arith)

two : (xs : List ℕ) → 2 ≤ length xs → octets_at xs ≡ octets_by (256 * get_or xs 0 0 + get_or xs 1 0) (drop 2 xs)
unfolding octets_at
two [] h = absurd (omega arith)
two (x ∷ []) h = absurd (omega arith)
two (x ∷ y ∷ xs) h = refl

pub octets_at_two : (xs : List ℕ) (word : ℕ) → 2 ≤ length xs → word ≡ 256 * get_or xs 0 0 + get_or xs 1 0 → octets_at xs ≡ octets_by word (rest_from 2 xs)
octets_at_two xs word h e =
    two xs h ∙ ap (λ (w : ℕ). octets_by w (drop 2 xs)) (sym e) ∙ ap (octets_by word) (sym (rest_from-drop 2 xs))

chosen : (a b : Bool) (r : Result (List ℕ × List ℕ) IfpFault) → a ≡ false → b ≡ false →
    if◌then◌else◌ {A = Result (List ℕ × List ℕ) IfpFault} a (Err BadCount) (if b then Err Short else r) ≡ r
chosen true b r h k = cc
chosen false true r h k = cc
chosen false false r h k = refl

too_few : (a b : Bool) (r : Result (List ℕ × List ℕ) IfpFault) → a ≡ false → b ≡ true →
    if◌then◌else◌ {A = Result (List ℕ × List ℕ) IfpFault} a (Err BadCount) (if b then Err Short else r) ≡ Err Short
too_few true b r h k = cc
too_few false true r h k = refl
too_few false false r h k = cc

pub differs : (m n : ℕ) → m ≢ n → nat_eq m n ≡ false
differs m n h = grind (arith)

pub below : (m n : ℕ) → m < n → nat_lt m n ≡ true
below m n h = grind (arith)

pub not_below : (m n : ℕ) → n ≤ m → nat_lt m n ≡ false
not_below m n h = grind (arith)

pub octets_by_ones : (word : ℕ) (xs : List ℕ) → word ≡ 65535 → octets_by word xs ≡ Err BadCount
octets_by_ones word xs e = rw e refl

pub octets_by_short : (word : ℕ) (xs : List ℕ) → word ≢ 65535 → length xs < word + 1 → octets_by word xs ≡ Err Short
octets_by_short word xs d h =
    too_few (nat_eq word 65535) (nat_lt (length xs) (word + 1)) (Ok (take (word + 1) xs, drop (word + 1) xs)) (differs word 65535 d) (below (length xs) (word + 1) h)

pub octets_by_all : (word : ℕ) (xs : List ℕ) → word ≢ 65535 → word + 1 ≤ length xs → octets_by word xs ≡ Ok (take (word + 1) xs, drop (word + 1) xs)
octets_by_all word xs d h =
    chosen (nat_eq word 65535) (nat_lt (length xs) (word + 1)) (Ok (take (word + 1) xs, drop (word + 1) xs)) (differs word 65535 d) (not_below (length xs) (word + 1) h)

pub field_at_none : (xs : List ℕ) → length xs < 1 → field_at None xs ≡ Err Short
unfolding field_at
field_at_none [] h = refl
field_at_none (x ∷ xs) h = absurd (omega arith)

octet : (xs : List ℕ) → 1 ≤ length xs → field_at None xs ≡ field_of (get_or xs 0 0 / 16) (Some (get_or xs 0 0 % 16)) (drop 1 xs)
unfolding field_at
octet [] h = absurd (omega arith)
octet (x ∷ xs) h = refl

pub field_at_octet : (xs : List ℕ) → 1 ≤ length xs → field_at None xs ≡ field_of (get_or xs 0 0 / 16) (Some (get_or xs 0 0 % 16)) (rest_from 1 xs)
field_at_octet xs h =
    octet xs h ∙ ap (λ (ys : List ℕ). field_of (get_or xs 0 0 / 16) (Some (get_or xs 0 0 % 16)) ys) (sym (rest_from-drop 1 xs))

pub field_at_half : (half : ℕ) (xs : List ℕ) → field_at (Some half) xs ≡ field_of half None xs
unfolding field_at
field_at_half half xs = refl

pub fields_after_none : (first : ℕ) (xs : List ℕ) → bit first 7 ≡ false → fields_after first xs ≡ fields_at 0 None xs
unfolding fields_after fields_at
fields_after_none first xs e = rw e refl

counted : (xs : List ℕ) → 1 ≤ length xs → counted_fields xs ≡ (if nat_lt 127 (get_or xs 0 0) then Err BadCount else fields_at (get_or xs 0 0) None (drop 1 xs))
counted [] h = absurd (omega arith)
counted (x ∷ xs) h = refl

pub fields_after_short : (first : ℕ) (xs : List ℕ) → bit first 7 ≡ true → length xs < 1 → fields_after first xs ≡ Err Short
unfolding fields_after
fields_after_short first [] e h = rw e refl
fields_after_short first (x ∷ xs) e h = absurd (omega arith)

pub fields_after_many : (first : ℕ) (xs : List ℕ) → bit first 7 ≡ true → 1 ≤ length xs → 127 < get_or xs 0 0 → fields_after first xs ≡ Err BadCount
unfolding fields_after
fields_after_many first xs e h m = rw (e, counted xs h, below 127 (get_or xs 0 0) m) refl

pub fields_after_counted : (first : ℕ) (xs : List ℕ) → bit first 7 ≡ true → 1 ≤ length xs → get_or xs 0 0 ≤ 127 →
    fields_after first xs ≡ fields_at (get_or xs 0 0) None (rest_from 1 xs)
unfolding fields_after
fields_after_counted first xs e h m =
    rw (e, counted xs h, not_below 127 (get_or xs 0 0) m) (ap (fields_at (get_or xs 0 0) None) (sym (rest_from-drop 1 xs)))
