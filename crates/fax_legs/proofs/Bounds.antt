-- What is left out of a datagram.
use Rattle.std.proofs.Common.{◌≡◌, ◌⊎◌, ℕ, zero, suc, ◌+◌, ◌-◌, ◌<◌, ◌≤◌, Bool, true, false, nat_lt, List, [], ◌∷◌, length, take, Ok, inl, inr, refl, sym, ap, ◌∙◌, arith, if◌then◌else◌, length-append}
use Rattle.std.specs.Prelude.{nat_le, ◌&&◌, flat_map}
use Rattle.std.specs.Cmp.Lexicographic.{same_text}
use Rattle.std.proofs.lemmas.List.{take_all}
use Rattle.fax_wires.specs.repeat.Repeats.{same_octets}
use Rattle.fax_udptl.specs.Datagrams.{DatagramValue, written_datagram, written_packet}
use Rattle.fax_udptl.proofs.WrittenLemmas.{datagram_size_is, packets_size}
use Rattle.fax_legs.specs.Bounding.{are_short, cut_as, fewer, fitting, is_sendable, kept}
use Rattle.fax_legs.specs.declared.bounding.Limits.{Limits}

-- tests of numbers
pub le_true : (m n : ℕ) → m ≤ n → nat_le m n ≡ true
le_true m n h = grind (arith)

pub le_false : (m n : ℕ) → n < m → nat_le m n ≡ false
le_false m n h = grind (arith)

pub le_so : (m n : ℕ) → nat_le m n ≡ true → m ≤ n
le_so m n h = grind (arith)

pub gt_so : (m n : ℕ) → nat_le m n ≡ false → n < m
gt_so m n h = grind (arith)

pub lt_true : (m n : ℕ) → m < n → nat_lt m n ≡ true
lt_true m n h = grind (arith)

pub lt_false : (m n : ℕ) → n ≤ m → nat_lt m n ≡ false
lt_false m n h = grind (arith)

pub lt_so : (m n : ℕ) → nat_lt m n ≡ true → m < n
lt_so m n h = grind (arith)

-- both of two tests, or one of them not
pub both_first : (a b : Bool) → (a && b) ≡ true → a ≡ true
both_first true b h = refl
both_first false b h = h

pub both_second : (a b : Bool) → (a && b) ≡ true → b ≡ true
both_second true b h = h
both_second false b h = cc

pub both_hold : (a b : Bool) → a ≡ true → b ≡ true → (a && b) ≡ true
both_hold true b h k = k
both_hold false b h k = h

pub first_fails : (a b : Bool) → a ≡ false → (a && b) ≡ false
first_fails true b h = cc
first_fails false b h = refl

pub second_fails : (a b : Bool) → b ≡ false → (a && b) ≡ false
second_fails true b h = h
second_fails false b h = refl

-- what can be sent
pub sendable_primary : (d : DatagramValue) → is_sendable d ≡ true → length d.primary ≤ 16383
sendable_primary d h = le_so (length d.primary) 16383 (both_first (nat_le (length d.primary) 16383) (are_short d.secondaries && nat_lt (length d.secondaries) 128) h)

sendable_others : (d : DatagramValue) → is_sendable d ≡ true → (are_short d.secondaries && nat_lt (length d.secondaries) 128) ≡ true
sendable_others d h = both_second (nat_le (length d.primary) 16383) (are_short d.secondaries && nat_lt (length d.secondaries) 128) h

pub sendable_short : (d : DatagramValue) → is_sendable d ≡ true → are_short d.secondaries ≡ true
sendable_short d h = both_first (are_short d.secondaries) (nat_lt (length d.secondaries) 128) (sendable_others d h)

pub sendable_few : (d : DatagramValue) → is_sendable d ≡ true → length d.secondaries < 128
sendable_few d h = lt_so (length d.secondaries) 128 (both_second (are_short d.secondaries) (nat_lt (length d.secondaries) 128) (sendable_others d h))

pub sendable_is : (d : DatagramValue) → length d.primary ≤ 16383 → are_short d.secondaries ≡ true → length d.secondaries < 128 → is_sendable d ≡ true
sendable_is d own short few =
    both_hold (nat_le (length d.primary) 16383) (are_short d.secondaries && nat_lt (length d.secondaries) 128) (le_true (length d.primary) 16383 own)
    (both_hold (are_short d.secondaries) (nat_lt (length d.secondaries) 128) short (lt_true (length d.secondaries) 128 few))

pub long_primary : (d : DatagramValue) → 16383 < length d.primary → is_sendable d ≡ false
long_primary d h = first_fails (nat_le (length d.primary) 16383) (are_short d.secondaries && nat_lt (length d.secondaries) 128) (le_false (length d.primary) 16383 h)

pub other_secondaries : (d : DatagramValue) → (are_short d.secondaries && nat_lt (length d.secondaries) 128) ≡ false → is_sendable d ≡ false
other_secondaries d h = second_fails (nat_le (length d.primary) 16383) (are_short d.secondaries && nat_lt (length d.secondaries) 128) h

-- packets, one of which stands first
pub short_more : (ps left : List (List ℕ)) (p : List ℕ) → ps ≡ p ∷ left → length p ≤ 16383 → are_short ps ≡ are_short left
short_more ps left p e h = ap are_short e ∙ ap (λ (b : Bool). b && are_short left) (le_true (length p) 16383 h)

pub long_here : (ps left : List (List ℕ)) (p : List ℕ) → ps ≡ p ∷ left → 16383 < length p → are_short ps ≡ false
long_here ps left p e h = ap are_short e ∙ ap (λ (b : Bool). b && are_short left) (le_false (length p) 16383 h)

pub short_first : (ps left : List (List ℕ)) (p : List ℕ) → ps ≡ p ∷ left → are_short ps ≡ true → length p ≤ 16383
short_first ps left p e h = le_so (length p) 16383 (both_first (nat_le (length p) 16383) (are_short left) (sym (ap are_short e) ∙ h))

pub short_after_first : (ps left : List (List ℕ)) (p : List ℕ) → ps ≡ p ∷ left → are_short ps ≡ true → are_short left ≡ true
short_after_first ps left p e h = both_second (nat_le (length p) 16383) (are_short left) (sym (ap are_short e) ∙ h)

one_less : (n : ℕ) → 0 < n → n ≡ suc (n - 1)
one_less n h = omega arith

-- the first of them, so many
pub take_first_of : (n : ℕ) (ps left : List (List ℕ)) (p : List ℕ) → 0 < n → ps ≡ p ∷ left → take n ps ≡ p ∷ take (n - 1) left
take_first_of n ps left p h e = ap (λ (m : ℕ). take m ps) (one_less n h) ∙ ap (λ (qs : List (List ℕ)). take (suc (n - 1)) qs) e

pub take_of_none : (n : ℕ) → take n (let none : List (List ℕ) = [] in none) ≡ []
take_of_none zero = refl
take_of_none (suc n) = refl

-- how many fit
pub fit_none : (n room : ℕ) → fitting n room [] ≡ 0
unfolding fitting
fit_none zero room = refl
fit_none (suc n) room = refl

pub fit_end : (room : ℕ) (ps : List (List ℕ)) → fitting 0 room ps ≡ 0
unfolding fitting
fit_end room ps = refl

fit_step : (n room : ℕ) (left : List (List ℕ)) (p : List ℕ) (b : Bool) → nat_le (length (written_packet p)) room ≡ b
    → fitting (suc n) room (p ∷ left) ≡ (if b then suc (fitting n (room - length (written_packet p)) left) else 0)
unfolding fitting
fit_step n room left p b e = ap (λ (t : Bool). if t then suc (fitting n (room - length (written_packet p)) left) else 0) e

pub fit_more : (n room : ℕ) (ps left : List (List ℕ)) (p : List ℕ) → 0 < n → ps ≡ p ∷ left → length (written_packet p) ≤ room
    → fitting n room ps ≡ suc (fitting (n - 1) (room - length (written_packet p)) left)
fit_more n room ps left p h e fits =
    ap (λ (m : ℕ). fitting m room ps) (one_less n h) ∙ ap (λ (qs : List (List ℕ)). fitting (suc (n - 1)) room qs) e
    ∙ fit_step (n - 1) room left p true (le_true (length (written_packet p)) room fits)

pub fit_full : (n room : ℕ) (ps left : List (List ℕ)) (p : List ℕ) → 0 < n → ps ≡ p ∷ left → room < length (written_packet p) → fitting n room ps ≡ 0
fit_full n room ps left p h e full =
    ap (λ (m : ℕ). fitting m room ps) (one_less n h) ∙ ap (λ (qs : List (List ℕ)). fitting (suc (n - 1)) room qs) e
    ∙ fit_step (n - 1) room left p false (le_false (length (written_packet p)) room full)

pub fit_of_none : (n room : ℕ) (ps : List (List ℕ)) → ps ≡ [] → fitting n room ps ≡ 0
fit_of_none n room ps e = ap (λ (qs : List (List ℕ)). fitting n room qs) e ∙ fit_none n room

pub fit_spent : (n room : ℕ) (ps : List (List ℕ)) → n ≡ 0 → fitting n room ps ≡ 0
fit_spent n room ps e = ap (λ (m : ℕ). fitting m room ps) e ∙ fit_end room ps

-- how many octets a datagram has, by its parts
pub written_size : (d : DatagramValue) (own others : ℕ) (primary : List ℕ) (ps : List (List ℕ)) → primary ≡ d.primary → ps ≡ d.secondaries
    → own ≡ length (written_packet primary) → others ≡ packets_size ps → length ps < 128 → own + 4 + others ≡ length (written_datagram d)
written_size d own others primary ps e f own_is others_are few =
    let fewer_yet : length d.secondaries < 128 = omega (arith, ap length f) in
    omega (arith, datagram_size_is d.number d.primary d.secondaries fewer_yet, ap (λ (q : List ℕ). length (written_packet q)) e, ap (λ (qs : List (List ℕ)). packets_size qs) f)

-- with fewer secondaries a datagram is no longer
pub take_size : (n : ℕ) (ps : List (List ℕ)) → packets_size (take n ps) ≤ packets_size ps
take_size zero ps = omega arith
take_size (suc n) [] = omega arith
take_size (suc n) (p ∷ ps) =
    omega (arith, take_size n ps, length-append (written_packet p) (flat_map written_packet (take n ps)), length-append (written_packet p) (flat_map written_packet ps))

pub take_few : (n : ℕ) (ps : List (List ℕ)) → length (take n ps) ≤ length ps
take_few zero ps = omega arith
take_few (suc n) [] = omega arith
take_few (suc n) (p ∷ ps) = omega (arith, take_few n ps)

pub fewer_size : (n : ℕ) (d : DatagramValue) → length d.secondaries < 128 → length (written_datagram (fewer n d)) ≤ length (written_datagram d)
fewer_size n d few =
    omega (
      arith,
      take_size n d.secondaries,
      datagram_size_is d.number d.primary d.secondaries few,
      datagram_size_is d.number d.primary (take n d.secondaries) (let less = take_few n d.secondaries in omega (arith, less)),
    )

pub fewer_is : (n : ℕ) (d : DatagramValue) → length d.secondaries ≤ n → fewer n d ≡ d
fewer_is n d h = ap (λ (ps : List (List ℕ)). let e : DatagramValue = record { number = d.number; primary = d.primary; secondaries = ps } in e) (take_all n d.secondaries h)

-- how octets that are read as a datagram are sent
picked : (a b : Bool) (x y : List ℕ) → a ≡ true → b ≡ true → (if a && b then x else y) ≡ x
picked a b x y h k = ap (λ (t : Bool). if t then x else y) (both_hold a b h k)

not_first : (a b : Bool) (x y : List ℕ) → a ≡ false → (if a && b then x else y) ≡ y
not_first a b x y h = ap (λ (t : Bool). if t then x else y) (first_fails a b h)

not_second : (a b : Bool) (x y : List ℕ) → b ≡ false → (if a && b then x else y) ≡ y
not_second a b x y h = ap (λ (t : Bool). if t then x else y) (second_fails a b h)

either_way : (a b : Bool) (x y : List ℕ) → (b ≡ true → x ≡ y) → (if a && b then x else y) ≡ y
either_way true true x y h = h refl
either_way true false x y h = refl
either_way false b x y h = refl

pub cut_written : (limits : Limits) (octets : List ℕ) (d : DatagramValue) → is_sendable d ≡ true → same_octets octets (written_datagram d) ≡ true
    → written_datagram (fewer (kept limits (length octets) d) d) ≡ cut_as limits octets (Ok d)
cut_written limits octets d h k =
    sym (picked (is_sendable d) (same_octets octets (written_datagram d)) (written_datagram (fewer (kept limits (length octets) d) d)) octets h k)

pub cut_unlike : (limits : Limits) (octets : List ℕ) (d : DatagramValue) → same_octets octets (written_datagram d) ≡ false → octets ≡ cut_as limits octets (Ok d)
cut_unlike limits octets d h =
    sym (not_second (is_sendable d) (same_octets octets (written_datagram d)) (written_datagram (fewer (kept limits (length octets) d) d)) octets h)

pub cut_not_sendable : (limits : Limits) (octets : List ℕ) (d : DatagramValue) → is_sendable d ≡ false → octets ≡ cut_as limits octets (Ok d)
cut_not_sendable limits octets d h =
    sym (not_first (is_sendable d) (same_octets octets (written_datagram d)) (written_datagram (fewer (kept limits (length octets) d) d)) octets h)

pub cut_of_other_length : (limits : Limits) (octets : List ℕ) (d : DatagramValue) → (length (written_datagram d) ≡ length octets → ⊥) → octets ≡ cut_as limits octets (Ok d)
cut_of_other_length limits octets d h =
    sym (either_way (is_sendable d) (same_octets octets (written_datagram d)) (written_datagram (fewer (kept limits (length octets) d) d)) octets
    (λ e. absurd (h (sym (ap length (same_text octets (written_datagram d) (sym e)))))))

pub cut_whole : (limits : Limits) (octets : List ℕ) (d : DatagramValue) → kept limits (length octets) d ≡ length d.secondaries → octets ≡ cut_as limits octets (Ok d)
cut_whole limits octets d h =
    sym (either_way (is_sendable d) (same_octets octets (written_datagram d)) (written_datagram (fewer (kept limits (length octets) d) d)) octets
    (λ e. ap written_datagram (fewer_is (kept limits (length octets) d) d (omega (arith, h))) ∙ sym (same_text octets (written_datagram d) (sym e))))

-- what cannot be sent, or is not as it is written
pub cut_refused : (limits : Limits) (octets : List ℕ) (d : DatagramValue) → (is_sendable d ≡ false) ⊎ (length (written_datagram d) ≡ length octets → ⊥) → octets ≡ cut_as limits octets (Ok d)
cut_refused limits octets d (inl h) = cut_not_sendable limits octets d h
cut_refused limits octets d (inr h) = cut_of_other_length limits octets d h
