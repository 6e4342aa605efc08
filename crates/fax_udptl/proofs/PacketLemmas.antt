-- Packets one after the other.
use Rattle.std.proofs.Common.{◌≡◌, ℕ, zero, suc, ◌-◌, ◌<◌, ◌≤◌, List, [], ◌∷◌, length, take, Option, Some, None, Result, Ok, Err, refl, sym, ◌∙◌, ap, subst, arith, min}
use Rattle.fax_udptl.specs.declared.fault.UdptlFault.{UdptlFault}
use Rattle.fax_udptl.specs.Datagrams.{◌>>=◌, packet_at, packets_at}
use Rattle.fax_udptl.specs.Reading.{fault_in, packets_read, packets_in, HasPackets}

Packets : Type 0
Packets = Result (List (List ℕ)) UdptlFault

abbrev with_first : List ℕ → Result (List (List ℕ)) UdptlFault → Result (List (List ℕ)) UdptlFault
with_first packet others = others >>= λ o. Ok (packet ∷ o)

at_suc : (n : ℕ) (octets packet after : List ℕ) → packet_at octets ≡ Ok (packet, after) → packets_at (suc n) octets ≡ with_first packet (packets_at n after)
unfolding packets_at
at_suc n octets packet after h =
    ap (λ (r : Result (List ℕ × List ℕ) UdptlFault). r >>= λ first. packets_at n first.1 >>= λ others. Ok (first.0 ∷ others)) h

at_suc_err : (n : ℕ) (octets : List ℕ) (e : UdptlFault) → packet_at octets ≡ Err e → packets_at (suc n) octets ≡ Err e
unfolding packets_at
at_suc_err n octets e h =
    ap (λ (r : Result (List ℕ × List ℕ) UdptlFault). r >>= λ first. packets_at n first.1 >>= λ others. Ok (first.0 ∷ others)) h

first_keeps_fault : (packet : List ℕ) (r : Result (List (List ℕ)) UdptlFault) → fault_in (with_first packet r) ≡ fault_in r
first_keeps_fault packet (Ok others) = refl
first_keeps_fault packet (Err e) = refl

first_is_first : (packet : List ℕ) (r : Result (List (List ℕ)) UdptlFault) → fault_in r ≡ None → packets_read (with_first packet r) ≡ packet ∷ packets_read r
first_is_first packet (Ok others) h = refl
first_is_first packet (Err e) h = cc

one_less : (left : ℕ) → 0 < left → left ≡ suc (left - 1)
one_less left l = omega arith

-- the fault of packets is that of the packets after the first
fault_of_suc : (n : ℕ) (octets packet after : List ℕ) → packet_at octets ≡ Ok (packet, after) → fault_in (packets_at (suc n) octets) ≡ fault_in (packets_at n after)
fault_of_suc n octets packet after h = ap fault_in (at_suc n octets packet after h) ∙ first_keeps_fault packet (packets_at n after)

pub fault_after : (left : ℕ) (octets packet after : List ℕ) → 0 < left → packet_at octets ≡ Ok (packet, after)
    → fault_in (packets_at left octets) ≡ fault_in (packets_at (left - 1) after)
fault_after left octets packet after l h =
    ap (λ (m : ℕ). fault_in (packets_at m octets)) (one_less left l) ∙ fault_of_suc (left - 1) octets packet after h

pub fault_first : (left : ℕ) (octets : List ℕ) (e : UdptlFault) → 0 < left → packet_at octets ≡ Err e → fault_in (packets_at left octets) ≡ Some e
fault_first left octets e l h =
    ap (λ (m : ℕ). fault_in (packets_at m octets)) (one_less left l) ∙ ap fault_in (at_suc_err (left - 1) octets e h)

-- what was read, where there is no fault, and where there is one
pub read_without_fault : (r : Result (List (List ℕ)) UdptlFault) → fault_in r ≡ None → r ≡ Ok (packets_read r)
read_without_fault (Ok packets) h = refl
read_without_fault (Err e) h = cc

pub read_with_fault : (r : Result (List (List ℕ)) UdptlFault) (e : UdptlFault) → fault_in r ≡ Some e → r ≡ Err e
read_with_fault (Ok packets) e h = cc
read_with_fault (Err f) e h = cc

pub packets_that_stand : (count : ℕ) (octets : List ℕ) → fault_in (packets_at count octets) ≡ None → packets_at count octets ≡ Ok (packets_in count octets)
unfolding packets_in
packets_that_stand count octets h = read_without_fault (packets_at count octets) h

pub stands : (count : ℕ) (octets : List ℕ) → fault_in (packets_at count octets) ≡ None → HasPackets count octets
unfolding HasPackets
stands count octets h = h

pub all_checked : (octets rest : List ℕ) (r : Option UdptlFault) (m : ℕ) → m ≡ 0 → fault_in (packets_at m rest) ≡ r → r ≡ None
unfolding packets_at
all_checked octets rest r zero z h = sym h
all_checked octets rest r (suc m) z h = absurd (omega arith)

pub none_left : (octets : List ℕ) → packets_in 0 octets ≡ []
unfolding packets_in packets_at
none_left octets = refl

pub none_stand : (octets : List ℕ) → HasPackets 0 octets
unfolding HasPackets packets_at
none_stand octets = refl

-- the first of so many packets, and those after it
has_of_suc : (n : ℕ) (octets packet after : List ℕ) → HasPackets (suc n) octets → packet_at octets ≡ Ok (packet, after) → HasPackets n after
unfolding HasPackets
has_of_suc n octets packet after has h = sym (fault_of_suc n octets packet after h) ∙ has

first_of_suc : (n : ℕ) (octets packet after : List ℕ) → HasPackets (suc n) octets → packet_at octets ≡ Ok (packet, after)
    → packets_in (suc n) octets ≡ packet ∷ packets_in n after
unfolding packets_in HasPackets
first_of_suc n octets packet after has h =
    ap packets_read (at_suc n octets packet after h)
    ∙ first_is_first packet (packets_at n after) (sym (fault_of_suc n octets packet after h) ∙ has)

pub has_after : (left : ℕ) (octets packet after : List ℕ) → 0 < left → HasPackets left octets → packet_at octets ≡ Ok (packet, after) → HasPackets (left - 1) after
unfolding HasPackets
has_after left octets packet after l has h = sym (fault_after left octets packet after l h) ∙ has

pub first_of_packets : (left : ℕ) (octets packet after : List ℕ) → 0 < left → HasPackets left octets → packet_at octets ≡ Ok (packet, after)
    → packets_in left octets ≡ packet ∷ packets_in (left - 1) after
first_of_packets left octets packet after l has h =
    let P : ℕ → Type 0 = λ m. HasPackets m octets in
    ap (λ (m : ℕ). packets_in m octets) (one_less left l) ∙ first_of_suc (left - 1) octets packet after (subst P (one_less left l) has) h

pub has_a_first : (left : ℕ) (octets : List ℕ) (e : UdptlFault) → 0 < left → HasPackets left octets → packet_at octets ≡ Err e → ⊥
unfolding HasPackets
has_a_first left octets e l has h = let f : fault_in (packets_at left octets) ≡ Some e = fault_first left octets e l h in cc

-- the first packet, and the octets after it
record Split (octets : List ℕ) : Type 0 where
  packet : List ℕ
  after : List ℕ
  here : packet_at octets ≡ Ok (packet, after)

split : (n : ℕ) (octets : List ℕ) → HasPackets (suc n) octets → Split octets
split n octets has = by (packet_at octets) refl
  where
    by : (r : Result (List ℕ × List ℕ) UdptlFault) → packet_at octets ≡ r → Split octets
    by (Ok p) h = record { packet = p.0; after = p.1; here = h }
    by (Err e) h = absurd (has_a_first (suc n) octets e (omega arith) has h)

-- where so many packets stand, there are so many, and fewer stand there too: the first of them
pub count_of_packets : (n : ℕ) (octets : List ℕ) → HasPackets n octets → length (packets_in n octets) ≡ n
count_of_packets zero octets has = ap length (none_left octets)
count_of_packets (suc n) octets has =
    let s : Split octets = split n octets has in
    ap length (first_of_suc n octets s.packet s.after has s.here)
    ∙ ap (λ (m : ℕ). suc m) (count_of_packets n s.after (has_of_suc n octets s.packet s.after has s.here))

pub fewer_stand : (n k : ℕ) (octets : List ℕ) → k ≤ n → HasPackets n octets → HasPackets k octets
unfolding HasPackets packets_at
fewer_stand n zero octets l has = refl
fewer_stand zero (suc k) octets l has = absurd (omega arith)
fewer_stand (suc n) (suc k) octets l has =
    let s : Split octets = split n octets has in
    let less : k ≤ n = omega arith in
    fault_of_suc k octets s.packet s.after s.here ∙ fewer_stand n k s.after less (has_of_suc n octets s.packet s.after has s.here)

pub fewer_packets : (n k : ℕ) (octets : List ℕ) → k ≤ n → HasPackets n octets → packets_in k octets ≡ take k (packets_in n octets)
fewer_packets n zero octets l has = none_left octets
fewer_packets zero (suc k) octets l has = absurd (omega arith)
fewer_packets (suc n) (suc k) octets l has =
    let s : Split octets = split n octets has in
    let less : k ≤ n = omega arith in
    first_of_suc k octets s.packet s.after (fewer_stand (suc n) (suc k) octets l has) s.here
    ∙ ap (λ (ps : List (List ℕ)). s.packet ∷ ps) (fewer_packets n k s.after less (has_of_suc n octets s.packet s.after has s.here))
    ∙ sym (ap (λ (ps : List (List ℕ)). take (suc k) ps) (first_of_suc n octets s.packet s.after has s.here))

take_within : (k n : ℕ) (xs : List (List ℕ)) → length xs ≡ n → take (min n k) xs ≡ take k xs
take_within zero n [] h = ap (λ (m : ℕ). take {A = List ℕ} m []) (let z : min n zero ≡ 0 = omega arith in z)
take_within (suc k) n [] h = ap (λ (m : ℕ). take {A = List ℕ} m []) (let z : min n (suc k) ≡ 0 = omega arith in z)
take_within zero n (x ∷ xs) h = ap (λ (m : ℕ). take m (x ∷ xs)) (let z : min n zero ≡ 0 = omega arith in z)
take_within (suc k) n (x ∷ xs) h =
    let z : min n (suc k) ≡ suc (min (length xs) k) = omega arith in
    ap (λ (m : ℕ). take m (x ∷ xs)) z ∙ ap (λ (ps : List (List ℕ)). x ∷ ps) (take_within k (length xs) xs refl)

pub first_packets : (n k m : ℕ) (octets : List ℕ) → m ≡ min n k → HasPackets n octets → packets_in m octets ≡ take k (packets_in n octets)
first_packets n k m octets e has =
    fewer_packets n m octets (omega arith) has
    ∙ ap (λ (i : ℕ). take i (packets_in n octets)) e
    ∙ take_within k n (packets_in n octets) (count_of_packets n octets has)
