-- A written datagram is read as itself.
use Rattle.std.proofs.Common.{◌≡◌, ℕ, zero, suc, get_or, ◌+◌, ◌-◌, ◌*◌, ◌/◌, ◌%◌, ◌<◌, ◌≤◌, Bool, true, false, nat_lt, List, [], ◌∷◌, ◌++◌, length, take, drop, Result, Ok, Err, refl, sym, subst, ◌∙◌, ap, arith, if◌then◌else◌, length-append, append_assoc}
use Rattle.std.proofs.Math.Seq.{take-append_seam, drop-append_seam}
use Rattle.std.proofs.lemmas.Nat.{be_bytes_2}
use Rattle.std.specs.Int.{w16, to_be_bytes}
use Rattle.std.specs.Prelude.{flat_map}
use Rattle.std.specs.List.{AllByRecursion}
use Rattle.fax_udptl.specs.declared.fault.UdptlFault.{UdptlFault}
use Rattle.fax_udptl.specs.declared.fault.UdptlFault.TheVariants.{Short, BadLength}
use Rattle.fax_udptl.specs.Datagrams.{DatagramValue, ◌>>=◌, length_at, low_octet_at, packet_at, packets_at, secondaries_at, datagram_of, written_length, written_packet, written_datagram}

Read : Type 0
Read = Result (ℕ × List ℕ) UdptlFault

not_lt : (m n : ℕ) → n ≤ m → nat_lt m n ≡ false
not_lt m n h = grind (arith)

is_lt : (m n : ℕ) → m < n → nat_lt m n ≡ true
is_lt m n h = grind (arith)

length_back_by : (n : ℕ) (rest : List ℕ) (b : Bool) → n ≤ 16383 → nat_lt n 128 ≡ b → length_at ((if b then n ∷ [] else (128 + n / 256) ∷ n % 256 ∷ []) ++ rest) ≡ Ok (n, rest)
unfolding Read length_at
length_back_by n rest true s h = ap (λ (t : Bool). if◌then◌else◌ {A = Read} t (Ok (n, rest)) (if nat_lt n 192 then low_octet_at (n - 128) rest else Err BadLength)) h
length_back_by n rest false s h =
    let l : 128 + n / 256 < 192 = omega arith in
    let e : 256 * ((128 + n / 256) - 128) + n % 256 ≡ n = omega arith in
    ap (λ (t : Bool). if◌then◌else◌ {A = Read} t (Ok (128 + n / 256, n % 256 ∷ rest)) (if nat_lt (128 + n / 256) 192 then low_octet_at (128 + n / 256 - 128) (n % 256 ∷ rest) else Err BadLength)) (not_lt (128 + n / 256) 128 (omega arith))
    ∙ ap (λ (t : Bool). if◌then◌else◌ {A = Read} t (low_octet_at (128 + n / 256 - 128) (n % 256 ∷ rest)) (Err BadLength)) (is_lt (128 + n / 256) 192 l)
    ∙ ap (λ (m : ℕ). let r : Read = Ok (m, rest) in r) e

length_back : (n : ℕ) (rest : List ℕ) → n ≤ 16383 → length_at (written_length n ++ rest) ≡ Ok (n, rest)
unfolding written_length
length_back n rest s = length_back_by n rest (nat_lt n 128) s refl

whole : (p rest : List ℕ) (b : Bool) → nat_lt (length (p ++ rest)) (length p) ≡ b →
    if◌then◌else◌ {A = Result (List ℕ × List ℕ) UdptlFault} b (Err Short) (Ok (take (length p) (p ++ rest), drop (length p) (p ++ rest))) ≡ Ok (p, rest)
whole p rest true h = absurd (contradicts (length (p ++ rest)) (length p) h (omega (arith, length-append p rest)))
  where
    contradicts : (m n : ℕ) → nat_lt m n ≡ true → n ≤ m → ⊥
    contradicts m n e l = grind (arith)
whole p rest false h =
    let pair : List ℕ → List ℕ → Result (List ℕ × List ℕ) UdptlFault = λ x y. Ok (x, y) in
    ap (λ (x : List ℕ). pair x (drop (length p) (p ++ rest))) (take-append_seam p rest) ∙ ap (λ (x : List ℕ). pair p x) (drop-append_seam p rest)

pub packet_back : (p rest : List ℕ) → length p ≤ 16383 → packet_at (written_packet p ++ rest) ≡ Ok (p, rest)
unfolding packet_at Read written_packet
packet_back p rest s =
    ap (λ (os : List ℕ). packet_at os) (append_assoc (written_length (length p)) p rest)
    ∙ ap (λ (r : Read). r >>= λ n. if nat_lt (length n.1) n.0 then Err Short else Ok (take n.0 n.1, drop n.0 n.1)) (length_back (length p) (p ++ rest) s)
    ∙ whole p rest (nat_lt (length (p ++ rest)) (length p)) refl

AreShort : List (List ℕ) → Type 0
AreShort ps = AllByRecursion (λ p. length p ≤ 16383) ps

packets_back : (ps : List (List ℕ)) → AreShort ps → packets_at (length ps) (flat_map written_packet ps) ≡ Ok ps
unfolding packets_at AreShort
packets_back [] s = refl
packets_back (p ∷ ps) s =
    ap (λ (r : Result (List ℕ × List ℕ) UdptlFault). r >>= λ first. packets_at (length ps) first.1 >>= λ others. Ok (first.0 ∷ others)) (packet_back p (flat_map written_packet ps) s.0)
    ∙ ap (λ (r : Result (List (List ℕ)) UdptlFault). r >>= λ others. Ok (p ∷ others)) (packets_back ps s.1)

secondaries_back : (ps : List (List ℕ)) → AreShort ps → length ps ≤ 16383 → secondaries_at (0 ∷ (written_length (length ps) ++ flat_map written_packet ps)) ≡ Ok ps
unfolding secondaries_at Read
secondaries_back ps s n =
    ap (λ (r : Read). r >>= λ n. packets_at n.0 n.1) (length_back (length ps) (flat_map written_packet ps) n) ∙ packets_back ps s

pub datagram_back : (d : DatagramValue) → d.number < 65536 → length d.primary ≤ 16383 → AllByRecursion (λ p. length p ≤ 16383) d.secondaries → length d.secondaries ≤ 16383 → datagram_of (written_datagram d) ≡ Ok d
unfolding datagram_of written_datagram AreShort
datagram_back d n p s l =
    let number : 256 * (d.number / 256) + d.number % 256 ≡ d.number = omega arith in
    let rest : List ℕ = 0 ∷ (written_length (length d.secondaries) ++ flat_map written_packet d.secondaries) in
    let made : ℕ → List ℕ → List (List ℕ) → Result DatagramValue UdptlFault = λ m q ss. Ok (record { number = m; primary = q; secondaries = ss }) in
    ap (λ (os : List ℕ). datagram_of ((d.number / 256) ∷ d.number % 256 ∷ os)) (append_assoc (written_packet d.primary) (0 ∷ written_length (length d.secondaries)) (flat_map written_packet d.secondaries))
    ∙ ap (λ (r : Result (List ℕ × List ℕ) UdptlFault). r >>= λ q. secondaries_at q.1 >>= λ ss. made (256 * (d.number / 256) + d.number % 256) q.0 ss) (packet_back d.primary rest p)
    ∙ ap (λ (r : Result (List (List ℕ)) UdptlFault). r >>= λ ss. made (256 * (d.number / 256) + d.number % 256) d.primary ss) (secondaries_back d.secondaries s l)
    ∙ ap (λ (m : ℕ). made m d.primary d.secondaries) number

-- A length as it is written, in one octet and in two.
pub one_octet : (n : ℕ) → n < 128 → n ∷ [] ≡ written_length n
unfolding written_length
one_octet n h = sym (ap (λ (t : Bool). if◌then◌else◌ {A = List ℕ} t (n ∷ []) ((128 + n / 256) ∷ n % 256 ∷ [])) (is_lt n 128 h))

pub two_octets : (n : ℕ) → 128 ≤ n → (128 + n / 256) ∷ n % 256 ∷ [] ≡ written_length n
unfolding written_length
two_octets n h = sym (ap (λ (t : Bool). if◌then◌else◌ {A = List ℕ} t (n ∷ []) ((128 + n / 256) ∷ n % 256 ∷ [])) (not_lt n 128 h))

-- A number of 16 bits is two octets, the high one first.
octets_fit : (high low i : ℕ) → high < 256 → low < 256 → get_or (high ∷ low ∷ []) i 0 < 256
octets_fit high low zero h l = h
octets_fit high low (suc zero) h l = l
octets_fit high low (suc (suc i)) h l = omega arith

pub number_octets : (n : ℕ) → n < 65536 → to_be_bytes w16 n ≡ n / 256 ∷ n % 256 ∷ []
number_octets n h =
    be_bytes_2 (n / 256 ∷ n % 256 ∷ []) n refl (λ i. octets_fit (n / 256) (n % 256) i (omega arith) (omega arith)) (omega arith)

pub length_octets : (n written : ℕ) → 128 ≤ n → n ≤ 16383 → written ≡ 32768 + n → to_be_bytes w16 written ≡ written_length n
length_octets n written l h e =
    let high : written / 256 ≡ 128 + n / 256 = omega arith in
    let low : written % 256 ≡ n % 256 = omega arith in
    number_octets written (omega arith)
    ∙ ap (λ (o : ℕ). o ∷ written % 256 ∷ []) high
    ∙ ap (λ (o : ℕ). (128 + n / 256) ∷ o ∷ []) low
    ∙ two_octets n l

-- the parts of a datagram, one after the other
pub datagram_parts : (d : DatagramValue) (none number primary choice count all : List ℕ) (octets : List ℕ) → none ≡ [] → octets ≡ to_be_bytes w16 d.number → d.number < 65536
    → number ≡ none ++ octets → primary ≡ number ++ written_packet d.primary → choice ≡ primary ++ 0 ∷ []
    → count ≡ choice ++ written_length (length d.secondaries) → all ≡ count ++ flat_map written_packet d.secondaries → all ≡ written_datagram d
unfolding written_datagram
datagram_parts d none number primary choice count all octets none_yet octets_are fits number_is primary_is choice_is count_is all_is =
    let front : List ℕ = (d.number / 256) ∷ d.number % 256 ∷ written_packet d.primary in
    let two : number ≡ d.number / 256 ∷ d.number % 256 ∷ [] =
    number_is ∙ ap (λ (os : List ℕ). os ++ octets) none_yet ∙ octets_are ∙ number_octets d.number fits in
    let fronted : primary ≡ front = primary_is ∙ ap (λ (os : List ℕ). os ++ written_packet d.primary) two in
    let counted : count ≡ front ++ 0 ∷ written_length (length d.secondaries) =
    count_is ∙ ap (λ (os : List ℕ). os ++ written_length (length d.secondaries)) (choice_is ∙ ap (λ (os : List ℕ). os ++ 0 ∷ []) fronted)
    ∙ append_assoc front (0 ∷ []) (written_length (length d.secondaries)) in
    all_is ∙ ap (λ (os : List ℕ). os ++ flat_map written_packet d.secondaries) counted

-- How many octets are written.
pub length_of_short : (n : ℕ) → n < 128 → length (written_length n) ≡ 1
length_of_short n h = sym (ap length (one_octet n h))

pub length_of_long : (n : ℕ) → 128 ≤ n → length (written_length n) ≡ 2
length_of_long n h = sym (ap length (two_octets n h))

pub short_packet_size : (p : List ℕ) → length p < 128 → length p + 1 ≡ length (written_packet p)
unfolding written_packet
short_packet_size p h = let one : length (written_length (length p)) ≡ 1 = length_of_short (length p) h in omega (arith, length-append (written_length (length p)) p)

pub long_packet_size : (p : List ℕ) → 128 ≤ length p → length p + 2 ≡ length (written_packet p)
unfolding written_packet
long_packet_size p h = let two : length (written_length (length p)) ≡ 2 = length_of_long (length p) h in omega (arith, length-append (written_length (length p)) p)

pub packet_size_is : (p : List ℕ) → length (written_packet p) ≡ length (written_length (length p)) + length p
unfolding written_packet
packet_size_is p = length-append (written_length (length p)) p

-- the octets of packets, one after the other
abbrev pub packets_size : List (List ℕ) → ℕ
packets_size ps = length (flat_map written_packet ps)

pub packets_size_more : (ps rest : List (List ℕ)) (p : List ℕ) → ps ≡ p ∷ rest → packets_size ps ≡ length (written_packet p) + packets_size rest
packets_size_more ps rest p e = ap (λ (qs : List (List ℕ)). length (flat_map written_packet qs)) e ∙ length-append (written_packet p) (flat_map written_packet rest)

pub datagram_size_is : (number : ℕ) (primary : List ℕ) (ps : List (List ℕ)) → length ps < 128
    → 4 + length (written_packet primary) + packets_size ps ≡ length (written_datagram (record { number = number; primary = primary; secondaries = ps }))
unfolding written_datagram
datagram_size_is number primary ps h =
    let one : length (written_length (length ps)) ≡ 1 = length_of_short (length ps) h in
    let front : List ℕ = (number / 256) ∷ number % 256 ∷ written_packet primary in
    omega (arith, length-append (front ++ 0 ∷ written_length (length ps)) (flat_map written_packet ps), length-append front (0 ∷ written_length (length ps)))

pub datagram_room : (number : ℕ) (primary : List ℕ) (ps : List (List ℕ)) (room : ℕ) → length ps < 128
    → length (written_datagram (record { number = number; primary = primary; secondaries = ps })) ≤ room → 4 + length (written_packet primary) + packets_size ps ≤ room
datagram_room number primary ps room few fits = omega (arith, datagram_size_is number primary ps few)

two_at_most : (n : ℕ) (b : Bool) → length (if b then n ∷ [] else (128 + n / 256) ∷ n % 256 ∷ []) ≤ 2
two_at_most n true = omega arith
two_at_most n false = omega arith

length_within : (n : ℕ) → length (written_length n) ≤ 2
unfolding written_length
length_within n = two_at_most n (nat_lt n 128)

pub datagram_size_within : (number : ℕ) (primary : List ℕ) (ps : List (List ℕ)) → length ps < 128
    → length (written_datagram (record { number = number; primary = primary; secondaries = ps })) ≤ 6 + length primary + packets_size ps
datagram_size_within number primary ps few =
    omega (arith, datagram_size_is number primary ps few, packet_size_is primary, length_within (length primary))

pub no_octets : (octets : List ℕ) → length octets ≡ 0 → octets ≡ []
no_octets [] h = refl
no_octets (o ∷ octets) h = cc

pub short_after : (ps rest : List (List ℕ)) (p : List ℕ) → ps ≡ p ∷ rest → AllByRecursion (λ q. length q ≤ 16383) ps → AllByRecursion (λ q. length q ≤ 16383) rest
short_after ps rest p e short = let P : List (List ℕ) → Type 0 = AllByRecursion (λ q. length q ≤ 16383) in let all : P (p ∷ rest) = subst P e short in all.1

pub no_packets_size : (ps : List (List ℕ)) → ps ≡ [] → packets_size ps ≡ 0
no_packets_size ps e = ap (λ (qs : List (List ℕ)). length (flat_map written_packet qs)) e
